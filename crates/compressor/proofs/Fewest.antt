-- The pairs of gains expand to the gains, can be sent, and are the fewest. One gain more in front of pairs does one of three things to
-- them, and each law follows from what these do.
use Prim.Native.Nat.{ℕ, zero, suc, ◌+◌, ◌*◌, ◌/◌, ◌%◌, ◌≤◌, ◌<◌}
use mathlib.Core.Path.{◌≡◌, refl, ◌∙◌}
use mathlib.Core.Bool.{Bool, true, false}
use mathlib.Core.List.{List, [], ◌∷◌, ◌++◌}
use native.Mathlib.Omega.{arith}
use borrow.Author.Tests.{eqb-true, eq-eqb}
use lib.ListN.{length, get_or, replicate}
use lib.Dec.{eqb}
use Rattle.gain_words.specs.Pairs.{expand, sum_runs}
use Rattle.gain_words.specs.Plain.{Pairs, none, pair}
use Rattle.compressor.specs.Compress.{push, compressed}
use Rattle.compressor.specs.Plain.{Compressible, FewestPairs}

-- One gain more in front of pairs: it opens a run, in front of them or of a word alone, or lengthens the first.
pub data Pushed (gain : ℕ) : List ℕ → List ℕ → Type 0 where
  opens : {ws : List ℕ} → Pushed gain ws (1 ∷ gain ∷ ws)
  alone : {run : ℕ} → Pushed gain (run ∷ []) (1 ∷ gain ∷ [])
  longer : {run : ℕ} {rest : List ℕ} → Pushed gain (run ∷ gain ∷ rest) (suc run ∷ gain ∷ rest)

pub pushed : (gain : ℕ) (ws : List ℕ) → Pushed gain ws (push gain ws)
unfolding push
pushed gain [] = opens
pushed gain (run ∷ []) = alone
pushed gain (run ∷ next ∷ rest) = go (eqb gain next) refl
  where
    go : (b : Bool) → eqb gain next ≡ b → Pushed gain (run ∷ next ∷ rest) (push gain (run ∷ next ∷ rest))
    go true e = rw (e, ← eqb-true gain next e) longer
    go false e = rw e opens

-- What it does to the gains, the sum of runs, and the length.
pushed-gains : {gain : ℕ} {ws vs : List ℕ} → Pushed gain ws vs → expand vs ≡ gain ∷ expand ws
unfolding expand
pushed-gains opens = refl
pushed-gains alone = refl
pushed-gains longer = refl

pushed-sum : {gain : ℕ} {ws vs : List ℕ} → Pushed gain ws vs → sum_runs vs ≡ 1 + sum_runs ws
unfolding sum_runs
pushed-sum opens = refl
pushed-sum alone = refl
pushed-sum longer = omega arith

pushed-even : {gain : ℕ} {ws vs : List ℕ} → Pushed gain ws vs → length ws % 2 ≡ 0 → length vs % 2 ≡ 0
pushed-even opens e = omega arith
pushed-even alone e = refl
pushed-even longer e = e

pushed-length : {gain : ℕ} {ws vs : List ℕ} → Pushed gain ws vs → length vs ≤ 2 + length ws
pushed-length opens = omega arith
pushed-length alone = omega arith
pushed-length longer = omega arith

-- The same gain once more lengthens what the first opened or lengthened.
pub pushed-again : {gain : ℕ} {ws vs : List ℕ} → Pushed gain ws vs → length (push gain vs) ≡ length vs
unfolding push
pushed-again {gain} opens = rw (eq-eqb gain gain refl)
pushed-again {gain} alone = rw (eq-eqb gain gain refl)
pushed-again {gain} longer = rw (eq-eqb gain gain refl)

pushed-sent : {gain : ℕ} {ws vs : List ℕ} → Pushed gain ws vs → gain ≤ 8191 → sum_runs ws < 2016 → Pairs ws → Pairs vs
unfolding sum_runs
pushed-sent opens g s p = pair {run = 1} (omega arith) (omega arith) g p
pushed-sent alone g s p = pair {run = 1} (omega arith) (omega arith) g none
pushed-sent (longer {run = n}) g s (pair some few small rest) = pair {run = suc n} (omega arith) (omega arith) g rest

-- The pairs of gains expand to the gains.
pub expand-compressed : (gains : List ℕ) → expand (compressed gains) ≡ gains
unfolding compressed expand
expand-compressed [] = refl
expand-compressed (gain ∷ gains) = pushed-gains (pushed gain (compressed gains)) ∙ rw (expand-compressed gains)

-- Their runs sum up to the number of gains.
pub sum-compressed : (gains : List ℕ) → sum_runs (compressed gains) ≡ length gains
unfolding compressed sum_runs
sum-compressed [] = refl
sum-compressed (gain ∷ gains) = omega (arith, pushed-sum (pushed gain (compressed gains)), sum-compressed gains)

-- They are two words each, and at most as many as the gains.
pub compressed-even : (gains : List ℕ) → length (compressed gains) % 2 ≡ 0
unfolding compressed
compressed-even [] = refl
compressed-even (gain ∷ gains) = pushed-even (pushed gain (compressed gains)) (compressed-even gains)

pub compressed-two : (gains : List ℕ) → length (compressed gains) ≡ 2 * (length (compressed gains) / 2)
compressed-two gains = omega (arith, compressed-even gains)

pub compressed-length : (gains : List ℕ) → length (compressed gains) ≤ 2 * length gains
unfolding compressed
compressed-length [] = omega arith
compressed-length (gain ∷ gains) = omega (arith, pushed-length (pushed gain (compressed gains)), compressed-length gains)

-- Each is in range.
pub compressed-pairs : (gains : List ℕ) → length gains ≤ 2016 → ((k : ℕ) → get_or gains k 0 ≤ 8191) → Pairs (compressed gains)
unfolding compressed
compressed-pairs [] few small = none
compressed-pairs (gain ∷ gains) few small =
    pushed-sent (pushed gain (compressed gains)) (small 0) (omega (arith, sum-compressed gains))
    (compressed-pairs gains (omega arith) (λ k. small (suc k)))

-- A run in front of gains takes one pair more at most.
pub run-in-front : (n gain : ℕ) (gains : List ℕ) → length (compressed (replicate n gain ++ gains)) ≤ 2 + length (compressed gains)
unfolding compressed
run-in-front zero gain gains = omega arith
run-in-front (suc zero) gain gains = pushed-length (pushed gain (compressed gains))
run-in-front (suc (suc n)) gain gains =
    omega (
      arith,
      pushed-again (pushed gain (compressed (replicate n gain ++ gains))),
      run-in-front (suc n) gain gains,
    )

-- So no words that expand to the gains are fewer, whatever their runs.
pub fewest-words : (vs : List ℕ) → length (compressed (expand vs)) ≤ length vs
unfolding compressed expand
fewest-words [] = omega arith
fewest-words (run ∷ []) = omega arith
fewest-words (run ∷ gain ∷ rest) = omega (arith, run-in-front run gain (expand rest), fewest-words rest)

pub compressed-fewest : (gains vs : List ℕ) → expand vs ≡ gains → length (compressed gains) ≤ length vs
compressed-fewest gains vs e = rw e at (fewest-words vs)

-- All of it.
pub fewest-pairs : (gains : List ℕ) → Compressible gains → FewestPairs gains (length (compressed gains) / 2) (compressed gains)
fewest-pairs gains r =
    record {
      many = compressed-two gains;
      expands = expand-compressed gains;
      sent = compressed-pairs gains r.few r.small;
      fewest = compressed-fewest gains;
    }
