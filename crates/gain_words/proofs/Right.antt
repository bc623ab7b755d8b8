-- The index of the first word at fault is the list's length exactly if none is.
use Prim.Native.Nat.{ℕ, suc, ◌*◌, ◌%◌, ◌≤◌}
use mathlib.Core.Path.{◌≡◌, refl, ap}
use mathlib.Core.List.{List, [], ◌∷◌}
use mathlib.Core.Bool.{Bool, true, false, cond, not, ◌&&◌}
use native.Mathlib.Decide.{dec_le, dec_lt}
use native.Mathlib.Omega.{arith}
use borrow.Author.Tests.{leb-true, le-leb, lt-leb}
use lib.ListN.{length, drop, get_or, length-drop, get_or-eq_default}
use lib.Dec.{leb}
use Rattle.wire.specs.Tables.{words}
use Rattle.wire.proofs.Tables.{length_pairs}
use Rattle.wire.proofs.Tests.{told}
use Rattle.gain_words.specs.Gains.{most_gain, first_large}
use Rattle.gain_words.specs.Pairs.{colour_gains, run_wrong, pair_fault}
use Rattle.gain_words.specs.Plain.{Pairs, none, pair}
use Rattle.gain_words.proofs.Places.{gains-first}

-- Gains.
pub small-gains : (ws : List ℕ) → ((k : ℕ) → get_or ws k 0 ≤ 8191) → first_large ws ≡ length ws
unfolding first_large
small-gains [] h = refl
small-gains (w ∷ ws) h = rw (le-leb w most_gain (omega (arith, h 0))) (ap suc (small-gains ws (λ k. h (suc k))))

pub gains-small : (ws : List ℕ) → length ws ≤ first_large ws → (k : ℕ) → get_or ws k 0 ≤ 8191
gains-small ws h k =
    elim (dec_lt k (length ws))
    [ yes l ↦ ((gains-first ws).before k (omega arith)).1 | no l ↦ omega (arith, get_or-eq_default ws 0 {n = k} (omega arith)) ]

large-few : (ws : List ℕ) → first_large ws ≤ length ws
unfolding first_large
large-few [] = omega arith
large-few (w ∷ ws) =
    elim (dec_le w most_gain)
    [ yes l ↦ rw (le-leb w most_gain l) (omega (arith, large-few ws)) | no l ↦ rw (lt-leb w most_gain (omega arith)) (omega arith) ]

-- Pairs.
-- Within two ends.
within : (low high n : ℕ) → low ≤ n → n ≤ high → not (leb low n && leb n high) ≡ false
within low high n h k = rw (le-leb low n h, le-leb n high k)

run-right : (run : ℕ) → 1 ≤ run → run ≤ 2016 → run_wrong run ≡ false
run-right run h k = within _ colour_gains run (omega arith) k

-- A pair at the front, of words that have no fault.
record Passed (run gain : ℕ) (rest : List ℕ) : Type 0 where
  some : 1 ≤ run
  few : run ≤ 2016
  small : gain ≤ 8191
  behind : length rest ≤ pair_fault rest

pair-passed : (run gain : ℕ) (rest : List ℕ) → length (run ∷ gain ∷ rest) ≤ pair_fault (run ∷ gain ∷ rest) → Passed run gain rest
unfolding pair_fault
pair-passed run gain rest h = go (run_wrong run) (leb gain most_gain) refl refl h
  where
    go : (wrong small : Bool) → run_wrong run ≡ wrong → leb gain most_gain ≡ small
        → length (run ∷ gain ∷ rest) ≤ cond wrong 0 (cond small (suc (suc (pair_fault rest))) 1) → Passed run gain rest
    go true small e f h = absurd (omega arith)
    go false false e f h = absurd (omega arith)
    go false true e f h =
        record { some = search (told, e); few = search (told, e); small = omega (arith, leb-true gain most_gain f); behind = omega arith }

pub fault-pairs : (ws : List ℕ) → length ws ≤ pair_fault ws → Pairs ws
unfolding pair_fault
fault-pairs [] h = none
fault-pairs (run ∷ []) h = absurd (omega arith)
fault-pairs (run ∷ gain ∷ rest) h =
    let p = pair-passed run gain rest h in
    pair p.some p.few p.small (fault-pairs rest p.behind)

pub pairs-fault : {ws : List ℕ} → Pairs ws → pair_fault ws ≡ length ws
unfolding pair_fault
pairs-fault none = refl
pairs-fault (pair {run = run} {gain = gain} h k l r) =
    rw (run-right run h k, le-leb gain most_gain (omega arith)) (ap suc (ap suc (pairs-fault r)))

-- Two words a pair.
pub pairs-even : {ws : List ℕ} → Pairs ws → length ws % 2 ≡ 0
pairs-even none = refl
pairs-even (pair h k l r) = omega (arith, pairs-even r)

fault-few : (ws : List ℕ) → pair_fault ws ≤ length ws
unfolding pair_fault
fault-few [] = omega arith
fault-few (run ∷ []) = omega arith
fault-few (run ∷ gain ∷ rest) = go (run_wrong run) (leb gain most_gain) (fault-few rest)
  where
    go : (wrong small : Bool) {n : ℕ} → n ≤ length rest → cond wrong 0 (cond small (suc (suc n)) 1) ≤ length (run ∷ gain ∷ rest)
    go true small h = omega arith
    go false true h = omega arith
    go false false h = omega arith

-- The index of a word at fault, among words as bytes from a place on, is a small number.
words-bound : (s : List ℕ) (at : ℕ) → 2 * length (words (drop at s)) ≤ length s
words-bound s at = rw (length_pairs, length-drop) (omega arith)

pub large-bound : (s : List ℕ) (at : ℕ) → 2 * first_large (words (drop at s)) ≤ length s
large-bound s at = omega (arith, words-bound s at, large-few (words (drop at s)))

pub fault-bound : (s : List ℕ) (at : ℕ) → 2 * pair_fault (words (drop at s)) ≤ length s
fault-bound s at = omega (arith, words-bound s at, fault-few (words (drop at s)))
