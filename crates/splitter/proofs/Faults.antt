-- Words at fault, a pair at a time.
use Prim.Native.Nat.{ℕ, zero, suc, ◌+◌, ◌*◌, ◌/◌, ◌%◌, ◌≤◌, ◌<◌}
use mathlib.Core.Path.{◌≡◌, refl, sym, ap, subst, ◌∙◌}
use mathlib.Core.Bool.{Bool, true, false, ◌||◌}
use mathlib.Core.List.{List, [], ◌∷◌}
use native.Mathlib.Decide.{dec_le, dec_lt}
use native.Mathlib.Omega.{arith}
use borrow.Author.Tests.{lt-ltb, le-ltb, le-leb, lt-leb}
use lib.ListN.{length, get_or, take, drop, length-take, length-drop, drop_of_length-le}
use Rattle.std.proofs.lemmas.List.{drop-drop}
use lib.Dec.{ltb}
use Rattle.wire.specs.Elements.{ElementLaws}
use Rattle.gain_words.specs.Gains.{most_gain}
use Rattle.gain_words.specs.Pairs.{pair_fault, run_wrong}
use Rattle.gain_words.proofs.Walk.{pair_turn}

-- Some word of these is at fault.
abbrev pub faulty : List ℕ → Bool
faulty ws = ltb (pair_fault ws) (length ws)

double : (k : ℕ) → 2 * suc k ≡ suc (suc (2 * k))
double k = omega arith

step : (run gain : ℕ) (rest : List ℕ) → faulty (run ∷ gain ∷ rest) ≡ (run_wrong run || ltb most_gain gain || faulty rest)
unfolding pair_fault
step run gain rest = go (run_wrong run) refl
  where
    go : (b : Bool) → run_wrong run ≡ b → faulty (run ∷ gain ∷ rest) ≡ (b || ltb most_gain gain || faulty rest)
    go true e = rw e (lt-ltb 0 (suc (suc (length rest))) (omega arith))
    go false e =
        elim (dec_le gain most_gain) [
          | no h ↦ rw (e, lt-leb gain most_gain (omega arith), lt-ltb most_gain gain (omega arith)) (lt-ltb 1 (suc (suc (length rest))) (omega arith))
          | yes h ↦ rw (e, le-leb gain most_gain h, le-ltb most_gain gain h) (same (pair_fault rest) (length rest))
        ]
      where
        same : (m n : ℕ) → ltb (suc (suc m)) (suc (suc n)) ≡ ltb m n
        same m n =
            elim (dec_lt m n) [
              | yes h ↦ lt-ltb (suc (suc m)) (suc (suc n)) (omega arith) ∙ sym (lt-ltb m n h)
              | no h ↦ le-ltb (suc (suc m)) (suc (suc n)) (omega arith) ∙ sym (le-ltb m n (omega arith))
            ]

onward : (w r g t : Bool) → (w || (r || g || t)) ≡ (w || r || g || t)
onward true r g t = refl
onward false true g t = refl
onward false false g t = refl

module _ (ws : List ℕ) (i : ℕ) (wrong : Bool) where
  pub turn : {run gain : ℕ} → i + 1 < length ws → run ≡ get_or ws i 0 → gain ≡ get_or ws (i + 1) 0 → (wrong || faulty (drop i ws)) ≡ faulty ws
      → (wrong || run_wrong run || ltb most_gain gain || faulty (drop (i + 2) ws)) ≡ faulty ws
  turn {run} {gain} h r g e =
      sym (onward wrong (run_wrong run) (ltb most_gain gain) (faulty (drop (i + 2) ws)))
      ∙ rw (r, g) (ap (λ (b : Bool). wrong || b) (sym (ap faulty (pair_turn ws i h) ∙ step (get_or ws i 0) (get_or ws (i + 1) 0) (drop (i + 2) ws))) ∙ e)

  pub none : length ws ≤ i → (wrong || faulty (drop i ws)) ≡ faulty ws → wrong ≡ faulty ws
  unfolding pair_fault
  none h e = sym (last wrong) ∙ (rw (drop_of_length-le ws {i = i} h) at e)
    where
      last : (b : Bool) → (b || false) ≡ b
      last true = refl
      last false = refl

-- Some word of a list is at fault if one of its first pairs is, or one of the rest.
assoc : (a b c d : Bool) → (a || b || (c || d)) ≡ ((a || b || c) || d)
assoc true b c d = refl
assoc false true c d = refl
assoc false false c d = refl

pub in-parts : (k : ℕ) (ws : List ℕ) → faulty ws ≡ (faulty (take (2 * k) ws) || faulty (drop (2 * k) ws))
unfolding pair_fault
in-parts zero ws = refl
in-parts (suc k) [] = rw (double k)
in-parts (suc k) (run ∷ []) = rw (double k)
in-parts (suc k) (run ∷ gain ∷ rest) =
    rw (double k, step run gain rest, step run gain (take (2 * k) rest), in-parts k rest) (assoc (run_wrong run) (ltb most_gain gain) (faulty (take (2 * k) rest)) (faulty (drop (2 * k) rest)))

-- The next n words, which are whole pairs: a fault among them is one of the list, and without one
-- the list has a fault if those behind have.
module _ (ws : List ℕ) (i n : ℕ) (whole : n % 2 ≡ 0) where
  parted : faulty (drop i ws) ≡ (faulty (take n (drop i ws)) || faulty (drop (i + n) ws))
  parted =
      let twice : 2 * (n / 2) ≡ n = omega (arith, whole) in
      let rest = drop i ws in
      subst (λ (m : ℕ). faulty rest ≡ (faulty (take m rest) || faulty (drop m rest))) twice (in-parts (n / 2) rest)
      ∙ ap (λ (behind : List ℕ). faulty (take n rest) || faulty behind) (drop-drop n i ws)

  pub part_wrong : faulty (take n (drop i ws)) ≡ true → faulty (drop i ws) ≡ true
  part_wrong e = parted ∙ rw e

  pub part_right : faulty (take n (drop i ws)) ≡ false → faulty (drop i ws) ≡ faulty (drop (i + n) ws)
  part_right e = parted ∙ rw e

  pub part_even : i + n ≤ length ws → length (take n (drop i ws)) % 2 ≡ 0
  part_even h = let long : length (take n (drop i ws)) ≡ n = rw (length-take, length-drop) (omega arith) in omega (arith, whole, long)

-- Behind the end there is none.
pub none_behind : (ws : List ℕ) (i : ℕ) → length ws ≤ i → faulty (drop i ws) ≡ false
unfolding pair_fault
none_behind ws i h = rw (drop_of_length-le ws {i = i} h)

-- Whole pairs of elements are whole pairs of numbers.
pub even : {T : Type 0} (w : ℕ) {numbers : List T → List ℕ} → ElementLaws w numbers → (s : List T) → length s % (2 * w) ≡ 0
    → length (numbers s) % 2 ≡ 0
even zero l s e = absurd (omega (arith, l.some))
even (suc zero) l s e = omega (arith, e, l.counted s (2 * (length s / 2)) (omega arith))
even (suc (suc zero)) l s e = omega (arith, e, l.counted s (2 * (length s / 4)) (omega arith))
even (suc (suc (suc w))) l s e = absurd (omega (arith, l.few))
