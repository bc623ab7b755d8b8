-- Where the first word at fault stands: each word before it is right, and it is not.
use Prim.Native.Nat.{ℕ, zero, suc, ◌+◌, ◌*◌, ◌%◌, ◌≤◌, ◌<◌}
use mathlib.Core.Path.{◌≡◌, refl}
use mathlib.Core.List.{List, [], ◌∷◌}
use native.Mathlib.Decide.{dec_le}
use native.Mathlib.Omega.{arith}
use borrow.Author.Tests.{le-leb, lt-leb}
use lib.ListN.{length, get_or}
use Rattle.gain_words.specs.Gains.{most_gain, first_large}
use Rattle.gain_words.specs.Pairs.{colour_gains, pair_fault}

-- Of so many, n is the index of the first that is wrong; of any search along a list, an element at a time.
pub record FirstWrong (Right : ℕ → Type 0) (long n : ℕ) : Type 0 where
  pub before : (i : ℕ) → i < n → Right i
  pub here : n < long → ¬ Right n

pub wrong-none : {Right : ℕ → Type 0} → FirstWrong Right 0 0
wrong-none = record { before = λ i h. absurd (omega arith); here = λ h r. omega arith }

pub wrong-here : {Right : ℕ → Type 0} {long : ℕ} → ¬ Right 0 → FirstWrong Right long 0
wrong-here w = record { before = λ i h. absurd (omega arith); here = λ h. w }

pub wrong-past : {Right : ℕ → Type 0} {long n : ℕ} → Right 0 → FirstWrong (λ i. Right (suc i)) long n → FirstWrong Right (suc long) (suc n)
wrong-past {Right} {n = n} r f = record { before = go; here = λ h. f.here (omega arith) }
  where
    go : (i : ℕ) → i < suc n → Right i
    go zero h = r
    go (suc i) h = f.before i (omega arith)

-- A word is within the range that its index has.
abbrev pub Ranged : (ℕ → ℕ × ℕ) → List ℕ → ℕ → Type 0
Ranged range ws i = ((range i).0 ≤ get_or ws i 0) × (get_or ws i 0 ≤ (range i).1)

-- Gains have one range. In pairs a run has an even index, and a gain an odd one.
abbrev pub gain_range : ℕ → ℕ × ℕ
gain_range i = (0, 8191)

abbrev pub pair_range : ℕ → ℕ × ℕ
pair_range zero = (1, 2016)
pair_range (suc zero) = (0, 8191)
pair_range (suc (suc i)) = pair_range i

pub run-range : (k : ℕ) → pair_range (2 * k) ≡ (1, 2016)
run-range zero = refl
run-range (suc k) = let e : 2 * suc k ≡ suc (suc (2 * k)) = omega arith in rw e (run-range k)

pub gain-range : (k : ℕ) → pair_range (2 * k + 1) ≡ (0, 8191)
gain-range zero = refl
gain-range (suc k) = let e : 2 * suc k + 1 ≡ suc (suc (2 * k + 1)) = omega arith in rw e (gain-range k)

pub gains-first : (ws : List ℕ) → FirstWrong (Ranged gain_range ws) (length ws) (first_large ws)
unfolding first_large
gains-first [] = wrong-none
gains-first (w ∷ ws) =
    elim (dec_le w most_gain) [
      | yes l ↦ rw (le-leb w most_gain l) (wrong-past (omega arith) (gains-first ws))
      | no l ↦ rw (lt-leb w most_gain (omega arith)) (wrong-here (λ r. omega arith))
    ]

pub pairs_first : (ws : List ℕ) → length ws % 2 ≡ 0 → FirstWrong (Ranged pair_range ws) (length ws) (pair_fault ws)
unfolding pair_fault
pairs_first [] e = wrong-none
pairs_first (run ∷ []) e = absurd (omega arith)
pairs_first (run ∷ gain ∷ rest) e =
    elim (dec_le 1 run) [
      | no h ↦ rw (lt-leb 1 run (omega arith)) (wrong-here (λ r. omega arith))
      | yes h ↦
          elim (dec_le run colour_gains) [
            | no k ↦ rw (le-leb 1 run h, lt-leb run colour_gains (omega arith)) (wrong-here (λ r. omega arith))
            | yes k ↦
                elim (dec_le gain most_gain) [
                  | no l ↦
                      rw (le-leb 1 run h, le-leb run colour_gains k, lt-leb gain most_gain (omega arith))
                      (wrong-past (h, k) (wrong-here (λ r. omega arith)))
                  | yes l ↦
                      rw (le-leb 1 run h, le-leb run colour_gains k, le-leb gain most_gain l)
                      (wrong-past (h, k) (wrong-past (omega arith) (pairs_first rest (omega arith))))
                ]
          ]
    ]
