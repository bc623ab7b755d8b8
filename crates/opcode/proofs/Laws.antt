-- What the loops keep: fields are passed one at a time, numbers of a list one or a stretch of them.
use Prim.Native.Nat.{ℕ, zero, suc, ◌+◌, ◌*◌, ◌-◌, ◌≤◌, ◌<◌}
use mathlib.Core.Path.{◌≡◌, refl}
use mathlib.Core.Bool.{Bool, true, false}
use mathlib.Core.List.{List}
use native.Mathlib.Decide.{dec_lt}
use native.Mathlib.Nat.{mul-le-mul_left}
use native.Mathlib.Numerals.{add-one}
use native.Mathlib.Omega.{arith}
use borrow.Author.Tests.{lt-ltb, le-ltb}
use lib.ListN.{length, get_or, drop, drop_of_length-le}
use lib.Seq.{drop-cons}
use Rattle.wire.specs.Numbers.{word_at}
use Rattle.opcode.specs.declared.Field.{Field}
use Rattle.opcode.specs.Fields.{from_to_but, span, fault, takes, number, words_at, rise, rise_from}
use Rattle.opcode.specs.Internal.{RisenTo}

-- How far m numbers from a place on rise (rule 5.5): the end; past one of them, or not; of the first k + 1 of them, whose fault is that of all, or which
-- rise, so that the count goes on from the last.
module _ (d : List ℕ) where
  rise-end : (at m : ℕ) → m ≤ 1 → rise (words_at d at m) ≡ m
  unfolding words_at rise rise_from
  rise-end at zero h = refl
  rise-end at (suc zero) h = refl
  rise-end at (suc (suc n)) h = absurd (omega arith)

  rise-up : (at m : ℕ) → 1 < m → word_at d at < word_at d (at + 2) → rise (words_at d at m) ≡ 1 + rise (words_at d (at + 2) (m - 1))
  unfolding words_at rise rise_from
  rise-up at zero h l = absurd (omega arith)
  rise-up at (suc zero) h l = absurd (omega arith)
  rise-up at (suc (suc n)) h l = let left : suc (suc n) - 1 ≡ suc n = omega arith in rw (lt-ltb _ _ l, left) (omega arith)

  rise-down : (at m : ℕ) → 1 < m → word_at d (at + 2) ≤ word_at d at → rise (words_at d at m) ≡ 1
  unfolding words_at rise rise_from
  rise-down at zero h l = absurd (omega arith)
  rise-down at (suc zero) h l = absurd (omega arith)
  rise-down at (suc (suc n)) h l = rw (le-ltb _ _ l)

  up_first : (k at : ℕ) → word_at d at < word_at d (at + 2) → rise (words_at d at (suc (suc k))) ≡ 1 + rise (words_at d (at + 2) (suc k))
  up_first k at l =
      let left : suc (suc k) - 1 ≡ suc k = omega arith in
      rw left at (rise-up at (suc (suc k)) (omega arith) l)

  rise-here : (k at m : ℕ) → k < m → rise (words_at d at (suc k)) ≤ k → rise (words_at d at m) ≡ rise (words_at d at (suc k))
  rise-here zero at m h e = absurd (omega (arith, rise-end at 1 (omega arith)))
  rise-here (suc k) at m h e =
      elim (dec_lt (word_at d at) (word_at d (at + 2))) [
        | yes l ↦
            let first = up_first k at l in
            omega (arith, rise-up at m (omega arith) l, rise-here k (at + 2) (m - 1) (omega arith) (omega arith))
        | no l ↦ omega (arith, rise-down at m (omega arith) (omega arith), rise-down at (suc (suc k)) (omega arith) (omega arith))
      ]

  rise-past : (k at m : ℕ) → k < m → k < rise (words_at d at (suc k)) → rise (words_at d at m) ≡ k + rise (words_at d (at + 2 * k) (m - k))
  rise-past zero at m h e =
      let here : at + 2 * 0 ≡ at = omega arith in
      let all : m - 0 ≡ m = omega arith in
      rw (here, all) (omega arith)
  rise-past (suc k) at m h e =
      let here : at + 2 * suc k ≡ at + 2 + 2 * k = omega arith in
      let left : m - suc k ≡ m - 1 - k = omega arith in
      elim (dec_lt (word_at d at) (word_at d (at + 2))) [
        | yes l ↦
            let first = up_first k at l in
            rw (here, left) (omega (arith, rise-up at m (omega arith) l, rise-past k (at + 2) (m - 1) (omega arith) (omega arith)))
        | no l ↦ absurd (omega (arith, rise-down at (suc (suc k)) (omega arith) (omega arith)))
      ]

-- The same for count numbers that are known to rise up to the i-th: none is left, the next one is not above it or is passed; a stretch of k steps has the fault, or is passed.
module _ (d : List ℕ) (at count : ℕ) where
  -- Before the first of them.
  pub risen-start : RisenTo d at count 0
  risen-start =
      let here : at + 2 * 0 ≡ at = omega arith in
      let all : count - 0 ≡ count = omega arith in
      (omega arith, rw (here, all) (omega arith))

  module _ (i : ℕ) (to : RisenTo d at count i) where
    pub risen-end : count ≤ i + 1 → rise (words_at d at count) ≡ count
    risen-end h = omega (arith, rise-end d (at + 2 * i) (count - i) (omega arith))

    pub risen-down : i + 1 < count → word_at d (at + 2 * i + 2) ≤ word_at d (at + 2 * i) → rise (words_at d at count) ≡ i + 1
    risen-down h l = omega (arith, rise-down d (at + 2 * i) (count - i) (omega arith) l)

    pub risen-up : i + 1 < count → word_at d (at + 2 * i) < word_at d (at + 2 * i + 2) → RisenTo d at count (i + 1)
    risen-up h l =
        let here : at + 2 * (i + 1) ≡ at + 2 * i + 2 = omega arith in
        let left : count - (i + 1) ≡ count - i - 1 = omega arith in
        (omega arith, rw (here, left) (omega (arith, rise-up d (at + 2 * i) (count - i) (omega arith) l)))

    module _ (k : ℕ) (more : i + k < count) where
      pub risen-here : rise (words_at d (at + 2 * i) (suc k)) ≤ k → rise (words_at d at count) ≡ i + rise (words_at d (at + 2 * i) (suc k))
      risen-here l = omega (arith, rise-here d k (at + 2 * i) (count - i) (omega arith) l)

      pub risen-past : k < rise (words_at d (at + 2 * i) (suc k)) → RisenTo d at count (i + k)
      risen-past l =
          let here : at + 2 * (i + k) ≡ at + 2 * i + 2 * k = omega arith in
          let left : count - (i + k) ≡ count - i - k = omega arith in
          (omega arith, rw (here, left) (omega (arith, rise-past d k (at + 2 * i) (count - i) (omega arith) l)))

-- Fields, from the i-th on: there is one, whose number it takes or not; or none is left.
abbrev pub field_at : List Field → ℕ → Field
field_at fs i = get_or fs i (from_to_but 0 0 0 0 0)

module _ (fs : List Field) (i : ℕ) where
  module _ (more : i < length fs) where
    pub span-turn : span (drop i fs) ≡ (field_at fs i).size + span (drop (i + 1) fs)
    span-turn = rw (add-one i, drop-cons fs i (from_to_but 0 0 0 0 0) more) refl

    module _ (d : List ℕ) (at : ℕ) {v : ℕ} {r : Bool} (there : v ≡ number (field_at fs i).size d at) (answer : r ≡ takes (field_at fs i) v) where
      pub fault-turn : r ≡ true → fault (drop i fs) d at ≡ fault (drop (i + 1) fs) d (at + (field_at fs i).size)
      unfolding fault
      fault-turn t = rw (add-one i, drop-cons fs i (from_to_but 0 0 0 0 0) more, ← there, ← answer, t)

      pub fault-stop : r ≡ false → fault (drop i fs) d at ≡ at
      unfolding fault
      fault-stop t = rw (drop-cons fs i (from_to_but 0 0 0 0 0) more, ← there, ← answer, t)

  pub fault-done : length fs ≤ i → (d : List ℕ) (at : ℕ) → fault (drop i fs) d at ≡ at
  unfolding fault
  fault-done h d at = rw (drop_of_length-le fs {i = i} h)

-- Two bytes multiplied.
pub product : (m n : ℕ) → m < 256 → n < 256 → m * n < 65536
product m n hm hn = let most : n ≤ 255 = omega arith in omega (arith, mul-le-mul_left m most)
