-- Bits of a number as a list: there and back, one of them set or cleared, and the language's counts of them.
use Prim.Native.Nat.{ℕ, zero, suc, ◌+◌, ◌-◌, ◌*◌, ◌/◌, ◌%◌, ◌^◌, ◌≤◌, ◌<◌, min}
use mathlib.Core.Path.{◌≡◌, refl, ap, ◌∙◌}
use mathlib.Core.Bool.{Bool, true, false, cond}
use mathlib.Core.List.{List, [], ◌∷◌}
use native.Mathlib.Decide.{ℕ_discrete, dec_lt}
use native.Mathlib.Nat.{pow-suc, max-zero, div-div-eq-div-mul, pow-succ'}
use native.Mathlib.Omega.{arith}
use borrow.Author.Tests.{eq-eqb, ne_eqb, lt-ltb, le-ltb}
use lib.ListN.{length, get_or, set}
use lib.Dec.{eqb, ltb}
use lib.Bits.{bit_and, bit_or, and_step, or_step, or_zero_r}
use lib.Pow.{pow-lt, pow_pos}
use lib.Count.{ones, ones_step, count_trailing_zeros}
use Rattle.std.specs.Prelude.{Some, None}
use Rattle.std.specs.Option.{unwrap_or}
use Rattle.row_mark.specs.Bits.{bits_of, of_bits, bit_at, count_true, first_true, first_set}

pub length-bits : (k n : ℕ) → length (bits_of k n) ≡ k
unfolding bits_of
length-bits zero n = refl
length-bits (suc k) n = ap suc (length-bits k (n / 2))

-- A bit below the others.
bits-pair : (k q d : ℕ) → d < 2 → bits_of (suc k) (q * 2 + d) ≡ eqb d 1 ∷ bits_of k q
unfolding bits_of
bits-pair k q d h =
    let low : (q * 2 + d) % 2 ≡ d = omega arith in
    let high : (q * 2 + d) / 2 ≡ q = omega arith in
    rw (low, high)

-- Two to the next power, halved.
half : (r : ℕ) → 2 ^ suc r / 2 ≡ 2 ^ r
half r = rw pow-suc (omega arith)

even : (r : ℕ) → 2 ^ suc r % 2 ≡ 0
even r = rw pow-suc (omega arith)

-- A number with one bit set: that bit, or one further up.
or-low : (m : ℕ) → bit_or m (2 ^ 0) ≡ m / 2 * 2 + 1
or-low m = or_step m 1 ∙ rw or_zero_r (ap (λ (d : ℕ). m / 2 * 2 + d) (omega arith))

or-high : (m r : ℕ) → bit_or m (2 ^ suc r) ≡ bit_or (m / 2) (2 ^ r) * 2 + m % 2
or-high m r = or_step m (2 ^ suc r) ∙ rw (half r, even r, max-zero (m % 2))

pub bit-set : (k m r : ℕ) → r < k → bits_of k (bit_or m (2 ^ r)) ≡ set (bits_of k m) r true
unfolding bits_of
bit-set zero m r h = absurd (omega arith)
bit-set (suc k) m zero h = rw (or-low m) (bits-pair k (m / 2) 1 (omega arith))
bit-set (suc k) m (suc r) h =
    rw (or-high m r) (bits-pair k (bit_or (m / 2) (2 ^ r)) (m % 2) (omega arith) ∙ rw (bit-set k (m / 2) r (omega arith)))

-- A number with a bit set is at least that bit.
pub bit-there : (m r : ℕ) → 2 ^ r ≤ bit_or m (2 ^ r)
bit-there m zero = rw (or-low m) (omega arith)
bit-there m (suc r) = rw (or-high m r, pow-suc) (omega (arith, bit-there (m / 2) r))

-- Set, and taken away again: cleared.
pub bit-clear : (k m r : ℕ) → r < k → bits_of k (bit_or m (2 ^ r) - 2 ^ r) ≡ set (bits_of k m) r false
unfolding bits_of
bit-clear zero m r h = absurd (omega arith)
bit-clear (suc k) m zero h =
    let e : m / 2 * 2 + 1 - 2 ^ 0 ≡ m / 2 * 2 + 0 = omega arith in
    rw (or-low m, e) (bits-pair k (m / 2) 0 (omega arith))
bit-clear (suc k) m (suc r) h =
    let there = bit-there (m / 2) r in
    let e : bit_or (m / 2) (2 ^ r) * 2 + m % 2 - 2 ^ r * 2
    ≡ (bit_or (m / 2) (2 ^ r) - 2 ^ r) * 2 + m % 2 = omega arith in
    rw (or-high m r, pow-suc, e)
    (bits-pair k (bit_or (m / 2) (2 ^ r) - 2 ^ r) (m % 2) (omega arith)
    ∙ rw (bit-clear k (m / 2) r (omega arith)))

-- A number that has all bits but that one.
all-half : (k : ℕ) → (2 ^ suc k - 1) / 2 ≡ 2 ^ k - 1
all-half k = rw pow-suc (omega (arith, pow_pos k))

all-odd : (k : ℕ) → (2 ^ suc k - 1) % 2 ≡ 1
all-odd k = rw pow-suc (omega (arith, pow_pos k))

keeps-all : (k m : ℕ) → bits_of k (bit_and m (2 ^ k - 1)) ≡ bits_of k m
unfolding bits_of
keeps-all zero m = refl
keeps-all (suc k) m =
    let low : min (m % 2) 1 ≡ m % 2 = omega arith in
    rw (and_step, all-half k, all-odd k, low)
    (bits-pair k (bit_and (m / 2) (2 ^ k - 1)) (m % 2) (omega arith) ∙ rw (keeps-all k (m / 2)))

-- All bits kept but that one: cleared.
pub bit-masked : (k m r : ℕ) → r < k → bits_of k (bit_and m (2 ^ k - 1 - 2 ^ r)) ≡ set (bits_of k m) r false
unfolding bits_of
bit-masked zero m r h = absurd (omega arith)
bit-masked (suc k) m zero h =
    let few : (2 ^ suc k - 1 - 2 ^ 0) / 2 ≡ 2 ^ k - 1 = rw pow-suc (omega (arith, pow_pos k)) in
    let odd : (2 ^ suc k - 1 - 2 ^ 0) % 2 ≡ 0 = rw pow-suc (omega (arith, pow_pos k)) in
    let low : min (m % 2) 0 ≡ 0 = omega arith in
    rw (and_step, few, odd, low)
    (bits-pair k (bit_and (m / 2) (2 ^ k - 1)) 0 (omega arith) ∙ rw (keeps-all k (m / 2)))
bit-masked (suc k) m (suc r) h =
    let less : 2 ^ r < 2 ^ k = pow-lt (omega arith) in
    let few : (2 ^ suc k - 1 - 2 ^ suc r) / 2 ≡ 2 ^ k - 1 - 2 ^ r = rw (pow-suc, pow-suc) (omega arith) in
    let odd : (2 ^ suc k - 1 - 2 ^ suc r) % 2 ≡ 1 = rw (pow-suc, pow-suc) (omega arith) in
    let low : min (m % 2) 1 ≡ m % 2 = omega arith in
    rw (and_step, few, odd, low)
    (bits-pair k (bit_and (m / 2) (2 ^ k - 1 - 2 ^ r)) (m % 2) (omega arith) ∙ rw (bit-masked k (m / 2) r (omega arith)))

-- ---- Truths and bits.

pub bit-at : (k n r : ℕ) → r < k → get_or (bits_of k n) r false ≡ eqb (bit_at n r) 1
unfolding bits_of
bit-at zero n r h = absurd (omega arith)
bit-at (suc k) n zero h = let e : n / 1 ≡ n = omega arith in rw e
bit-at (suc k) n (suc r) h = bit-at k (n / 2) r (omega arith) ∙ rw (pow-succ', ← div-div-eq-div-mul n 2 (2 ^ r))

pub bits_back : (bs : List Bool) → bits_of (length bs) (of_bits bs) ≡ bs
unfolding bits_of of_bits
bits_back [] = refl
bits_back (true ∷ bs) =
    let e : 1 + 2 * of_bits bs ≡ of_bits bs * 2 + 1 = omega arith in
    rw e (bits-pair (length bs) (of_bits bs) 1 (omega arith) ∙ rw (bits_back bs))
bits_back (false ∷ bs) =
    let e : 0 + 2 * of_bits bs ≡ of_bits bs * 2 + 0 = omega arith in
    rw e (bits-pair (length bs) (of_bits bs) 0 (omega arith) ∙ rw (bits_back bs))

pub number-back : (k n : ℕ) → n < 2 ^ k → of_bits (bits_of k n) ≡ n
unfolding bits_of of_bits
number-back zero n h = omega arith
number-back (suc k) n h =
    let small : n / 2 < 2 ^ k = omega (arith, rw pow-suc at h) in
    rw (number-back k (n / 2) small) (go (ℕ_discrete (n % 2) 1))
  where
    go : Dec (n % 2 ≡ 1) → cond (eqb (n % 2) 1) 1 0 + 2 * (n / 2) ≡ n
    go (yes e) = rw (eq-eqb _ _ e) (omega arith)
    go (no e) = rw (ne_eqb _ _ e) (omega arith)

-- ---- The language's counts.

pub count_ones : (k n : ℕ) → n < 2 ^ k → ones n ≡ count_true (bits_of k n)
unfolding bits_of count_true ones
count_ones zero n h = let e : n ≡ 0 = omega arith in rw e
count_ones (suc k) n h =
    let small : n / 2 < 2 ^ k = omega (arith, rw pow-suc at h) in
    ones_step n ∙ rw (count_ones k (n / 2) small) (go (ℕ_discrete (n % 2) 1))
  where
    go : Dec (n % 2 ≡ 1) → n % 2 + count_true (bits_of k (n / 2)) ≡ cond (eqb (n % 2) 1) 1 0 + count_true (bits_of k (n / 2))
    go (yes e) = rw (eq-eqb _ _ e) (omega arith)
    go (no e) = rw (ne_eqb _ _ e) (omega arith)

pub first-set : (k n : ℕ) → count_trailing_zeros k n ≡ first_true (bits_of k n)
unfolding bits_of first_true count_trailing_zeros
first-set zero n = refl
first-set (suc k) n =
    elim (ℕ_discrete (n % 2) 1) [
      | yes e ↦ rw e
      | no e ↦ let none : n % 2 ≡ 0 = omega arith in rw (none, first-set k (n / 2))
    ]

-- Some bit of a number other than 0 is set.
pub first-inside : (k n : ℕ) → n < 2 ^ k → 0 < n → first_true (bits_of k n) < k
unfolding bits_of first_true
first-inside zero n h some = absurd (omega arith)
first-inside (suc k) n h some =
    elim (ℕ_discrete (n % 2) 1) [
      | yes e ↦ rw (eq-eqb _ _ e) (omega arith)
      | no e ↦
          let small : n / 2 < 2 ^ k = omega (arith, rw pow-suc at h) in
          rw (ne_eqb _ _ e) (omega (arith, first-inside k (n / 2) small (omega arith)))
    ]

-- Neither is more than the list is long.
pub count-few : (bs : List Bool) → count_true bs ≤ length bs
unfolding count_true
count-few [] = omega arith
count-few (true ∷ bs) = omega (arith, count-few bs)
count-few (false ∷ bs) = omega (arith, count-few bs)

pub first-few : (bs : List Bool) → first_true bs ≤ length bs
unfolding first_true
first-few [] = omega arith
first-few (true ∷ bs) = omega arith
first-few (false ∷ bs) = omega (arith, first-few bs)

-- The length in place of no bit.
pub first-or : (k n : ℕ) → unwrap_or (first_set (bits_of k n)) k ≡ first_true (bits_of k n)
first-or k n = rw length-bits (go (dec_lt (first_true (bits_of k n)) k))
  where
    go : Dec (first_true (bits_of k n) < k)
        → unwrap_or (cond (ltb (first_true (bits_of k n)) k) (Some (first_true (bits_of k n))) None) k ≡ first_true (bits_of k n)
    go (yes l) = rw (lt-ltb _ _ l)
    go (no l) = rw (le-ltb (first_true (bits_of k n)) k (omega arith)) (omega (arith, first-few (bits_of k n), length-bits k n))
