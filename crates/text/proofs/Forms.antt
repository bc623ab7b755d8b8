-- Rule 9.2: what the definitions make is right, said apart from how it is made: decimal text is digits alone, reads back and has no 0 in front;
-- hex is two upper-case digits for each byte, behind a blank.
use Prim.Native.Nat.{ℕ, zero, suc, ◌+◌, ◌*◌, ◌-◌, ◌/◌, ◌%◌, ◌^◌, ◌≤◌, ◌<◌}
use mathlib.Core.Path.{◌≡◌, refl}
use mathlib.Core.List.{List, [], ◌∷◌, ◌++◌}
use native.Mathlib.Nat.{pow-succ'}
use native.Mathlib.Omega.{arith}
use native.Mathlib.Decide.{dec_lt}
use borrow.Author.Tests.{lt-ltb, le-ltb}
use lib.ListN.{length, take, get_or, get_or-append}
use Rattle.text.specs.Text.{digit, digits, decimal, hex}
use Rattle.text.specs.Plain.{value_of, Digits, last, more, Decimal, HexDigit, InHex, none, byte, Hex}
use Rattle.text.proofs.Number.{digits-one, digits_more, digits-most, digits-some, few}
use Rattle.text.proofs.Bytes as bytes

pub length-hex : (bs : List ℕ) → length (hex bs) ≡ 3 * length bs
length-hex bs = bytes.length-hex bs

pub length-decimal : (n : ℕ) → (1 ≤ length (decimal n)) × (length (decimal n) ≤ 20)
length-decimal n = (digits-some 19 n, digits-most 20 n)

-- ---- Decimal

digit-small : (d : ℕ) → d < 10 → digit d ≡ 48 + d
digit-small d h = rw (lt-ltb d 10 h)

-- The first digit is not touched by one that comes behind.
first-same : (k n d : ℕ) → get_or (digits (suc k) n ++ (d ∷ [])) 0 0 ≡ get_or (digits (suc k) n) 0 0
first-same k n d = get_or-append (digits (suc k) n) (d ∷ []) 0 0 (digits-some k n)

digits-first : (k n : ℕ) → (48 ≤ get_or (digits (suc k) n) 0 0) × (get_or (digits (suc k) n) 0 0 ≤ 57)
unfolding digits
digits-first zero n =
    elim (dec_lt n 10) [
      | yes h ↦ rw (digits-one zero n h, digit-small n h) (omega arith, omega arith)
      | no h ↦ rw (digits_more zero n (omega arith), digit-small (n % 10) (omega arith)) (omega arith, omega arith)
    ]
digits-first (suc k) n =
    elim (dec_lt n 10) [
      | yes h ↦ rw (digits-one (suc k) n h, digit-small n h) (omega arith, omega arith)
      | no h ↦ rw (digits_more (suc k) n (omega arith), first-same k (n / 10) (digit (n % 10))) (digits-first k (n / 10))
    ]

pub decimal-first : (n : ℕ) → (48 ≤ get_or (decimal n) 0 0) × (get_or (decimal n) 0 0 ≤ 57)
decimal-first n = digits-first 19 n

-- It reads back: the number before the last digit, ten times, and that digit.
value-append : (v : ℕ) (s t : List ℕ) → value_of v (s ++ t) ≡ value_of (value_of v s) t
value-append v [] t = refl
value-append v (c ∷ s) t = value-append (10 * v + (c - 48)) s t

only-append : {s t : List ℕ} → Digits s → Digits t → Digits (s ++ t)
only-append last e = e
only-append (more l h d) e = more l h (only-append d e)

only-digit : (d : ℕ) → d < 10 → Digits (digit d ∷ [])
only-digit d h = rw (digit-small d h) (more {c = 48 + d} (omega arith) (omega arith) last)

digits-only : (k n : ℕ) → Digits (digits k n)
unfolding digits
digits-only zero n = last
digits-only (suc k) n =
    elim (dec_lt n 10) [
      | yes h ↦ rw (digits-one k n h) (only-digit n h)
      | no h ↦ rw (digits_more k n (omega arith)) (only-append (digits-only k (n / 10)) (only-digit (n % 10) (omega arith)))
    ]

digits_value : (k n : ℕ) → n < 10 ^ suc k → value_of 0 (digits (suc k) n) ≡ n
digits_value zero n small = let h : n < 10 = omega arith in rw (digits-one zero n h, digit-small n h) (omega arith)
digits_value (suc k) n small =
    elim (dec_lt n 10) [
      | yes h ↦ rw (digits-one (suc k) n h, digit-small n h) (omega arith)
      | no h ↦
          let fewer : n / 10 < 10 ^ suc k = omega (arith, pow-succ' 10 (suc k)) in
          rw (digits_more (suc k) n (omega arith), value-append, digits_value k (n / 10) fewer, digit-small (n % 10) (omega arith)) (omega arith)
    ]

digits-no-zero : (k n : ℕ) → n < 10 ^ suc k → get_or (digits (suc k) n) 0 0 ≡ 48 → n ≡ 0
digits-no-zero zero n small e =
    let h : n < 10 = omega arith in
    let first : 48 + n ≡ 48 = rw (digits-one zero n h, digit-small n h) at e in
    omega arith
digits-no-zero (suc k) n small e =
    elim (dec_lt n 10) [
      | yes h ↦ let first : 48 + n ≡ 48 = rw (digits-one (suc k) n h, digit-small n h) at e in omega arith
      | no h ↦
          let fewer : n / 10 < 10 ^ suc k = omega (arith, pow-succ' 10 (suc k)) in
          let first : get_or (digits (suc k) (n / 10)) 0 0 ≡ 48 =
          rw (digits_more (suc k) n (omega arith), first-same k (n / 10) (digit (n % 10))) at e
          in
          let none : n / 10 ≡ 0 = digits-no-zero k (n / 10) fewer first in
          omega arith
    ]

alone : (n : ℕ) → n ≡ 0 → length (decimal n) ≡ 1
unfolding digits
alone n e = rw e refl

pub decimal-right : (n : ℕ) → n < 18446744073709551616 → Decimal n (decimal n)
decimal-right n h =
    record {
      some = digits-some 19 n;
      digits-only = digits-only 20 n;
      value = digits_value 19 n (few n h);
      no_zero = λ e. alone n (digits-no-zero 19 n (few n h) e);
    }

-- ---- Hex

hex-digit : (d : ℕ) → HexDigit d (digit d)
hex-digit d =
    elim (dec_lt d 10) [
      | yes l ↦ rw (lt-ltb d 10 l) (record { below-ten = λ _. refl; from-ten = λ g. absurd (omega arith) })
      | no l ↦ rw (le-ltb d 10 (omega arith)) (record { below-ten = λ g. absurd (omega arith); from-ten = λ g. omega arith })
    ]

pub in-hex : (bs : List ℕ) → InHex bs (hex bs)
unfolding hex
in-hex [] = none
in-hex (b ∷ bs) = byte (hex-digit (b / 16)) (hex-digit (b % 16)) (in-hex bs)

pub hex-right : (bs : List ℕ) → ((k : ℕ) → get_or bs k 0 < 256) → Hex bs (hex bs)
hex-right bs h = record { all-bytes = h; in-hex = in-hex bs }

-- The first of some bytes are bytes.
pub bytes_take : (n : ℕ) (bs : List ℕ) → ((k : ℕ) → get_or bs k 0 < 256) → (k : ℕ) → get_or (take n bs) k 0 < 256
bytes_take zero bs h k = omega arith
bytes_take (suc n) [] h k = omega arith
bytes_take (suc n) (b ∷ bs) h zero = h 0
bytes_take (suc n) (b ∷ bs) h (suc k) = bytes_take n bs (λ i. h (suc i)) k
