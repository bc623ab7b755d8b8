-- Rule 9.2: one text alone is right for a number, and one for bytes.
use Prim.Native.Nat.{ℕ, ◌+◌, ◌*◌, ◌-◌, ◌≤◌}
use mathlib.Core.Path.{◌≡◌, refl, sym, ap, ◌∙◌}
use mathlib.Core.List.{List, [], ◌∷◌, ◌++◌}
use native.Mathlib.Decide.{ℕ_discrete, dec_lt}
use native.Mathlib.Omega.{arith}
use lib.ListN.{length, get_or}
use Rattle.text.specs.Plain.{value_of, Digits, last, more, Decimal, HexDigit, InHex, none, byte}

-- ---- Decimal: from the last digit on.

data FromLast : List ℕ → Type 0 where
  empty : FromLast []
  behind : {s : List ℕ} (c : ℕ) → FromLast s → FromLast (s ++ (c ∷ []))

in-front : (c : ℕ) {s : List ℕ} → FromLast s → FromLast (c ∷ s)
in-front c empty = behind {s = []} c empty
in-front c (behind d x) = behind d (in-front c x)

from_last : (s : List ℕ) → FromLast s
from_last [] = empty
from_last (c ∷ s) = in-front c (from_last s)

value-last : (v : ℕ) (s : List ℕ) (c : ℕ) → value_of v (s ++ (c ∷ [])) ≡ 10 * value_of v s + (c - 48)
value-last v [] c = refl
value-last v (d ∷ s) c = value-last (10 * v + (d - 48)) s c

record Ends (s : List ℕ) (c : ℕ) : Type 0 where
  front : Digits s
  low : 48 ≤ c
  high : c ≤ 57

digits_last : (s : List ℕ) (c : ℕ) → Digits (s ++ (c ∷ [])) → Ends s c
digits_last [] c (more l h d) = record { front = last; low = l; high = h }
digits_last (x ∷ s) c (more l h d) =
    let e = digits_last s c d in
    record { front = more l h e.front; low = e.low; high = e.high }

-- A number that does not begin with a 0 is not 0.
grows : (v : ℕ) (s : List ℕ) → v ≤ value_of v s
grows v [] = omega arith
grows v (c ∷ s) = omega (arith, grows (10 * v + (c - 48)) s)

positive : (s : List ℕ) → Digits s → (get_or s 0 0 ≡ 48 → ⊥) → 1 ≤ length s → 1 ≤ value_of 0 s
positive [] d lead some = absurd (omega arith)
positive (c ∷ s) (more l h d) lead some =
    elim (ℕ_discrete c 48) [ yes e ↦ absurd (lead e) | no e ↦ omega (arith, grows (10 * 0 + (c - 48)) s) ]

lead-front : (s : List ℕ) (c : ℕ) → (get_or (s ++ (c ∷ [])) 0 0 ≡ 48 → ⊥) → get_or s 0 0 ≡ 48 → ⊥
lead-front [] c lead e = omega arith
lead-front (x ∷ s) c lead e = lead e

length-behind : (s : List ℕ) (c : ℕ) → 1 ≤ length (s ++ (c ∷ []))
length-behind [] c = omega arith
length-behind (x ∷ s) c = omega arith

same_digits : {a b : List ℕ} → FromLast a → FromLast b → Digits a → Digits b → (get_or a 0 0 ≡ 48 → ⊥) → (get_or b 0 0 ≡ 48 → ⊥)
    → value_of 0 a ≡ value_of 0 b → a ≡ b
same_digits empty empty p q l m e = refl
same_digits empty (behind {s} c y) p q l m e = absurd (omega (arith, positive (s ++ (c ∷ [])) q m (length-behind s c)))
same_digits (behind {s} c x) empty p q l m e = absurd (omega (arith, positive (s ++ (c ∷ [])) p l (length-behind s c)))
same_digits (behind {s} c x) (behind {s = t} d y) p q l m e =
    let f = digits_last s c p in
    let g = digits_last t d q in
    let v : 10 * value_of 0 s + (c - 48) ≡ 10 * value_of 0 t + (d - 48) = sym (value-last 0 s c) ∙ e ∙ value-last 0 t d in
    let value : value_of 0 s ≡ value_of 0 t = omega (arith, v, f.low, f.high, g.low, g.high) in
    let digit : c ≡ d = omega (arith, v, f.low, f.high, g.low, g.high) in
    ap (λ (k : ℕ). s ++ (k ∷ [])) digit
    ∙ ap (λ (u : List ℕ). u ++ (d ∷ [])) (same_digits x y f.front g.front (lead-front s c l) (lead-front t d m) value)

zero-alone : (s : List ℕ) → get_or s 0 0 ≡ 48 → length s ≡ 1 → s ≡ 48 ∷ []
zero-alone [] e l = absurd (omega arith)
zero-alone (c ∷ []) e l = ap (λ (k : ℕ). k ∷ []) e
zero-alone (c ∷ d ∷ s) e l = absurd (omega arith)

-- What begins with a 0 stands for 0, and so does no other.
zeros : {n : ℕ} {a b : List ℕ} → Decimal n a → Decimal n b → get_or a 0 0 ≡ 48 → a ≡ b
zeros {n} {a} {b} x y e =
    let alone = zero-alone a e (x.no_zero e) in
    let none : n ≡ 0 = sym x.value ∙ ap (value_of 0) alone in
    elim (ℕ_discrete (get_or b 0 0) 48) [
      | yes f ↦ alone ∙ sym (zero-alone b f (y.no_zero f))
      | no f ↦ absurd (omega (arith, none, y.value, positive b y.digits-only f y.some))
    ]

pub decimal-determined : {n : ℕ} {a b : List ℕ} → Decimal n a → Decimal n b → a ≡ b
decimal-determined {n} {a} {b} x y =
    elim (ℕ_discrete (get_or a 0 0) 48) [
      | yes e ↦ zeros x y e
      | no e ↦
          elim (ℕ_discrete (get_or b 0 0) 48) [
            | yes f ↦ sym (zeros y x f)
            | no f ↦ same_digits (from_last a) (from_last b) x.digits-only y.digits-only e f (x.value ∙ sym y.value)
          ]
    ]

-- ---- Hex.

digit-determined : {d a b : ℕ} → HexDigit d a → HexDigit d b → a ≡ b
digit-determined {d} x y =
    elim (dec_lt d 10) [
      | yes l ↦ x.below-ten l ∙ sym (y.below-ten l)
      | no l ↦ x.from-ten (omega arith) ∙ sym (y.from-ten (omega arith))
    ]

pub hex-determined : {bs a b : List ℕ} → InHex bs a → InHex bs b → a ≡ b
hex-determined none none = refl
hex-determined (byte {c = c} {d = d} {cs = s} x y xs) (byte {c = c'} {d = d'} {cs = t} x' y' ys) =
    ap (λ (k : ℕ). 32 ∷ k ∷ d ∷ s) (digit-determined x x')
    ∙ ap (λ (k : ℕ). 32 ∷ c' ∷ k ∷ s) (digit-determined y y')
    ∙ ap (λ (l : List ℕ). 32 ∷ c' ∷ d' ∷ l) (hex-determined xs ys)
