-- Runs of fields around the first fault: each field before its place takes its number, and the field at it does not.
use Prim.Native.Nat.{ℕ, suc, ◌+◌, ◌-◌, ◌≤◌, ◌<◌, min}
use mathlib.Core.Path.{◌≡◌}
use mathlib.Core.Logic.{◌⊎◌, inl, inr}
use mathlib.Core.Bool.{cond}
use mathlib.Core.List.{List, [], ◌∷◌}
use native.Mathlib.Decide.{dec_le, dec_lt}
use native.Mathlib.Omega.{arith}
use lib.Dec.{leb, ltb}
use borrow.Author.Tests.{le-leb, lt-leb, lt-ltb, le-ltb}
use Rattle.opcode.specs.declared.Field.{Field}
use Rattle.opcode.specs.Fields.{from_to, number, fault}
use Rattle.opcode.specs.Faults.{FieldOf}
use Rattle.opcode.proofs.Accepts.Fields.{span, least, All, Within, within?, fault_past, fault-here}

-- The fields that start at most j bytes behind a run's start. At a numeral j they are computed, and `omega` reads `All` of them.
abbrev pub up_to : ℕ → List Field → List Field
up_to j [] = []
up_to j (f ∷ fs) = f ∷ cond (leb f.size j) (up_to (j - f.size) fs) []

-- They take their numbers if the fault lies behind, or if there is none.
pub reached : (fs : List Field) → 0 < least fs → (d : List ℕ) (at j : ℕ) → min (at + suc j) (at + span fs) ≤ fault fs d at → All (up_to j fs) d at
reached [] s d at j h = tt
reached (f ∷ fs) s d at j h =
    elim (within? f (number f.size d at)) [
      | no w ↦ absurd (omega (arith, fault-here f fs d at w))
      | yes w ↦
          elim (dec_le f.size j) [
            | yes l ↦
                rw (le-leb f.size j l)
                (w, reached fs (omega arith) d (at + f.size) (j - f.size) (omega (arith, fault_past f fs d at w)))
            | no l ↦ rw (lt-leb f.size j (omega arith)) (w, tt)
          ]
    ]

-- What holds at the place of each field that does not take its number holds at the fault.
abbrev pub IfWrong : (ℕ → Type 0) → List Field → List ℕ → ℕ → Type 0
IfWrong P [] d at = Unit
IfWrong P (f ∷ fs) d at = (¬ Within f (number f.size d at) → P at) × IfWrong P fs d (at + f.size)

pub stopped : (P : ℕ → Type 0) (fs : List Field) (d : List ℕ) (at : ℕ) → IfWrong P fs d at → fault fs d at < at + span fs → P (fault fs d at)
unfolding fault
stopped P [] d at p h = absurd (omega arith)
stopped P (f ∷ fs) d at p h =
    elim (within? f (number f.size d at)) [
      | no w ↦ rw (fault-here f fs d at w) (p.0 w)
      | yes w ↦ rw (fault_past f fs d at w) (stopped P fs d (at + f.size) p.1 (omega (arith, fault_past f fs d at w)))
    ]

-- A head of n bytes and then the rest: what the place found lies behind; and where it is.
pub behind-head : (head n rest m : ℕ) → m ≤ cond (ltb head n) head rest → (min m n ≤ head) × (n < m → m ≤ rest)
behind-head head n rest m h =
    elim (dec_lt head n)
    [ yes l ↦ omega (arith, rw (lt-ltb head n l) at h) | no l ↦ omega (arith, rw (le-ltb head n (omega arith)) at h) ]

pub stopped-head : (P : ℕ → Type 0) (fs : List Field) (d : List ℕ) (n rest all : ℕ) → n ≡ span fs → IfWrong P fs d 0
    → (n ≤ fault fs d 0 → rest < all → P rest) → cond (ltb (fault fs d 0) n) (fault fs d 0) rest < all
    → P (cond (ltb (fault fs d 0) n) (fault fs d 0) rest)
stopped-head P fs d n rest all e p r h =
    let head = fault fs d 0 in
    elim (dec_lt head n) [
      | yes l ↦ rw (lt-ltb head n l) (stopped P fs d 0 p (omega arith))
      | no l ↦ rw (le-ltb head n (omega arith)) (r (omega arith) (rw (le-ltb head n (omega arith)) at h))
    ]

-- A field at a place, with its number out of its range.
pub record FaultAt (op o : ℕ) (d : List ℕ) (place : ℕ) : Type 0 where
  pub value : ℕ
  pub least : ℕ
  pub most : ℕ
  pub field : FieldOf op o d place value least most
  pub out : (value < least) ⊎ (most < value)

outside : (v low high : ℕ) → ¬ ((low ≤ v) × (v ≤ high)) → (v < low) ⊎ (high < v)
outside v low high h =
    elim (dec_lt v low) [ yes l ↦ inl l | no l ↦ elim (dec_lt high v) [ yes k ↦ inr k | no k ↦ absurd (h (omega arith)) ] ]

pub fault-of : {op o : ℕ} {d : List ℕ} {place v low high : ℕ} → FieldOf op o d place v low high → ¬ ((low ≤ v) × (v ≤ high)) → FaultAt op o d place
fault-of {v = v} {low = low} {high = high} f h =
    record { value = v; least = low; most = high; field = f; out = outside v low high h }

-- Such a field, from one of a run that does not take its number: with the same range; or, with a number apart, with both the range and that number.
pub wrong : {op o : ℕ} {d : List ℕ} {place v low high size : ℕ} → FieldOf op o d place v low high → ¬ Within (from_to size low high) v
    → FaultAt op o d place
wrong f w = fault-of f (λ r. w (omega arith))

pub wrong-but : {op o : ℕ} {d : List ℕ} {place v low high apart : ℕ} {f : Field} → ((v ≡ apart → ⊥) → FieldOf op o d place v low high)
    → (v ≡ apart → Within f v) → ((low ≤ v) × (v ≤ high) → Within f v) → ¬ Within f v → FaultAt op o d place
wrong-but field alone range w = fault-of (field (λ e. w (alone e))) (λ r. w (range r))
