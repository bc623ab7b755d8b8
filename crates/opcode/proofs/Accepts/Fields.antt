-- A field takes the numbers within its limits, and the place of the first fault in a run of fields lies behind them all exactly if each
-- takes its own.
use Prim.Native.Nat.{ℕ, suc, ◌+◌, ◌-◌, ◌≤◌, ◌<◌, min}
use mathlib.Core.Path.{◌≡◌, refl, sym, ◌∙◌}
use mathlib.Core.Bool.{Bool, true, false, not, ◌&&◌, true≢false}
use mathlib.Core.List.{List, [], ◌∷◌}
use native.Mathlib.Decide.{dec_le}
use native.Mathlib.Omega.{arith}
use lib.ListN.{length}
use lib.Dec.{eqb, leb, ltb}
use borrow.Author.Tests.{ltb-false, eqb-true, not-false, le-leb, lt-leb, le-ltb, eq-eqb}
use Rattle.opcode.specs.declared.Field.{Field}
use Rattle.opcode.specs.Fields.{takes, number, fault}
pub use Rattle.opcode.specs.Fields.{span}
use Rattle.wire.proofs.Tests.{told}
use Rattle.opcode.proofs.Accepts.Lists.{bytes_at, exactly}

-- From low to high, and below the gap or past it: the last of the three as `omega` reads it.
pub record Within (f : Field) (v : ℕ) : Type 0 where
  pub low : f.low ≤ v
  pub high : v ≤ f.high
  pub outside : min (suc v - f.gap) (f.past - v) ≡ 0

outside-gap : (gap past v : ℕ) → (leb gap v && ltb v past) ≡ false → min (suc v - gap) (past - v) ≡ 0
outside-gap gap past v e =
    elim (dec_le gap v) [
      | yes h ↦ let p : past ≤ v = ltb-false v past (rw (le-leb gap v h) at e) in omega arith
      | no h ↦ omega arith
    ]

gap-outside : (gap past v : ℕ) → min (suc v - gap) (past - v) ≡ 0 → (leb gap v && ltb v past) ≡ false
gap-outside gap past v e =
    elim (dec_le gap v)
    [ yes h ↦ rw (le-leb gap v h) (le-ltb v past (omega arith)) | no h ↦ rw (lt-leb gap v (omega arith)) ]

pub takes-within : (f : Field) (v : ℕ) → takes f v ≡ true → Within f v
takes-within f v e =
    let beside : (leb f.gap v && ltb v f.past) ≡ false = search told in
    record { low = search told; high = search told; outside = outside-gap f.gap f.past v beside }

pub within-takes : (f : Field) (v : ℕ) → Within f v → takes f v ≡ true
within-takes f v w = rw (le-leb f.low v w.low, le-leb v f.high w.high, gap-outside f.gap f.past v w.outside)

not_taken : (t : Bool) → (t ≡ true → ⊥) → t ≡ false
not_taken true h = absurd (h refl)
not_taken false h = refl

pub within? : (f : Field) (v : ℕ) → Dec (Within f v)
within? f v = go (takes f v) refl
  where
    go : (t : Bool) → takes f v ≡ t → Dec (Within f v)
    go true e = yes (takes-within f v e)
    go false e = no (λ w. true≢false (sym (within-takes f v w) ∙ e))

-- The first field of a run: behind it, or at it.
pub fault_past : (f : Field) (fs : List Field) (d : List ℕ) (at : ℕ) → Within f (number f.size d at)
    → fault (f ∷ fs) d at ≡ fault fs d (at + f.size)
unfolding fault
fault_past f fs d at w = rw (within-takes f (number f.size d at) w)

pub fault-here : (f : Field) (fs : List Field) (d : List ℕ) (at : ℕ) → ¬ Within f (number f.size d at) → fault (f ∷ fs) d at ≡ at
unfolding fault
fault-here f fs d at h = rw (not_taken (takes f (number f.size d at)) (λ e. h (takes-within f (number f.size d at) e)))

-- Each field of a run takes its number: as it computes, a product that `omega` reads and proves.
abbrev pub All : List Field → List ℕ → ℕ → Type 0
All [] d at = Unit
All (f ∷ fs) d at = Within f (number f.size d at) × All fs d (at + f.size)

-- The least size of a field.
abbrev pub least : List Field → ℕ
least [] = 1
least (f ∷ fs) = min f.size (least fs)

-- Behind the last field exactly if each takes its own.
pub all-fault : (fs : List Field) (d : List ℕ) (at : ℕ) → All fs d at → fault fs d at ≡ at + span fs
unfolding fault
all-fault [] d at a = omega arith
all-fault (f ∷ fs) d at a = omega (arith, fault_past f fs d at a.0, all-fault fs d (at + f.size) a.1)

pub fault-all : (fs : List Field) → 0 < least fs → (d : List ℕ) (at : ℕ) → at + span fs ≤ fault fs d at → All fs d at
fault-all [] s d at h = tt
fault-all (f ∷ fs) s d at h =
    elim (within? f (number f.size d at)) [
      | yes w ↦ (w, fault-all fs (omega arith) d (at + f.size) (omega (arith, fault_past f fs d at w)))
      | no w ↦ absurd (omega (arith, fault-here f fs d at w))
    ]

-- Data of a fixed size, all of it fields.
pub record Right (size : ℕ) (fs : List Field) (d : List ℕ) : Type 0 where
  pub sized : length d ≡ size
  pub values : All fs d 0

pub right-size : {n : ℕ} {fs : List Field} {d : List ℕ} → Right n fs d → not (eqb (length d) n) ≡ false
right-size {n} {fs} {d} r = rw (eq-eqb (length d) n r.sized)

pub right-value : {n : ℕ} {fs : List Field} {d : List ℕ} → span fs ≡ n → Right n fs d → ltb (fault fs d 0) (length d) ≡ false
right-value {n} {fs} {d} e r = le-ltb (fault fs d 0) (length d) (omega (arith, all-fault fs d 0 r.values))

pub tests-right : (n : ℕ) (fs : List Field) (d : List ℕ) → 0 < least fs → span fs ≡ n → not (eqb (length d) n) ≡ false
    → ltb (fault fs d 0) (length d) ≡ false → Right n fs d
tests-right n fs d s e size value =
    let long : length d ≡ n = eqb-true (length d) n (not-false (eqb (length d) n) size) in
    record { sized = long; values = fault-all fs s d 0 (omega (arith, ltb-false (fault fs d 0) (length d) value)) }

-- Such data, each byte shown.
pub shown : (P : List ℕ → Type 0) (n : ℕ) (fs : List Field) → ((d : List ℕ) → All fs d 0 → P (bytes_at d 0 n))
    → (d : List ℕ) → Right n fs d → P d
shown P n fs f d r = rw (exactly d n r.sized) (f d r.values)
