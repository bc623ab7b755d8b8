-- Runs of fields, one behind the other: a run in parts, a run of flags and a run of equal parts taken one at a time, and the answer
-- of `opcode::fault` as the run's test.
use Prim.Native.Nat.{ℕ, suc, ◌+◌, ◌-◌, ◌≤◌, ◌<◌}
use mathlib.Core.Path.{◌≡◌, sym}
use mathlib.Core.Bool.{Bool, true, false, cond, ◌&&◌, and-true, and_assoc}
use mathlib.Core.List.{List, [], ◌∷◌, ◌++◌, map}
use native.Mathlib.Omega.{arith}
use borrow.Author.Tests.{le-leb, le-ltb, eq-eqb, ne_eqb}
use lib.Dec.{eqb, leb}
use Rattle.wire.specs.Numbers.{byte_at}
use Rattle.opcode.specs.declared.Field.{Field}
use Rattle.opcode.specs.Fields.{byte, takes, number, fault}
use Rattle.opcode.specs.Commands.{command_of}
use Rattle.opcode.proofs.Accepts.Fields.{span, least}
use Rattle.settings.specs.Ranges.{right, fields_of, behind_port, for_each, update_mode, device_fields}
use Rattle.settings.specs.Layout.{lock_place, pin_count, pin_place, pwm_count, pwm_place, uart_count, uart_place, update_place}

pub span-append : (fs gs : List Field) → span (fs ++ gs) ≡ span fs + span gs
span-append [] gs = omega arith
span-append (f ∷ fs) gs = omega (arith, span-append fs gs)

pub right-append : (fs gs : List Field) (d : List ℕ) (at : ℕ) → right (fs ++ gs) d at ≡ (right fs d at && right gs d (at + span fs))
unfolding right
right-append [] gs d at = let here : at + 0 ≡ at = omega arith in rw here
right-append (f ∷ fs) gs d at =
    let there : at + (f.size + span fs) ≡ at + f.size + span fs = omega arith in
    rw (there, right-append fs gs d (at + f.size))
    (sym (and_assoc (takes f (number f.size d at)) (right fs d (at + f.size)) (right gs d (at + f.size + span fs))))

five : (e f g h k : List Field) (d : List ℕ) (at : ℕ)
    → right (e ++ f ++ g ++ h ++ k) d at
    ≡ (right e d at && right f d (at + span e) && right g d (at + span (e ++ f)) && right h d (at + span (e ++ f ++ g))
    && right k d (at + span (e ++ f ++ g ++ h)))
five e f g h k d at = simp right-append

-- The runs from 39h's place on.
pub device-runs : (d : List ℕ)
    → right device_fields d update_place
    ≡ (right (update_mode ∷ []) d update_place && right (for_each pin_count (behind_port 0x60)) d pin_place && right (for_each pwm_count (behind_port 0x65)) d pwm_place
    && right (fields_of 0x6C) d lock_place
    && right (for_each uart_count (behind_port 0x6D)) d uart_place)
unfolding device_fields command_of
device-runs d =
    five (update_mode ∷ []) (for_each pin_count (behind_port 0x60)) (for_each pwm_count (behind_port 0x65)) (fields_of 0x6C) (for_each uart_count (behind_port 0x6D)) d update_place

-- The place of the first fault is behind the last field exactly if each field takes its number.
fault-step : (t r : Bool) (place at past : ℕ) → at < past → eqb place past ≡ r → eqb (cond t place at) past ≡ (t && r)
fault-step true r place at past h e = e
fault-step false r place at past h e = ne_eqb at past (λ same. omega arith)

pub fault-right : (fs : List Field) → 0 < least fs → (d : List ℕ) (at : ℕ) → eqb (fault fs d at) (at + span fs) ≡ right fs d at
unfolding fault right
fault-right [] s d at = eq-eqb at (at + 0) (omega arith)
fault-right (f ∷ fs) s d at =
    let there : at + (f.size + span fs) ≡ at + f.size + span fs = omega arith in
    rw there
    (fault-step (takes f (number f.size d at)) (right fs d (at + f.size)) (fault fs d (at + f.size)) at (at + f.size + span fs)
    (omega arith) (fault-right fs (omega arith) d (at + f.size)))

-- A byte from 0 on.
pub takes-byte : (high v : ℕ) → takes (byte 0 high) v ≡ leb v high
takes-byte high v = rw (le-leb 0 v (omega arith), le-ltb v 0 (omega arith), and-true)

pub right-byte : (high : ℕ) (d : List ℕ) (at : ℕ) → right (byte 0 high ∷ []) d at ≡ leb (byte_at d at) high
unfolding right
right-byte high d at = rw (takes-byte high (byte_at d at), and-true)

-- The same run again and again, joined to what came before: one more, and the end.
module _ (fs : List Field) (d : List ℕ) (fine : Bool) (i n at : ℕ) where
  pub each_turn : i < n → (fine && right (for_each (n - i) fs) d at) ≡ (fine && right fs d at && right (for_each (n - (i + 1)) fs) d (at + span fs))
  each_turn h =
      let left : n - i ≡ suc (n - (i + 1)) = omega arith in
      rw (left, right-append fs (for_each (n - (i + 1)) fs) d at) (sym (and_assoc fine (right fs d at) (right (for_each (n - (i + 1)) fs) d (at + span fs))))

  pub each-done : n ≤ i → (fine && right (for_each (n - i) fs) d at) ≡ fine
  unfolding right
  each-done h = let left : n - i ≡ 0 = omega arith in rw (left, and-true)

-- Bytes from 0 on, from k places behind a place, joined to what came before.
abbrev pub up_to : Bool → List ℕ → List ℕ → ℕ → ℕ → Bool
up_to fine [] d at k = fine
up_to fine (high ∷ highs) d at k = up_to (fine && leb (byte_at d (at + k)) high) highs d at (suc k)

pub bytes-right : (highs : List ℕ) (d : List ℕ) (fine : Bool) (at k : ℕ) → (fine && right (map (byte 0) highs) d (at + k)) ≡ up_to fine highs d at k
unfolding right
bytes-right [] d fine at k = and-true fine
bytes-right (high ∷ highs) d fine at k =
    let next : at + k + 1 ≡ at + suc k = omega arith in
    rw (takes-byte high (byte_at d (at + k)), next, ← and_assoc fine (leb (byte_at d (at + k)) high) (right (map (byte 0) highs) d (at + suc k)))
    (bytes-right highs d (fine && leb (byte_at d (at + k)) high) at (suc k))

pub bytes-first : (high : ℕ) (highs : List ℕ) (d : List ℕ) (fine : Bool) (at : ℕ)
    → (fine && right (map (byte 0) (high ∷ highs)) d at) ≡ up_to (fine && leb (byte_at d at) high) highs d at 1
unfolding right
bytes-first high highs d fine at =
    rw (takes-byte high (byte_at d at), ← and_assoc fine (leb (byte_at d at) high) (right (map (byte 0) highs) d (at + 1)))
    (bytes-right highs d (fine && leb (byte_at d at) high) at 1)
