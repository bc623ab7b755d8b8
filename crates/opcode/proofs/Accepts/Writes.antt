-- A write is refused by no test exactly if its data is what a write of its opcode may carry, and a length field stands where one has to.
use Prim.Native.Nat.{ℕ, ◌<◌}
use mathlib.Core.Path.{◌≡◌, refl}
use mathlib.Core.Bool.{false}
use mathlib.Core.List.{List}
use native.Mathlib.Decide.{dec_le, ℕ_discrete}
use native.Mathlib.Omega.{arith}
use lib.ListN.{get_or}
use borrow.Author.Tests.{eqb-false, ne_eqb}
use Rattle.wire.specs.Numbers.{byte_at}
use Rattle.opcode.specs.Options.{is_read, has_length}
use Rattle.opcode.specs.Commands.{command_of, fixed, variable, not_carried}
use Rattle.opcode.specs.Judgement.{judgement, unknown, lacks_length}
use Rattle.opcode.specs.Allowed.{WriteData, NeedsLength}
use Rattle.wire.proofs.Tests.{Silent}
use Rattle.opcode.proofs.Accepts.Fields.{All, shown}
use Rattle.opcode.proofs.Accepts.Lists.{bytes_at, exactly}
use Rattle.opcode.proofs.Accepts.Commands.{◌&◌, of-carried}
use Rattle.opcode.proofs.Accepts.Passes.{named_write, Passes, passes-silent, silent-passes, RightWrite, right-passes, passes-right}
use Rattle.opcode.proofs.Accepts.Varying.{passes-points, points-passes, passes-smooth, smooth-passes, passes-gains, gains-passes, runs-passes, passes-control, shape-passes, joined-lists, lists-passes}

-- ---- From the tests to the data.

fields-only : (op : ℕ) → (command_of op).kind ≡ fixed
    → ((d : List ℕ) → All (command_of op).sets d 0 → WriteData op (bytes_at d 0 (command_of op).write))
    → (d : List ℕ) → Passes op d → WriteData op d
fields-only op m f d p = shown (WriteData op) (command_of op).write (command_of op).sets f d (passes-right op d m p)

passes-colour : (d : List ℕ) → Passes 0x1A d → WriteData 0x1A d
unfolding command_of
passes-colour d p =
    let r = passes-right 0x1A d refl p in
    elim (dec_le 2 (get_or d 0 0)) [
      | yes h ↦ rw (exactly d 1 r.sized) (search (WriteData.colour, arith))
      | no h ↦ let e : get_or d 0 0 ≡ 0 = omega arith in rw (exactly d 1 r.sized, e) WriteData.black
    ]

passes-update : (d : List ℕ) → Passes 0x39 d → WriteData 0x39 d
unfolding command_of
passes-update d p =
    let r = passes-right 0x39 d refl p in
    let e : get_or d 0 0 ≡ 0 = omega (arith, eqb-false (byte_at d 0) 1 p.named_only) in
    rw (exactly d 1 r.sized, e) WriteData.update

passes-pwm : (d : List ℕ) → Passes 0x65 d → WriteData 0x65 d
unfolding command_of
passes-pwm d p =
    let r = passes-right 0x65 d refl p in
    elim (dec_le (get_or d 0 0) 10) [
      | yes h ↦ rw (exactly d 7 r.sized) (search (WriteData.pwm, arith))
      | no h ↦ let e : get_or d 0 0 ≡ 13 = omega arith in rw (exactly d 7 r.sized, e) (search (WriteData.pwm-13, arith))
    ]

passes-data : (op : ℕ) → unknown op ≡ false → (d : List ℕ) → Passes op d → WriteData op d
unfolding command_of
passes-data =
    of-carried (λ op. (d : List ℕ) → Passes op d → WriteData op d)
    (fields-only 0x11 refl (λ d a. search (WriteData.display, arith))
    & fields-only 0x12 refl (λ d a. search (WriteData.latency, arith))
    & fields-only 0x13 refl (λ d a. search WriteData.look)
    & passes-colour
    & fields-only 0x1B refl (λ d a. search (WriteData.splash, arith))
    & fields-only 0x1C refl (λ d a. search (WriteData.flip, arith))
    & fields-only 0x1D refl (λ d a. search (WriteData.freeze, arith))
    & passes-gains
    & passes-points
    & passes-control
    & fields-only 0x36 refl (λ d a. search (WriteData.apply, arith))
    & passes-smooth
    & passes-update
    & fields-only 0x60 refl (λ d a. search (WriteData.pin, arith))
    & fields-only 0x61 refl (λ d a. search (WriteData.level, arith))
    & passes-pwm
    & fields-only 0x6C refl (λ d a. search (WriteData.lock, arith))
    & fields-only 0x6D refl (λ d a. search (WriteData.uart, arith))
    & tt)

-- ---- From the data to the tests.

-- What data that is right tells of its opcode and of the tests.
record Good (op : ℕ) (d : List ℕ) : Type 0 where
  carried : 0 < (command_of op).kind
  needs : (command_of op).kind ≡ variable → NeedsLength op
  passes : Passes op d

right-good : {op : ℕ} {d : List ℕ} → (command_of op).kind ≡ fixed → RightWrite op d → named_write op d ≡ false → Good op d
right-good m r n = record { carried = omega arith; needs = λ v. absurd (omega arith); passes = right-passes m r n }

varying-good : {op : ℕ} {d : List ℕ} → (command_of op).kind ≡ variable → NeedsLength op → Passes op d → Good op d
varying-good m n p = record { carried = omega arith; needs = λ v. n; passes = p }

data-good : {op : ℕ} {d : List ℕ} → ((k : ℕ) → get_or d k 0 < 256) → WriteData op d → Good op d
unfolding command_of
data-good b (WriteData.display h) = right-good refl (omega arith) refl
data-good b (WriteData.latency h) = right-good refl (omega arith) refl
data-good b (WriteData.freeze h) = right-good refl (omega arith) refl
data-good b (WriteData.lock h) = right-good refl (omega arith) refl
data-good b WriteData.look = right-good refl (omega (arith, b 0, b 1)) refl
data-good b WriteData.black = right-good refl (omega arith) refl
data-good b (WriteData.colour h k) = right-good refl (omega arith) refl
data-good b (WriteData.splash h) = right-good refl (omega arith) refl
data-good b (WriteData.flip h) = right-good refl (omega arith) refl
data-good b (WriteData.pin h i j k) = right-good refl (omega arith) refl
data-good b (WriteData.level h k) = right-good refl (omega arith) refl
data-good b (WriteData.pwm h i j k l) = right-good refl (omega arith) refl
data-good b (WriteData.pwm-13 i j k l) = right-good refl (omega arith) refl
data-good b (WriteData.uart h₁ h₂ h₃ h₄ h₅ h₆ h₇ h₈ h₉ h₁₀ h₁₁) = right-good refl (omega arith) refl
data-good b WriteData.update = right-good refl (omega arith) refl
data-good b (WriteData.points {n = n} h e) = varying-good refl NeedsLength.write-34 (points-passes _ n h (omega arith))
data-good b (WriteData.shape h i j k) = varying-good refl NeedsLength.write-35 (shape-passes _ refl (omega arith))
data-good b (WriteData.lists xs ys ex ey rx ry) =
    varying-good refl NeedsLength.write-35 (lists-passes _ (joined-lists xs ys ex ey rx ry))
data-good b (WriteData.apply h) = right-good refl (omega arith) refl
data-good b (WriteData.smooth h i j k e) = varying-good refl NeedsLength.write-38 (smooth-passes _ (omega arith) (omega arith))
data-good b (WriteData.gains h i e s) =
    varying-good refl NeedsLength.write-2B (gains-passes _ (omega (arith, b 2, b 3, b 4, b 5)) (omega arith) refl s)
data-good b (WriteData.runs h i e s) =
    varying-good refl NeedsLength.write-2B (runs-passes _ (omega (arith, b 2, b 3, b 4, b 5)) (omega arith) refl s)

-- ---- The length field.

pub needs-variable : {op : ℕ} → NeedsLength op → (command_of op).kind ≡ variable
unfolding command_of
needs-variable NeedsLength.write-2B = refl
needs-variable NeedsLength.write-34 = refl
needs-variable NeedsLength.write-35 = refl
needs-variable NeedsLength.write-38 = refl

-- ---- The writes.

pub write-silent : (op o : ℕ) (d : List ℕ) → ((k : ℕ) → get_or d k 0 < 256) → is_read o ≡ 0 → WriteData op d
    → (NeedsLength op → has_length o ≡ 1) → Silent (judgement op o d)
unfolding judgement
write-silent op o d b h w l =
    let g = data-good b w in
    passes-silent op o d h (ne_eqb (command_of op).kind not_carried (omega (arith, g.carried))) lacks g.passes
  where
    lacks : lacks_length op o ≡ false
    lacks =
        elim (ℕ_discrete (command_of op).kind variable)
        [ yes v ↦ rw (h, v, l ((data-good b w).needs v)) | no v ↦ rw (h, ne_eqb (command_of op).kind variable v) ]

pub silent-write : (op o : ℕ) (d : List ℕ) → is_read o ≡ 0 → Silent (judgement op o d) → WriteData op d
unfolding judgement
silent-write op o d h s = passes-data op s.0 d (silent-passes op o d h s)

pub silent-length : (op o : ℕ) (d : List ℕ) → is_read o ≡ 0 → Silent (judgement op o d) → NeedsLength op → has_length o ≡ 1
unfolding judgement
silent-length op o d h s n = omega (arith, eqb-false (has_length o) 0 (rw (h, needs-variable n) at s.1.0))
