-- A read is refused by no test exactly if its data is what a read of its opcode may carry.
use Prim.Native.Nat.{ℕ, ◌<◌}
use mathlib.Core.Path.{◌≡◌}
use mathlib.Core.Bool.{false}
use mathlib.Core.List.{List, []}
use native.Mathlib.Decide.{dec_le}
use native.Mathlib.Omega.{arith}
use lib.ListN.{get_or}
use borrow.Author.Tests.{ne_eqb}
use Rattle.opcode.specs.Options.{is_read}
use Rattle.opcode.specs.Commands.{command_of, not_carried}
use Rattle.opcode.specs.Judgement.{judgement, unknown, size_wrong, value_fault}
use Rattle.opcode.specs.Allowed.{ReadData, SendsNothing, nothing, points, gains}
use Rattle.wire.proofs.Tests.{Silent}
use Rattle.opcode.proofs.Accepts.Fields.{All, Right, right-size, right-value, tests-right, shown}
use Rattle.opcode.proofs.Accepts.Lists.{bytes_at, exactly}
use Rattle.opcode.proofs.Accepts.Commands.{◌&◌, of-carried, asks_span, asks-sized}

-- The data of a read is all fields.
abbrev pub RightRead : ℕ → List ℕ → Type 0
RightRead op d = Right (command_of op).read (command_of op).asks d

right-silent : (op o : ℕ) (d : List ℕ) → is_read o ≡ 1 → unknown op ≡ false → RightRead op d → Silent (judgement op o d)
unfolding size_wrong value_fault judgement
right-silent op o d h m r = (m, (rw h, (rw h (right-size r), (rw h (right-value (asks_span op) r), (rw h, tt)))))

silent-right : (op o : ℕ) (d : List ℕ) → is_read o ≡ 1 → Silent (judgement op o d) → RightRead op d
unfolding size_wrong value_fault judgement
silent-right op o d h s =
    tests-right (command_of op).read (command_of op).asks d (asks-sized op) (asks_span op) (rw h at s.1.1.0) (rw h at s.1.1.1.0)

-- From the tests to the data, an opcode at a time.
fields-only : (op : ℕ) → ((d : List ℕ) → All (command_of op).asks d 0 → ReadData op (bytes_at d 0 (command_of op).read))
    → (d : List ℕ) → RightRead op d → ReadData op d
fields-only op f = shown (ReadData op) (command_of op).read (command_of op).asks f

sends-nothing : {op : ℕ} → SendsNothing op → (d : List ℕ) → Right 0 [] d → ReadData op d
sends-nothing {op} s = shown (ReadData op) 0 [] (λ d a. nothing s)

right-pwm : (d : List ℕ) → RightRead 0x65 d → ReadData 0x65 d
unfolding command_of
right-pwm d r =
    elim (dec_le (get_or d 0 0) 10) [
      | yes h ↦ rw (exactly d 1 r.sized) (ReadData.pwm h)
      | no h ↦ let e : get_or d 0 0 ≡ 13 = omega arith in rw (exactly d 1 r.sized, e) ReadData.pwm-13
    ]

right-data : (op : ℕ) → unknown op ≡ false → (d : List ℕ) → RightRead op d → ReadData op d
unfolding command_of
right-data =
    of-carried (λ op. (d : List ℕ) → RightRead op d → ReadData op d)
    (sends-nothing SendsNothing.read-11
    & sends-nothing SendsNothing.read-12
    & sends-nothing SendsNothing.read-13
    & sends-nothing SendsNothing.read-1A
    & sends-nothing SendsNothing.read-1B
    & sends-nothing SendsNothing.read-1C
    & sends-nothing SendsNothing.read-1D
    & fields-only 0x2B (λ d a. search (ReadData.gains, arith))
    & fields-only 0x34 (λ d a. search (ReadData.points, arith))
    & sends-nothing SendsNothing.read-35
    & sends-nothing SendsNothing.read-36
    & sends-nothing SendsNothing.read-38
    & sends-nothing SendsNothing.read-39
    & fields-only 0x60 (λ d a. search (ReadData.pin, arith))
    & fields-only 0x61 (λ d a. search (ReadData.level, arith))
    & right-pwm
    & sends-nothing SendsNothing.read-6C
    & fields-only 0x6D (λ d a. search (ReadData.uart, arith))
    & tt)

-- From the data to the tests.
pub nothing_right : {op : ℕ} → SendsNothing op → (0 < (command_of op).kind) × RightRead op []
unfolding command_of
nothing_right SendsNothing.read-11 = omega arith
nothing_right SendsNothing.read-12 = omega arith
nothing_right SendsNothing.read-13 = omega arith
nothing_right SendsNothing.read-1A = omega arith
nothing_right SendsNothing.read-1B = omega arith
nothing_right SendsNothing.read-1C = omega arith
nothing_right SendsNothing.read-1D = omega arith
nothing_right SendsNothing.read-35 = omega arith
nothing_right SendsNothing.read-36 = omega arith
nothing_right SendsNothing.read-38 = omega arith
nothing_right SendsNothing.read-39 = omega arith
nothing_right SendsNothing.read-6C = omega arith

data-right : {op : ℕ} {d : List ℕ} → ((k : ℕ) → get_or d k 0 < 256) → ReadData op d → (0 < (command_of op).kind) × RightRead op d
unfolding command_of
data-right b (nothing s) = nothing_right s
data-right b (ReadData.pin h) = omega arith
data-right b (ReadData.level h) = omega arith
data-right b (ReadData.pwm h) = omega arith
data-right b ReadData.pwm-13 = omega arith
data-right b (ReadData.uart h) = omega arith
data-right b (points h k) = omega (arith, b 0, b 1)
data-right b (gains h k l m) = omega (arith, b 1, b 2)

-- The reads.
pub read-silent : (op o : ℕ) (d : List ℕ) → ((k : ℕ) → get_or d k 0 < 256) → is_read o ≡ 1 → ReadData op d → Silent (judgement op o d)
unfolding judgement
read-silent op o d b h r =
    let right = data-right b r in
    right-silent op o d h (ne_eqb (command_of op).kind not_carried (omega (arith, right.0))) right.1

pub silent-read : (op o : ℕ) (d : List ℕ) → is_read o ≡ 1 → Silent (judgement op o d) → ReadData op d
unfolding judgement
silent-read op o d h s = right-data op s.0 d (silent-right op o d h s)
