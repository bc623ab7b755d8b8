-- What is allowed of a fixed command lies within the settings, and its data is as long as the table says: by the constructors of what a
-- read and a write may carry.
use Prim.Native.Nat.{ℕ, ◌+◌, ◌*◌, ◌≤◌}
use mathlib.Core.Path.{◌≡◌, ◌∙◌}
use mathlib.Core.List.{List, []}
use native.Mathlib.Omega.{arith}
use borrow.Author.Tests.{ne_eqb}
use lib.ListN.{length}
use Rattle.wire.specs.Numbers.{byte_at}
use Rattle.opcode.specs.Options.{is_read}
use Rattle.opcode.specs.Commands.{command_of, fixed}
use Rattle.opcode.specs.Allowed.{SendsNothing, ReadData, WriteData, Allowed}
use Rattle.settings.specs.Layout.{pwm_place, pwm_size, settings_end}
use Rattle.settings.specs.Layout.{place_of}
use Rattle.settings.specs.Internal.{size_by_opcode, KeptSize}
use Rattle.opcode.proofs.Accepts.Commands.{of-carried}

-- A fixed command's place and sizes, for data that carries so many bytes behind the pin or port.
record Sized (op carried : ℕ) (d : List ℕ) : Type 0 where
  room : place_of op d + (command_of op).back ≤ settings_end
  long : (command_of op).read + carried ≡ length d

nothing-sized : {op : ℕ} → SendsNothing op → (command_of op).kind ≡ fixed → Sized op 0 []
unfolding command_of place_of
nothing-sized SendsNothing.read-11 m = omega arith
nothing-sized SendsNothing.read-12 m = omega arith
nothing-sized SendsNothing.read-13 m = omega arith
nothing-sized SendsNothing.read-1A m = omega arith
nothing-sized SendsNothing.read-1B m = omega arith
nothing-sized SendsNothing.read-1C m = omega arith
nothing-sized SendsNothing.read-1D m = omega arith
nothing-sized SendsNothing.read-35 m = absurd (omega arith)
nothing-sized SendsNothing.read-36 m = omega arith
nothing-sized SendsNothing.read-38 m = absurd (omega arith)
nothing-sized SendsNothing.read-39 m = omega arith
nothing-sized SendsNothing.read-6C m = omega arith

-- A PWM port up to 10 stands in its own place.
pub own-slot : (d : List ℕ) → byte_at d 0 ≤ 10 → place_of 0x65 d ≡ pwm_place + pwm_size * byte_at d 0
unfolding place_of
own-slot d h = rw (ne_eqb (byte_at d 0) 13 (λ e. omega arith))

read-sized : {op : ℕ} {d : List ℕ} → ReadData op d → (command_of op).kind ≡ fixed → Sized op 0 d
unfolding command_of place_of
read-sized (ReadData.nothing s) m = nothing-sized s m
read-sized (ReadData.pin h) m = omega arith
read-sized (ReadData.level h) m = omega arith
read-sized {op} {d} (ReadData.pwm h) m = omega (arith, own-slot d h)
read-sized ReadData.pwm-13 m = omega arith
read-sized (ReadData.uart h) m = omega arith
read-sized (ReadData.points h k) m = absurd (omega arith)
read-sized (ReadData.gains h k l n) m = absurd (omega arith)

write-sized : {op : ℕ} {d : List ℕ} → WriteData op d → (command_of op).kind ≡ fixed → Sized op (command_of op).back d
unfolding command_of place_of
write-sized (WriteData.display h) m = omega arith
write-sized (WriteData.latency h) m = omega arith
write-sized (WriteData.freeze h) m = omega arith
write-sized (WriteData.lock h) m = omega arith
write-sized WriteData.look m = omega arith
write-sized WriteData.black m = omega arith
write-sized (WriteData.colour h k) m = omega arith
write-sized (WriteData.splash h) m = omega arith
write-sized (WriteData.flip h) m = omega arith
write-sized (WriteData.pin h i j k) m = omega arith
write-sized (WriteData.level h k) m = omega arith
write-sized {op} {d} (WriteData.pwm h i j k l) m = omega (arith, own-slot d h)
write-sized (WriteData.pwm-13 i j k l) m = omega arith
write-sized (WriteData.uart h₁ h₂ h₃ h₄ h₅ h₆ h₇ h₈ h₉ h₁₀ h₁₁) m = omega arith
write-sized WriteData.update m = omega arith
write-sized (WriteData.points h e) m = absurd (omega arith)
write-sized (WriteData.shape h i j k) m = absurd (omega arith)
write-sized (WriteData.lists xs ys ex ey rx ry) m = absurd (omega arith)
write-sized (WriteData.apply h) m = omega arith
write-sized (WriteData.smooth h i j k e) m = absurd (omega arith)
write-sized (WriteData.gains h i e s) m = absurd (omega arith)
write-sized (WriteData.runs h i e s) m = absurd (omega arith)

pub place-fits : {op o : ℕ} {d : List ℕ} → Allowed op o d → (command_of op).kind ≡ fixed → place_of op d + (command_of op).back ≤ settings_end
place-fits (Allowed.asks h r) m = (read-sized r m).room
place-fits (Allowed.sets h w l) m = (write-sized w m).room

pub read-long : {op o : ℕ} {d : List ℕ} → Allowed op o d → is_read o ≡ 1 → (command_of op).kind ≡ fixed → (command_of op).read ≡ length d
read-long (Allowed.asks h r) e m = omega (arith, (read-sized r m).long)
read-long (Allowed.sets h w l) e m = absurd (omega arith)

pub write-long : {op o : ℕ} {d : List ℕ} → Allowed op o d → is_read o ≡ 0 → (command_of op).kind ≡ fixed
    → (command_of op).read + (command_of op).back ≡ length d
write-long (Allowed.asks h r) e m = absurd (omega arith)
write-long (Allowed.sets h w l) e m = (write-sized w m).long

-- The sizes by opcode, and the list of commands walked once.
pub kept-size : (op r : ℕ) → r ≡ size_by_opcode op → r ≤ 10 → KeptSize op r
unfolding command_of size_by_opcode
kept-size op r e few =
    record { outcome = e; carried = λ h. e ∙ of-carried (λ op. size_by_opcode op ≡ (command_of op).back) (omega arith) op h; few = few }
