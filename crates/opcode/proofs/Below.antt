-- A command that nothing is refused of has an opcode of one byte, since every opcode of the list has.
use Prim.Native.Nat.{ℕ, ◌<◌}
use mathlib.Core.Path.{◌≡◌}
use mathlib.Core.List.{List}
use native.Mathlib.Omega.{arith}
use Rattle.wire.specs.First.{first}
use Rattle.opcode.specs.Judgement.{judgement}
use Rattle.wire.proofs.Tests.{first-silent}
use Rattle.opcode.proofs.Accepts.Commands.{of-carried}

pub carried-below : (op o : ℕ) (d : List ℕ) → first (judgement op o d) ≡ 0 → op < 256
unfolding judgement
carried-below op o d e =
    of-carried (λ n. n < 256) (omega arith) op (first-silent (judgement op o d) (omega arith) e).0
