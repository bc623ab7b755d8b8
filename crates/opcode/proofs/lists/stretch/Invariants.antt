-- The numbers up to the i-th rise.
use Prim.Native.Nat.{◌+◌}
use Rattle.opcode.specs.Internal.{stretch_steps, RisenTo}
use Rattle.opcode.proofs.lists.stretch.Given as goal

abbrev pub invariant-loop-i : goal.invariant-loop-i
invariant-loop-i l = RisenTo l.s l.at (stretch_steps + 1) l.i
