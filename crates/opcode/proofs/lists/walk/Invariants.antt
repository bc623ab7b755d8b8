-- The numbers up to the one before the i-th rise.
use Prim.Native.Nat.{◌-◌, ◌<◌}
use Rattle.opcode.specs.Internal.{RisenTo}
use Rattle.opcode.proofs.lists.walk.Given as goal

abbrev pub invariant-loop-i : goal.invariant-loop-i
invariant-loop-i l = (0 < l.i) × RisenTo l.s l.at l.count (l.i - 1)
