-- The loop keeps that the numbers up to the i-th rise; a stretch has the first fault, or is passed.
use Prim.Native.Nat.{◌-◌}
use Rattle.opcode.specs.Internal.{RisenTo}
use Rattle.opcode.proofs.lists.rise.Given as goal

abbrev pub invariant-loop-i : goal.invariant-loop-i
invariant-loop-i l = RisenTo l.s l.at l.count l.i

abbrev pub decreases-loop-i : goal.decreases-loop-i
decreases-loop-i l = l.count - l.i
