-- The loop keeps what the bytes passed weigh; a turn weighs one more.
use Rattle.wire.proofs.Sums.{Weighing}
use Rattle.wire.proofs.checksum.Given as goal

abbrev pub invariant-loop-i : goal.invariant-loop-i
invariant-loop-i l = Weighing l.s l.n l.weight l.sum l.i
