-- A point a turn.
use Rattle.wire.specs.Tables.{words}
use Rattle.row_mark.proofs.Walk.{Alike}
use Rattle.row_mark.proofs.bytes.points_differ.Given as goal

abbrev pub invariant-loop-i : goal.invariant-loop-i
invariant-loop-i l = Alike (words l.staged) (words l.live) l.start l.n l.i
