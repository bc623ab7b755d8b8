-- One point after another; the row differs at the first that does.
use Rattle.row_mark.proofs.Walk.{Alike}
use Rattle.row_mark.proofs.numbers.U16Map.row_differs.Given as goal

abbrev pub invariant-loop-i : goal.invariant-loop-i
invariant-loop-i l = Alike l.staged l.live l.start l.columns l.i
