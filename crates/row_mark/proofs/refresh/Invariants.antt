-- A row a turn: its bit, and no other.
use Rattle.row_mark.specs.Bits.{bits_of}
use Rattle.row_mark.specs.Rows.{row_differs}
use Rattle.row_mark.proofs.Rows.{Refreshing}
use Rattle.row_mark.proofs.refresh.Given as goal

abbrev pub invariant-loop-row : goal.invariant-loop-row
invariant-loop-row g l =
    Refreshing (row_differs l.columns (g.T.Element.numbers l.staged) (g.T.Element.numbers l.live)) l.first l.end
    (bits_of 32 l.mark) l.row (bits_of 32 l.fresh)
