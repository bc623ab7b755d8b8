-- So many times the number stands there, and what stands behind the numbers has stayed.
use Rattle.std.proofs.Common.{replicate}
use Rattle.wire.proofs.Laws.{Copying}
use Rattle.tables.specs.Behind.{SameBehind}
use Rattle.tables.proofs.fill.Given as goal

abbrev pub invariant-loop-i : goal.invariant-loop-i
invariant-loop-i g l = let numbers = g.T.Element.numbers in
    Copying (numbers l.initial.table) l.at (replicate l.n l.v) l.n (numbers l.table) l.i
    × SameBehind g.T.Element.WIDTH numbers l.table l.initial.table
