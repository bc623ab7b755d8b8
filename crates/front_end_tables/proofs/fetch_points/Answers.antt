-- The points that an accepted read names lie within the map.
use Rattle.std.proofs.Common.{◌*◌, arith}
use Rattle.front_end.specs.Commands.{read_points}
use Rattle.front_end_tables.proofs.Returned.{part-out}
use Rattle.front_end_tables.proofs.fetch_points.Goals as goal

pub returns : goal.returns
unfolding read_points
returns g c = let named = c.points_named-named in
    rw (← named.ensures.start, ← named.ensures.count)
    (part-out (g.T.Element.numbers c.args.staged.now) (2 * named.result.start) (2 * named.result.count) _ c.args.out.now (omega (arith, c.requires.0.ends)) (omega arith) (omega (arith, c.requires.0)) c.part.ensures c.words_out.ensures)
