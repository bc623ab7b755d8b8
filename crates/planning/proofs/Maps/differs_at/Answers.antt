-- The law on two maps at a point, and on two points as two numbers.
use Rattle.std.proofs.Common.{◌+◌, ◌*◌}
use Rattle.upload.proofs.Differs.{differs_at}
use Rattle.planning.proofs.Places.{one-differs}
use Rattle.planning.proofs.Maps.differs_at.Goals as goal

pub returns : goal.returns
returns g c =
    let maps = c.args.self.now in
    let held = g.T.Element.numbers maps.held.now in
    let wanted = g.T.Element.numbers maps.wanted.now in
    rw (differs_at held wanted c.args.i c.requires.0 c.requires.1, c.point.ensures, c.point-2.ensures)
    (one-differs _ _ _ _ (maps.held_small (2 * c.args.i)) (maps.wanted_small (2 * c.args.i)))
