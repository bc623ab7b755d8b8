-- The points of an accepted write lie within the map.
use Rattle.std.proofs.Common.{◌*◌, ◌∙◌, arith}
use Rattle.wire.proofs.Copies.{sets-paste}
use Rattle.packet.specs.Points.{points_of}
use Rattle.front_end_tables.proofs.store_points.Goals as goal

pub words_in-requires : goal.words_in-requires
words_in-requires g c = rw c.behind.ensures (omega (arith, c.points_named-named.ensures, c.requires.0 c.if-opcode-eq52.true))

pub returns-then-opcode-eq52 : goal.returns-then-opcode-eq52
returns-then-opcode-eq52 g c = let named = c.points_named-named.ensures in
    let staged = g.T.Element.numbers c.args.staged.now in
    let points = points_of c.args.«data».now in
    rw (c.if-opcode-eq52.true, ← named.start)
    (rw c.behind.ensures at c.words_in.ensures.numbers ∙ sets-paste staged (2 * c.points_named-named.result.start) points (omega (arith, named.start, c.requires.0 c.if-opcode-eq52.true)))
