-- Points and gains of an accepted read lie within their tables; any other read is of the block.
use Rattle.std.proofs.Common.{rules}
use borrow.Author.Tests.{ne_eqb}
use Rattle.settings.specs.Reset.{map_size, gains_size}
use Rattle.front_end.specs.Commands.{data_back}
use Rattle.front_end.proofs.Grants.{reads-points, reads-gains}
use Rattle.front_end_tables.proofs.state.State.fetch.Goals as goal

pub fetch_points-requires : goal.fetch_points-requires
fetch_points-requires g c = let s = c.args.self.now in
    (reads-points _ _ _ _ c.requires.granted c.requires.reads c.in-52.is, g.T.Element.laws.counted s.staged.now map_size s.staged_long, c.requires.room)

pub fetch_gains-requires : goal.fetch_gains-requires
fetch_gains-requires g c = let s = c.args.self.now in
    (reads-gains _ _ _ _ c.requires.granted c.requires.reads c.in-43.is, g.T.Element.laws.counted s.gains.now gains_size s.gains_long, c.requires.room)

pub returns-in-52 : goal.returns-in-52
unfolding data_back
returns-in-52 g c = rw c.in-52.is c.fetch_points.ensures

pub returns-in-43 : goal.returns-in-43
unfolding data_back
returns-in-43 g c = rw c.in-43.is c.fetch_gains.ensures

pub returns-in_default : goal.returns-in_default
unfolding data_back
returns-in_default g c = rw (ne_eqb c.args.command.opcode 52 (λ e. search rules), ne_eqb c.args.command.opcode 43 (λ e. search rules)) c.fetch.ensures
