-- The four stores are those of the definition, each on its own part; live is written first, from the staged map as it was.
use Rattle.settings.specs.Reset.{map_size, gains_size}
use Rattle.front_end.specs.Commands.{written}
use Rattle.front_end.proofs.Grants.{writes-points, writes-gains}
use Rattle.front_end_tables.proofs.state.State.store.Goals as goal

pub store_points-requires : goal.store_points-requires
store_points-requires g c = let s = c.args.self.now in
    (writes-points _ _ _ _ c.requires.granted c.requires.writes, g.T.Element.laws.counted s.staged.now map_size s.staged_long)

pub store_gains-requires : goal.store_gains-requires
store_gains-requires g c = let s = c.args.self.now in
    (writes-gains _ _ _ _ c.requires.granted c.requires.writes, g.T.Element.laws.counted s.gains.now gains_size s.gains_long)

pub returns-clause-stored : goal.returns-clause-stored
unfolding written
returns-clause-stored g c = rw (c.store.ensures, c.store_gains.ensures, c.store_points.ensures, c.apply.ensures)
