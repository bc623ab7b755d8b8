-- The gains that an accepted read names lie within a third of the table.
use Rattle.std.proofs.Common.{refl, arith}
use Rattle.front_end.specs.Commands.{read_gains}
use Rattle.front_end_tables.proofs.Returned.{part-out}
use Rattle.front_end_tables.proofs.fetch_gains.Goals as goal

pub returns : goal.returns
unfolding read_gains
returns g c = let named = c.gains_named-named in
    rw (← named.ensures.place, ← named.ensures.count)
    (part-out (g.T.Element.numbers c.args.gains.now) named.result.place named.result.count _ c.args.out.now (omega (arith, c.requires.0)) refl (omega (arith, c.requires.0)) c.part.ensures c.words_out.ensures)
