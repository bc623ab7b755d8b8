-- The gains of an accepted write lie within a third of the table; for colour 0 they are stored three times, a third apart.
use Rattle.std.proofs.Common.{sym, ◌∙◌}
use Rattle.front_end.proofs.Grants.{gains-one, gains-three}
use Rattle.front_end_tables.proofs.store_gains.Goals as goal

pub returns-then-named-eq0 : goal.returns-then-named-eq0
returns-then-named-eq0 g c = let named = c.gains_named-named.ensures in
    let gains = g.T.Element.numbers c.args.gains.now in
    rw (c.if-opcode-ne43.false, c.put_gains-then-named-eq0-2.ensures, c.put_gains-then-named-eq0.ensures, c.put_gains.ensures)
    (gains-three c.args.«data».now gains c.gains_named-named.result.place named.place (sym named.colour ∙ c.if-named-eq0.true))

pub returns-else-named-eq0 : goal.returns-else-named-eq0
returns-else-named-eq0 g c = let named = c.gains_named-named.ensures in
    let gains = g.T.Element.numbers c.args.gains.now in
    rw c.if-opcode-ne43.false
    (c.put_gains.ensures ∙ gains-one c.args.«data».now gains c.gains_named-named.result.place named.place (λ none. c.if-named-eq0.false (named.colour ∙ none)))
