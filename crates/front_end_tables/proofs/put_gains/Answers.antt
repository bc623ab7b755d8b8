-- The gains sent are the words, or what the pairs stand for; they go over those from the place on.
use Rattle.std.proofs.Common.{sym, ap, ◌∙◌}
use lib.Seq.{sets}
use Rattle.wire.proofs.Copies.{sets-paste}
use Rattle.front_end.specs.Commands.{gains_sent}
use Rattle.front_end.proofs.Grants.{pairs-into, sent-plain}
use Rattle.front_end_tables.proofs.put_gains.Goals as goal

pub returns-then-in_pairs : goal.returns-then-in_pairs
returns-then-in_pairs g c = let args = c.args in
    let pairs = sym c.in_pairs.ensures ∙ c.if-in_pairs.true in
    rw c.behind-words.ensures at c.runs_in.ensures.numbers ∙ pairs-into args.«data».now (g.T.Element.numbers args.gains.now) args.place pairs c.requires.1

pub returns-else-in_pairs : goal.returns-else-in_pairs
returns-else-in_pairs g c = let args = c.args in
    let gains = g.T.Element.numbers args.gains.now in
    let plain = sent-plain args.«data».now (sym c.in_pairs.ensures ∙ c.if-in_pairs.false) in
    rw c.behind-words.ensures at c.words_in.ensures.numbers ∙ ap (sets gains args.place) (sym plain) ∙ sets-paste gains args.place (gains_sent args.«data».now) c.requires.1
