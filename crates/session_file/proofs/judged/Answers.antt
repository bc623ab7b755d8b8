use Rattle.std.proofs.Common.{refl, arith, ◌∙◌}
use Rattle.session_file.specs.Windows.{after_taking}
use Rattle.session_file.proofs.judged.Goals as goal

pub returns-then-is_cut : goal.returns-then-is_cut
unfolding after_taking
returns-then-is_cut c =
    (c.none_yet.ensures ∙ rw (← c.is_cut.ensures.0, c.if-is_cut.true) refl, rw c.none_yet.ensures (c.is_cut.ensures.1 c.if-is_cut.true))

pub returns : goal.returns
unfolding after_taking
returns c = (c.whole.ensures ∙ rw (← c.is_cut.ensures.0, c.if-is_cut.false, ← c.min-end.ensures) refl, rw c.whole.ensures (omega arith))
