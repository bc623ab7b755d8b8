use Rattle.std.proofs.Common.{refl, ◌∙◌}
use borrow.Author.Tests.{eq-eqb, ne_eqb}
use Rattle.session_file.specs.Windows.{preamble_by}
use Rattle.session_file.proofs.preamble_byte.Goals as goal

pub returns-then-byte-preamble_at : goal.returns-then-byte-preamble_at
unfolding preamble_by
returns-then-byte-preamble_at c = c.none_yet.ensures ∙ rw (← c.preamble_at.ensures, eq-eqb _ _ c.if-byte-preamble_at.true) refl

pub returns : goal.returns
unfolding preamble_by
returns c = c.none_yet-2.ensures ∙ rw (← c.preamble_at.ensures, ne_eqb _ _ c.if-byte-preamble_at.false) refl
