-- Status 10 stores its place, any other nothing.
use mathlib.Core.Path.{refl, ◌∙◌}
use native.Mathlib.Omega.{arith}
use lib.Seq.{sets-eq}
use borrow.Author.Tests.{eq-eqb, ne_eqb}
use Rattle.wire.specs.Numbers.{word_bytes}
use Rattle.wire.specs.Buffers.{over}
use Rattle.front_end.proofs.put_place.Goals as goal

pub returns-then-number-eq10 : goal.returns-then-number-eq10
unfolding over
returns-then-number-eq10 c = let args = c.args in
    rw (eq-eqb _ _ c.if-number-eq10.true) (refl, c.put_word.ensures ∙ sets-eq (word_bytes args.place) args.out.now 0 (omega arith))

pub returns : goal.returns
unfolding over
returns c = rw (ne_eqb _ _ c.if-number-eq10.false) (refl, refl)
