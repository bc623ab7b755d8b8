-- 34h by the rows of its points, 35h by all of the shape's, 36h with 1 by none, and the rest leaves the mark.
use Rattle.front_end.specs.Internal.{MarkGranted}
use Rattle.front_end.proofs.Fresh.{touched-fresh, shape-fresh, clear-fresh, rest-fresh}
use Rattle.front_end.proofs.mark.fresh_rows.Goals as goal

pub returns-in-52 : goal.returns-in-52
returns-in-52 c = let args = c.args in
    let granted : MarkGranted 0x34 args.«data».now args.block.now =
    record { settings = c.requires.settings; placed = λ e. c.requires.placed c.in-52.is } in
    rw c.in-52.is (touched-fresh granted c.touched.ensures)

pub returns-in-53 : goal.returns-in-53
returns-in-53 c = rw c.in-53.is (shape-fresh c.requires.settings c.word.ensures.0 c.word-in-53.ensures.0)

pub returns-in-54 : goal.returns-in-54
returns-in-54 c = rw (c.in-54.is, c.then_some.ensures, c.byte.ensures.0) (clear-fresh _ _)

pub returns-in_default : goal.returns-in_default
returns-in_default c = let rest = c.in_default.in_default-own.rest in
    rest-fresh _ _ _ rest.0.0.1 rest.0.1 rest.1
