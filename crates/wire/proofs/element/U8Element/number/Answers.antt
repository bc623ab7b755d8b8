-- Both bytes of a number that is counted lie within the list.
use Rattle.std.proofs.Common.{◌<◌, ◌+◌, ◌*◌, ◌∙◌, arith, length, List, ℕ}
use Rattle.wire.specs.Tables.{words}
use Rattle.wire.proofs.Tables.{length_pairs, pair-at}
use Rattle.wire.proofs.element.U8Element.number.Goals as goal

within : (list : List ℕ) (i : ℕ) → i < length (words list) → 2 * i + 1 < length list
within list i h = omega (arith, length_pairs 256 list)

pub overflow_mul-i : goal.overflow_mul-i
overflow_mul-i c = omega (arith, within c.args.list.now c.args.i c.requires)

pub bounds-list-i : goal.bounds-list-i
bounds-list-i c = omega (arith, within c.args.list.now c.args.i c.requires)

pub overflow_mul-i-2 : goal.overflow_mul-i-2
overflow_mul-i-2 c = omega (arith, within c.args.list.now c.args.i c.requires)

pub overflow_add-i : goal.overflow_add-i
overflow_add-i c = omega (arith, within c.args.list.now c.args.i c.requires)

pub bounds-list-i-2 : goal.bounds-list-i-2
bounds-list-i-2 c = within c.args.list.now c.args.i c.requires

pub returns : goal.returns
returns c = c.number.ensures ∙ pair-at 256 c.args.list.now c.args.i (within c.args.list.now c.args.i c.requires)
