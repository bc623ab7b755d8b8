-- There is room for the most digits that a number has, so for those that it has.
use Rattle.std.proofs.Common.{arith}
use Rattle.text.proofs.Forms.{length-decimal, decimal-right}
use Rattle.text.proofs.Page.put_number.Goals as goal

pub store-requires : goal.store-requires
store-requires c = (c.count-k.ensures, omega (arith, (length-decimal c.args.n).1, c.count-k.ensures))

pub overflow_add-self : goal.overflow_add-self
overflow_add-self c = omega (arith, (length-decimal c.args.n).1, c.count-k.ensures)

pub returns-clause-most : goal.returns-clause-most
returns-clause-most c = omega (arith, (length-decimal c.args.n).1, c.count-k.ensures)

pub returns-clause-reads : goal.returns-clause-reads
returns-clause-reads c = decimal-right c.args.n c.ranges.n.fits
