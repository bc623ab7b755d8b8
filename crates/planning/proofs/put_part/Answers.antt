-- A number of the plan has an element or more in it.
use Rattle.std.proofs.Common.{arith}
use Rattle.planning.proofs.put_part.Goals as goal

pub overflow_mul-p : goal.overflow_mul-p
overflow_mul-p g c = omega (arith, g.T.Element.laws.short c.args.plan.now)
