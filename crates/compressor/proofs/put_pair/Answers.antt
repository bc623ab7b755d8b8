-- A number has an element or more in the list.
use Rattle.std.proofs.Common.{arith}
use Rattle.compressor.proofs.put_pair.Goals as goal

pub overflow_mul-k : goal.overflow_mul-k
overflow_mul-k g c = omega (arith, g.T.Element.laws.short c.args.pairs.now)
