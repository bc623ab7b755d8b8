use Rattle.std.proofs.Common.{◌*◌, arith}
use Rattle.gain_words.proofs.Walk.{sum-turn, sum_done, next-pair}
use Rattle.gain_words.proofs.runs_sum.Goals as goal

pub loop-k-preserved : goal.loop-k-preserved
loop-k-preserved g c = let ws = g.T.Element.numbers c.args.pairs.now in
    rw (next-pair c.loop-k.k) (omega (arith, sum-turn ws (2 * c.loop-k.k) (omega arith)))

pub returns : goal.returns
returns g c = omega (arith, sum_done (g.T.Element.numbers c.args.pairs.now) (2 * c.loop-k.k) (omega arith))
