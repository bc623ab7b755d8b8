use Rattle.std.proofs.Common.{◌≡◌, ◌+◌, ◌*◌, ap, arith, nat_lt}
use Rattle.gain_words.specs.Pairs.{colour_gains, sum_runs}
use Rattle.gain_words.proofs.Walk.{sum-turn, sum_done, next-pair}
use Rattle.gain_words.proofs.runs_past.Goals as goal

pub loop-k-preserved : goal.loop-k-preserved
loop-k-preserved g c = let ws = g.T.Element.numbers c.args.pairs.now in
    rw (next-pair c.loop-k.k) (omega (arith, sum-turn ws (2 * c.loop-k.k) (omega arith)))

pub returns : goal.returns
returns g c = let ws = g.T.Element.numbers c.args.pairs.now in
    let none_left = sum_done ws (2 * c.loop-k.k) (omega arith) in
    let same : c.loop-k.end ≡ c.args.start + sum_runs ws = omega arith in
    ap (nat_lt colour_gains) same
