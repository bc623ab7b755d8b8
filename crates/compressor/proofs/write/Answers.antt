-- The loop keeps what the law on writing says: what is left of the pairs makes the goal. A turn
-- writes one run's.
use Rattle.std.proofs.Common.{arith}
use Rattle.compressor.proofs.Writing.{as-numbers, Run, found, turn, done}
use Rattle.compressor.proofs.write.Given.{Over}
use Rattle.compressor.proofs.write.Goals.{After-run_at-run}
use Rattle.compressor.proofs.write.Goals as goal

ran : (g : Over) (c : After-run_at-run g)
    → Run (g.T.Element.numbers c.args.gains.now) c.loop-i.i c.number-gain.result c.run_at-run.result
ran g c = found _ _ (omega (arith, c.count-n.ensures)) c.number-gain.ensures c.run_at-run.ensures

pub put_pair-requires : goal.put_pair-requires
put_pair-requires g c =
    let inv = c.loop-i.invariant in
    let run = ran g (goal.at.put_pair-requires g c).After-run_at-run in
    (omega (arith, inv.few, inv.long, c.count-n.ensures), omega (arith, run.within))

pub overflow_add-i : goal.overflow_add-i
overflow_add-i g c = omega (arith, (ran g (goal.at.overflow_add-i g c).After-run_at-run).within)

pub loop-i-smaller : goal.loop-i-smaller
loop-i-smaller g c =
    let run = ran g (goal.at.loop-i-smaller g c).After-run_at-run in
    omega (arith, run.some, run.within, c.count-n.ensures)

pub loop-i-preserved : goal.loop-i-preserved
loop-i-preserved g c = turn as-numbers _ (ran g (goal.at.loop-i-preserved g c).After-run_at-run) c.put_pair.ensures c.loop-i.invariant

pub returns : goal.returns
returns g c = done as-numbers _ (omega arith) (omega (arith, c.count-n.ensures)) c.loop-i.invariant
