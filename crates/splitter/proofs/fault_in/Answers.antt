-- The loop keeps that a fault so far, or one behind, is one of all.
use Rattle.std.proofs.Common.{◌*◌, arith}
use Rattle.gain_words.proofs.Walk.{next-pair}
use Rattle.splitter.proofs.Faults.{turn, none}
use Rattle.splitter.proofs.fault_in.Goals as goal

pub loop-k-preserved : goal.loop-k-preserved
loop-k-preserved g c =
    let ws = g.T.Element.numbers c.args.part.now in
    rw (next-pair c.loop-k.k)
    (turn ws (2 * c.loop-k.k) c.loop-k.wrong (omega arith) c.number-run.ensures c.number-gain.ensures c.loop-k.invariant)

pub returns : goal.returns
returns g c =
    none (g.T.Element.numbers c.args.part.now) (2 * c.loop-k.k) c.loop-k.wrong (omega (arith, c.requires)) c.loop-k.invariant
