-- The loop keeps how far the run goes: a gain like it is passed, another or the end stops it.
use Rattle.std.proofs.Common.{◌∙◌, sym, arith}
use Rattle.compressor.proofs.Writing.{run-turn, run-stop, run-done}
use Rattle.compressor.proofs.run_at.Goals as goal

pub loop-end-init : goal.loop-end-init
loop-end-init g c =
    let gains = g.T.Element.numbers c.args.gains.now in
    omega (arith, run-turn gains c.args.at c.args.gain (omega arith) (sym c.requires.1))

pub returns-then-number-gain : goal.returns-then-number-gain
returns-then-number-gain g c =
    let gains = g.T.Element.numbers c.args.gains.now in
    omega (arith, c.loop-end.invariant, run-stop gains c.loop-end.end c.args.gain (omega (arith, c.count-n.ensures)) (λ e. c.if-number-gain.true (c.number.ensures ∙ e)))

pub loop-end-preserved : goal.loop-end-preserved
loop-end-preserved g c =
    let gains = g.T.Element.numbers c.args.gains.now in
    omega (arith, c.loop-end.invariant, run-turn gains c.loop-end.end c.args.gain (omega (arith, c.count-n.ensures)) (sym c.number.ensures ∙ c.if-number-gain.false))

pub returns : goal.returns
returns g c =
    let gains = g.T.Element.numbers c.args.gains.now in
    omega (arith, c.loop-end.invariant, run-done gains c.loop-end.end c.args.gain (omega (arith, c.count-n.ensures)))
