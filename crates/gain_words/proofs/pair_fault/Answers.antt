use Rattle.std.proofs.Common.{◌*◌, sym, ◌∙◌, arith}
use Rattle.gain_words.proofs.Walk.{fault-run, fault-gain, fault-turn, fault-done, next-pair}
use Rattle.gain_words.proofs.pair_fault.Goals as goal

pub returns-then-run_wrong : goal.returns-then-run_wrong
returns-then-run_wrong g c = let ws = g.T.Element.numbers c.args.pairs.now in
    omega (arith, fault-run ws (2 * c.loop-k.k) (omega arith) c.number.ensures (sym c.run_wrong.ensures ∙ c.if-run_wrong.true))

pub returns-then-number-gt-MOST_GAIN : goal.returns-then-number-gt-MOST_GAIN
returns-then-number-gt-MOST_GAIN g c = let ws = g.T.Element.numbers c.args.pairs.now in
    let right = sym c.run_wrong.ensures ∙ c.if-run_wrong.false in
    omega (arith, fault-gain ws (2 * c.loop-k.k) (omega arith) c.number.ensures c.number-in-loop-k.ensures right c.if-number-gt-MOST_GAIN.true)

pub loop-k-preserved : goal.loop-k-preserved
loop-k-preserved g c = let ws = g.T.Element.numbers c.args.pairs.now in
    let right = sym c.run_wrong.ensures ∙ c.if-run_wrong.false in
    let turn = fault-turn ws (2 * c.loop-k.k) (omega arith) c.number.ensures c.number-in-loop-k.ensures right c.if-number-gt-MOST_GAIN.false in
    rw (next-pair c.loop-k.k) (omega (arith, turn))

pub returns : goal.returns
returns g c = omega (arith, fault-done (g.T.Element.numbers c.args.pairs.now) (2 * c.loop-k.k) (omega arith))
