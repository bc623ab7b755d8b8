use Rattle.std.proofs.Common.{arith}
use Rattle.gain_words.proofs.Walk.{large-turn, large-stop, large-done}
use Rattle.gain_words.proofs.first_large.Goals as goal

pub returns-then-number-gt-MOST_GAIN : goal.returns-then-number-gt-MOST_GAIN
returns-then-number-gt-MOST_GAIN g c = let ws = g.T.Element.numbers c.args.gains.now in
    omega (arith, large-stop ws c.loop-i.i (omega arith) (omega arith))

pub loop-i-preserved : goal.loop-i-preserved
loop-i-preserved g c = let ws = g.T.Element.numbers c.args.gains.now in
    omega (arith, large-turn ws c.loop-i.i (omega arith) (omega arith))

pub returns : goal.returns
returns g c = omega (arith, large-done (g.T.Element.numbers c.args.gains.now) c.loop-i.i (omega arith))
