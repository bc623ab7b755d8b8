-- The loop keeps the highest gain: of those passed and of those left it is the highest of all.
use Rattle.std.proofs.Common.{◌≡◌, ◌∙◌, ap, arith, ltb}
use Rattle.gain_words.specs.Gains.{most_gain}
use Rattle.compressor.specs.Internal.{highest}
use Rattle.compressor.proofs.Writing.{high-turn, high-done, high-large}
use Rattle.compressor.proofs.some_large.Goals as goal

pub loop-i-preserved : goal.loop-i-preserved
loop-i-preserved g c =
    let gains = g.T.Element.numbers c.args.gains.now in
    omega (arith, c.number.ensures, c.count-i-end.ensures, high-turn gains c.loop-i.i (omega (arith, c.count-i-end.ensures)))

pub returns : goal.returns
returns g c =
    let gains = g.T.Element.numbers c.args.gains.now in
    let all : c.loop-i.most ≡ highest gains = omega (arith, high-done gains c.loop-i.i (omega (arith, c.count-i-end.ensures))) in
    ap (ltb most_gain) all ∙ high-large gains
