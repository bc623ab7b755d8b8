-- The loop keeps the highest gain: of those passed and of those left it is the highest of all.
use Rattle.std.proofs.Common.{◌≡◌, max, drop}
use Rattle.compressor.specs.Internal.{highest}
use Rattle.compressor.proofs.some_large.Given as goal

abbrev pub invariant-loop-i : goal.invariant-loop-i
invariant-loop-i g l =
    let gains = g.T.Element.numbers l.gains in
    max l.most (highest (drop l.i gains)) ≡ highest gains
