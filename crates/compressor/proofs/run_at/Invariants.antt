-- The loop keeps how far the run goes: a gain like it is passed, another or the end stops it.
use Rattle.std.proofs.Common.{◌≡◌, ◌+◌, drop}
use Rattle.compressor.specs.Internal.{lead}
use Rattle.compressor.proofs.run_at.Given as goal

abbrev pub invariant-loop-end : goal.invariant-loop-end
invariant-loop-end g l =
    let gains = g.T.Element.numbers l.gains in
    l.at + lead l.gain (drop l.at gains) ≡ l.end + lead l.gain (drop l.end gains)
