-- A gain in range is passed.
use Rattle.std.proofs.Common.{◌≡◌, ◌+◌, drop}
use Rattle.gain_words.specs.Gains.{first_large}
use Rattle.gain_words.proofs.first_large.Given as goal

abbrev pub invariant-loop-i : goal.invariant-loop-i
invariant-loop-i g l = let ws = g.T.Element.numbers l.gains in first_large ws ≡ l.i + first_large (drop l.i ws)
