-- A pair in range is passed.
use Rattle.std.proofs.Common.{◌≡◌, ◌+◌, ◌*◌, drop}
use Rattle.gain_words.specs.Pairs.{pair_fault}
use Rattle.gain_words.proofs.pair_fault.Given as goal

abbrev pub invariant-loop-k : goal.invariant-loop-k
invariant-loop-k g l = let ws = g.T.Element.numbers l.pairs in pair_fault ws ≡ 2 * l.k + pair_fault (drop (2 * l.k) ws)
