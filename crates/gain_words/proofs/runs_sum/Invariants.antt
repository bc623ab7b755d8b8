-- What is added and what is left are all runs.
use Rattle.std.proofs.Common.{◌≡◌, ◌+◌, ◌*◌, drop}
use Rattle.gain_words.specs.Pairs.{sum_runs}
use Rattle.gain_words.proofs.runs_sum.Given as goal

abbrev pub invariant-loop-k : goal.invariant-loop-k
invariant-loop-k g l = let ws = g.T.Element.numbers l.pairs in l.sum + sum_runs (drop (2 * l.k) ws) ≡ sum_runs ws
