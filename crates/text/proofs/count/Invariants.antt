-- The loop takes off four digits a turn; the one to four that are left are counted by tests.
use Rattle.text.proofs.Number.{Counting}
use Rattle.text.proofs.count.Given as goal

abbrev pub invariant-loop-rest : goal.invariant-loop-rest
invariant-loop-rest l = Counting l.n l.rest l.k

abbrev pub decreases-loop-rest : goal.decreases-loop-rest
decreases-loop-rest l = l.rest
