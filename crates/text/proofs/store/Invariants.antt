-- The loop keeps that the digits taken off stand behind `end`; the one or two that are left come to the start.
use Rattle.text.proofs.Number.{Storing}
use Rattle.text.proofs.store.Given as goal

abbrev pub invariant-loop-rest : goal.invariant-loop-rest
invariant-loop-rest l = Storing l.initial.out l.at l.n l.out l.rest l.end

abbrev pub decreases-loop-rest : goal.decreases-loop-rest
decreases-loop-rest l = l.rest
