-- A stopped packet is refusal 1; a refusal is answered as its step; a command is performed as the decision gives it.
use Rattle.std.proofs.Common.{sym, ◌∙◌}
use Rattle.front_end.proofs.Bounds.{decision-fault}
use Rattle.front_end.proofs.Demands.{lent}
use Rattle.front_end.proofs.Grants.{answers-refusal}
use Rattle.front_end.proofs.Steps.{step-stopped}
use Rattle.front_end_tables.proofs.state.State.handle.Goals as goal

pub returns-then-stops-clause-outcome : goal.returns-then-stops-clause-outcome
returns-then-stops-clause-outcome g c = sym (step-stopped _ _ _ (sym c.stops.ensures ∙ c.if-stops.true))

pub perform-requires-clause-runs : goal.perform-requires-clause-runs
perform-requires-clause-runs g c = sym c.stops.ensures ∙ c.if-stops.false

pub refuse-requires : goal.refuse-requires
refuse-requires g c = (decision-fault _ _ c.decide-decision.ensures, (lent _ _ (sym c.stops.ensures ∙ c.if-stops.false)).room)

pub returns-in-Err-clause-outcome : goal.returns-in-Err-clause-outcome
returns-in-Err-clause-outcome g c = answers-refusal _ _ _ (sym c.stops.ensures ∙ c.if-stops.false) c.in-Err.ensures (rw c.in-Err.is at c.refuse.ensures)
