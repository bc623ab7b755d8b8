-- The decision gives the command that the packet holds, granted on its data; each way is the step that the law for it gives.
use Rattle.std.proofs.Common.{ℕ, ◌≡◌, ◌∙◌, arith, sym}
use borrow.Author.Tests.{eqb-true, eqb-false}
use Rattle.opcode.specs.Options.{is_read}
use Rattle.front_end.proofs.Demands.{lent}
use Rattle.front_end.proofs.Grants.{inside, granted, answers-read, stores_write}
use Rattle.front_end_tables.proofs.state.State.perform.Goals as goal

written : (o : ℕ) → (is_read o ≡ 1 → ⊥) → is_read o ≡ 0
written o other = omega (arith, other)

pub data-data-requires : goal.data-data-requires
data-data-requires g c = inside _ _ _ c.requires.runs _ _ _ _ c.requires.decided

pub answer_read-size-requires-clause-granted : goal.answer_read-size-requires-clause-granted
answer_read-size-requires-clause-granted g c = rw c.data-data.ensures (granted _ _ _ c.requires.runs _ _ _ _ c.requires.decided)

pub answer_read-size-requires-clause-room : goal.answer_read-size-requires-clause-room
answer_read-size-requires-clause-room g c = (lent _ _ c.requires.runs).room

pub write-requires-clause-granted : goal.write-requires-clause-granted
write-requires-clause-granted g c = rw c.data-data.ensures (granted _ _ _ c.requires.runs _ _ _ _ c.requires.decided)

pub acknowledge-size-requires : goal.acknowledge-size-requires
acknowledge-size-requires g c = omega (arith, (lent _ _ c.requires.runs).room)

pub returns-then-reads-clause-outcome : goal.returns-then-reads-clause-outcome
returns-then-reads-clause-outcome g c =
    let reads = rw c.header.ensures at (eqb-true _ _ (sym c.reads.ensures ∙ c.if-reads.true)) in
    answers-read _ _ _ c.requires.runs _ _ _ _ c.requires.decided reads (rw c.data-data.ensures at c.answer_read-size.ensures)

pub returns-else-reads-clause-outcome : goal.returns-else-reads-clause-outcome
returns-else-reads-clause-outcome g c =
    let other = eqb-false (is_read c.header.result.bits) 1 (sym c.reads.ensures ∙ c.if-reads.false) in
    let writes : is_read c.args.command.options ≡ 0 = rw c.header.ensures at (written c.header.result.bits other) in
    stores_write _ _ _ c.requires.runs _ _ _ _ c.requires.decided writes (rw c.data-data.ensures at c.write.ensures.stored) c.acknowledge-size.ensures
