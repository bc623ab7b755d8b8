-- What is stored leaves a block on which the mark is worked out, from the maps as they are then.
use Rattle.std.proofs.Common.{ℕ, List, sym, ap, subst}
use Rattle.front_end.specs.State.{State}
use Rattle.front_end.specs.Commands.{written}
use Rattle.front_end.specs.Internal.{MarkGranted}
use Rattle.front_end.proofs.Fresh.{mark-granted}
use Rattle.front_end_tables.proofs.state.State.write.Goals as goal

pub mark_rows-requires : goal.mark_rows-requires
unfolding written
mark_rows-requires g c = let args = c.args in
    let granted = mark-granted c.requires.granted c.requires.writes (λ k. (c.type_inv.data k).fits) in
    let block = ap (λ (s : State). s.block) c.store.ensures.stored in
    subst (λ (b : List ℕ). MarkGranted args.command.opcode args.«data».now b) (sym block) granted
