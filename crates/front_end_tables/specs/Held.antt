-- What a state that is lent holds: its settings, and the numbers of its tables.
use Rattle.std.specs.Prelude.{ℕ, ◌≡◌, List, [], ◌∷◌, Option, Some, None}
use Rattle.std.proofs.Math.Seq.{paste}
use Rattle.wire.specs.Tables.{long_bytes}
use Rattle.wire.specs.Refusals.{status_if, fault_if}
use Rattle.settings.specs.Layout.{mark_place, mark_size}
use Rattle.front_end.specs.Mark.{marked_block}
use Rattle.wire.specs.declared.element.Element.{Ghosts}
use Rattle.front_end.specs.State.{state}
use Rattle.front_end.specs.State as front_end
use Rattle.front_end.specs.Step.{out, step}
use Rattle.front_end.specs.declared.Outcome.{Outcome}
use Rattle.front_end_tables.specs.declared.state.State.{State}

abbrev pub held : {T : Type 0} {E : Ghosts T} → State T E → front_end.State
held {E = E} s = state s.block.now (E.numbers s.staged.now) (E.numbers s.live.now) (E.numbers s.gains.now)

-- The lists are the ones that were lent.
abbrev pub SameLists : {T : Type 0} {E : Ghosts T} → State T E → State T E → Type 0
SameLists s t =
    (t.block.ghost_name ≡ s.block.ghost_name)
    × (t.staged.ghost_name ≡ s.staged.ghost_name)
    × (t.live.ghost_name ≡ s.live.ghost_name)
    × (t.gains.ghost_name ≡ s.gains.ghost_name)

-- Rules 11.2 and 11.3: the mark that a write puts into the block; of none the block is right as it is.
abbrev pub FreshMark : ℕ → List ℕ → front_end.State → Option ℕ → Type 0
FreshMark op d s None = s.block ≡ marked_block op d s.block s.staged s.live
FreshMark op d s (Some mark) =
    paste s.block mark_place (long_bytes (mark ∷ [])) mark_size ≡ marked_block op d s.block s.staged s.live

-- One packet does what it does on the state that is held.
abbrev pub Answered : List ℕ → front_end.State → List ℕ → Outcome → front_end.State → List ℕ → Type 0
Answered p s reply o s₂ reply₂ = out (status_if o.refused) (fault_if o.refused) o.size s₂ reply₂ ≡ step p s reply
