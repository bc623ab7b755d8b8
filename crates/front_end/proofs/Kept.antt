-- Block bytes without a meaning survive every packet: whatever a write copies into the block ends where the settings end, and the mark is written behind
-- these, in four bytes.
use Prim.Native.Nat.{ℕ, ◌+◌}
use mathlib.Core.Path.{◌≡◌, sym, ap, ◌∙◌}
use mathlib.Core.List.{List, [], ◌∷◌}
use native.Mathlib.Omega.{arith}
use lib.ListN.{length, drop, length-drop}
use lib.Seq.{drop-drop}
use Rattle.opcode.specs.Options.{options_in}
use Rattle.packet.specs.Frame.{header_of, opcode_of, data_of}
use Rattle.front_end.specs.State.{State}
use Rattle.front_end.specs.Commands.{block_after, written}
use Rattle.front_end.specs.Step.{step}
use Rattle.front_end.proofs.Changes.{Way, way, Change, changed, changed-long, enabled, enabled-long}
use Rattle.front_end.proofs.Marks.{mark-alone}
use Rattle.settings.specs.Layout.{block_size, enable, live_shape, settings_end, mark_place, mark_size, shape_size, staged_shape}
use Rattle.wire.proofs.Copies.{behind-paste}

pub tail-changed : {op : ℕ} {d : List ℕ} → Change op d → (block : List ℕ) → length block ≡ block_size
    → drop settings_end (block_after op d block) ≡ drop settings_end block
tail-changed (Change.none e) block l = rw (e block)
tail-changed (Change.copied from to n c e) block l =
    rw (e block) (behind-paste block from to n (omega arith) c.long settings_end c.ends)
tail-changed (Change.applied a v e) block l =
    let long = enabled-long block l in
    rw (e block)
    (behind-paste (enabled block) (drop staged_shape block) live_shape shape_size (omega arith) (rw length-drop (omega arith)) settings_end (omega arith)
    ∙ behind-paste block (1 ∷ []) enable 1 (omega arith) (omega arith) settings_end (omega arith))

-- Behind the mark.
pub tail_from : (a b : List ℕ) → drop settings_end a ≡ drop settings_end b → drop (mark_place + mark_size) a ≡ drop (mark_place + mark_size) b
tail_from a b e = sym (drop-drop mark_size settings_end a) ∙ ap (drop mark_size) e ∙ drop-drop mark_size settings_end b

pub tail-kept : (p : List ℕ) (s : State) (reply : List ℕ) → drop (mark_place + mark_size) (step p s reply).state.block ≡ drop (mark_place + mark_size) s.block
unfolding written
tail-kept p s reply = go (way p s reply)
  where
    go : Way p s reply → drop (mark_place + mark_size) (step p s reply).state.block ≡ drop (mark_place + mark_size) s.block
    go (Way.same e) = rw e
    go (Way.wrote st r a e) =
        let by = changed (opcode_of p) (options_in (header_of p)) (data_of p) (omega arith) a.command.judged in
        let long = a.lent.tables.block in
        let after : State = written (opcode_of p) (data_of p) s in
        rw e
        ((mark-alone (opcode_of p) (data_of p) after.block after.staged after.live (changed-long by s.block long)).behind
        ∙ tail_from after.block s.block (tail-changed by s.block long))
