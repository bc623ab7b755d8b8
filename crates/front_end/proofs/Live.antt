-- The live side changes by an accepted 36h write of 1 alone: any other packet leaves the live points and the live settings, and so does any
-- list of others.
use Prim.Native.Nat.{ℕ, ◌+◌, ◌≤◌}
use mathlib.Core.Path.{◌≡◌, refl, sym, ◌∙◌}
use mathlib.Core.List.{List}
use native.Mathlib.Decide.{ℕ_discrete}
use native.Mathlib.Omega.{arith}
use borrow.Author.Tests.{eq-eqb, ne_eqb}
use lib.ListN.{length, take, drop}
use lib.Seq.{paste, length-paste}
use Rattle.wire.specs.Numbers.{byte_at}
use Rattle.wire.proofs.Copies.{same-part, paste-apart}
use Rattle.opcode.specs.Options.{options_in}
use Rattle.packet.specs.Frame.{header_of, opcode_of, data_of}
use Rattle.front_end.specs.State.{State}
use Rattle.front_end.specs.Commands.{block_after, live_after, written, apply_live}
use Rattle.front_end.specs.Step.{step}
use Rattle.front_end.specs.Writes.{Applies}
use Rattle.front_end.specs.Demands.{LiveKept}
use Rattle.front_end.specs.Calls.{Call, state_after_all, NoneApplies}
use Rattle.front_end.proofs.Changes.{Way, way, Change, changed, changed-long}
use Rattle.front_end.proofs.Marks.{mark-alone, front-part}
use Rattle.settings.specs.Layout.{block_size, live_shape, shape_size}

shape-changed : {op : ℕ} {d : List ℕ} → (op ≡ 0x36 → byte_at d 0 ≡ 1 → ⊥) → Change op d → (block : List ℕ) → length block ≡ block_size
    → take shape_size (drop live_shape block) ≡ take shape_size (drop live_shape (block_after op d block))
shape-changed other (Change.none e) block l = rw (e block)
shape-changed other (Change.copied from to n c e) block l =
    let room : to + n ≤ length block = omega arith in
    let long : length (paste block to from n) ≡ length block = length-paste block to from n room c.long in
    rw (e block) (sym (same-part (paste-apart block from to n room c.long live_shape shape_size c.beside) (omega arith) (omega arith)))
shape-changed other (Change.applied a v e) block l = absurd (other a v)

pub live_written : (op : ℕ) (d staged live : List ℕ) → (op ≡ 0x36 → byte_at d 0 ≡ 1 → ⊥) → live ≡ live_after op d staged live
unfolding apply_live
live_written op d staged live other =
    elim (ℕ_discrete op 0x36) [
      | yes a ↦ rw (eq-eqb op 0x36 a, ne_eqb (byte_at d 0) 1 (other a))
      | no a ↦ rw (ne_eqb op 0x36 a)
    ]

pub one_kept : (p : List ℕ) (s : State) (reply : List ℕ) → (Applies p (step p s reply) → ⊥) → LiveKept s (step p s reply).state
unfolding written
one_kept p s reply other = go (way p s reply)
  where
    go : Way p s reply → LiveKept s (step p s reply).state
    go (Way.same e) = rw e (record { points_kept = refl; settings-kept = refl })
    go (Way.wrote st r a e) =
        let not-applied : opcode_of p ≡ 0x36 → byte_at (data_of p) 0 ≡ 1 → ⊥ = λ o v. other (st, o, r, v) in
        let by = changed (opcode_of p) (options_in (header_of p)) (data_of p) (omega arith) a.command.judged in
        let long = changed-long by s.block a.lent.tables.block in
        let after : State = written (opcode_of p) (data_of p) s in
        let alone = mark-alone (opcode_of p) (data_of p) after.block after.staged after.live long in
        rw e
        (record {
          points_kept = live_written (opcode_of p) (data_of p) s.staged s.live not-applied;
          settings-kept =
              shape-changed not-applied by s.block a.lent.tables.block ∙ sym (front-part alone live_shape shape_size (omega arith) (omega arith));
        })

chain : {s t u : State} → LiveKept s t → LiveKept t u → LiveKept s u
chain h k = record { points_kept = h.points_kept ∙ k.points_kept; settings-kept = h.settings-kept ∙ k.settings-kept }

each-kept : {xs : List Call} {s : State} → NoneApplies xs s → LiveKept s (state_after_all xs s)
unfolding state_after_all
each-kept NoneApplies.none = record { points_kept = refl; settings-kept = refl }
each-kept (NoneApplies.next {x} {xs} {s} other rest) = chain (one_kept x.packet s x.reply other) (each-kept rest)

pub live-kept : (xs : List Call) (s : State) → NoneApplies xs s → LiveKept s (state_after_all xs s)
live-kept xs s h = each-kept h
