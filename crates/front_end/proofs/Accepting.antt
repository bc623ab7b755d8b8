-- Demand 2 of one packet on a state: accepted exactly if the rules allow it, and then state and reply are those of the command; and but for the mark the
-- state is the one of its row.
use Prim.Native.Nat.{ℕ, ◌<◌}
use mathlib.Core.Path.{◌≡◌, ap, ◌∙◌}
use mathlib.Core.List.{List}
use native.Mathlib.Omega.{arith}
use borrow.Author.Tests.{eq-eqb, ne_eqb}
use lib.ListN.{length, get_or}
use lib.Dec.{eqb}
use Rattle.wire.specs.Buffers.{over}
use Rattle.opcode.specs.Options.{has_checksum, options_in, is_read}
use Rattle.reply.specs.Reply.{reply_bytes}
use Rattle.packet.specs.Frame.{header_of, opcode_of, data_of}
use Rattle.settings.specs.Layout.{block_size}
use Rattle.front_end.specs.State.{State, state}
use Rattle.front_end.specs.Commands.{written}
use Rattle.front_end.specs.Mark.{marked_block}
use Rattle.front_end.specs.Step.{status_reply, out, step}
use Rattle.front_end.proofs.Demands.{Demand2}
use Rattle.front_end.proofs.Effects.{leaves, returns, some_left, some-returned, written-data, read-data}
use Rattle.front_end.proofs.Steps.{step-read, step-written}
use Rattle.front_end.proofs.Demands.{accepted-exactly, decided}
use Rattle.front_end.proofs.Changes.{passed, changed, changed-long}
use Rattle.front_end.proofs.Marks.{AllButMark, mark-alone, mark-put}

-- A state with another block.
abbrev with_block : State → List ℕ → State
with_block s block = state block s.staged s.live s.gains

-- The block that an accepted write's command leaves, and the mark written into it.
module _ (p : List ℕ) (s : State) (reply : List ℕ) (none : (step p s reply).status ≡ 0) (write : is_read (header_of p) ≡ 0) where
  pub written-long : length (written (opcode_of p) (data_of p) s).block ≡ block_size
  unfolding step written
  written-long =
      let c = passed p s reply none in
      changed-long (changed (opcode_of p) (options_in (header_of p)) (data_of p) (omega arith) c.command.judged) s.block c.lent.tables.block

  pub alone : AllButMark (written (opcode_of p) (data_of p) s).block
      (marked_block (opcode_of p) (data_of p) (written (opcode_of p) (data_of p) s).block (written (opcode_of p) (data_of p) s).staged (written (opcode_of p) (data_of p) s).live)
  alone = mark-alone (opcode_of p) (data_of p) _ _ _ written-long

-- Demand 2: accepted exactly if the rules allow it, and then state and reply are those of the command.
pub demand2 : (p : List ℕ) → ((k : ℕ) → get_or p k 0 < 256) → (s : State) (reply : List ℕ) → Demand2 p s reply (step p s reply)
demand2 p bytes s reply =
    record {
      exactly = accepted-exactly p bytes s reply;
      writes = λ a w.
          let d = decided p s reply ((accepted-exactly p bytes s reply).1 a) in
          step-written p s reply d.0 d.1 (ne_eqb (is_read (header_of p)) 1 (omega arith));
      reads = λ a r.
          let d = decided p s reply ((accepted-exactly p bytes s reply).1 a) in
          step-read p s reply d.0 d.1 (eq-eqb (is_read (header_of p)) 1 r);
      leaves = λ a w.
          let d = decided p s reply ((accepted-exactly p bytes s reply).1 a) in
          let some = some_left s (written-data a.taken.allowed (omega arith)) in
          let made = step-written p s reply d.0 d.1 (ne_eqb (is_read (header_of p)) 1 (omega arith)) in
          record {
            after = some.after;
            by = some.by;
            answer =
                rw (made, ← leaves some.by)
                (ap (λ (block : List ℕ). out 0 0 (length (status_reply 0 0 p)) (with_block (written (opcode_of p) (data_of p) s) block) (over (status_reply 0 0 p) reply))
                (mark-put (alone p s reply ((accepted-exactly p bytes s reply).1 a) (omega arith)) (written-long p s reply ((accepted-exactly p bytes s reply).1 a) (omega arith))));
          };
      returns = λ a r.
          let d = decided p s reply ((accepted-exactly p bytes s reply).1 a) in
          let some = some-returned s a.lent.settings (read-data a.taken.allowed (omega arith)) in
          record {
            back = some.back;
            by = some.by;
            answer =
                step-read p s reply d.0 d.1 (eq-eqb (is_read (header_of p)) 1 r)
                ∙ ap (λ (back : List ℕ). out 0 0 (length (reply_bytes (eqb (has_checksum (header_of p)) 1) 0 back)) s (over (reply_bytes (eqb (has_checksum (header_of p)) 1) 0 back) reply)) (returns some.by);
          };
    }
