-- What one packet promises plainly, from the equation: each refusal by its condition, what is left
-- by the rows of Effects, the reply by its bytes.
use Prim.Native.Nat.{ℕ, ◌≤◌, ◌<◌}
use mathlib.Core.Path.{◌≡◌, refl, sym, ap, subst, ◌∙◌}
use mathlib.Core.Logic.{◌⊎◌, inl, inr, ⊎_elim}
use mathlib.Core.Bool.{Bool, true, false, and-false}
use mathlib.Core.List.{List, [], ◌∷◌}
use native.Mathlib.Omega.{arith}
use native.Mathlib.Decide.{ℕ_discrete}
use borrow.Author.Tests.{eq-eqb, ne_eqb}
use lib.ListN.{get_or}
use Rattle.wire.specs.First.{first}
use Rattle.wire.specs.Buffers.{over}
use Rattle.wire.proofs.Plain.{Each, first-applies}
use Rattle.wire.proofs.Tests.{first-right, first-silent}
use Rattle.opcode.specs.Options.{is_read}
use Rattle.opcode.specs.Judgement.{judgement}
use Rattle.opcode.proofs.Faults.{Located}
use Rattle.opcode.specs.Plain.{not_carried, lacks-length, wrong_size, out_of_range, merges}
use Rattle.packet.specs.Frame.{header_of, opcode_of, options_of, data_of}
use Rattle.packet.specs.Reading.{refusals, reading}
use Rattle.packet.specs.Plain.{Refuses, too_short, too_long, other_length, other-sum, elsewhere, command, ReadPlain}
use Rattle.packet.proofs.Frames.{reading-number}
use Rattle.packet.proofs.Exactly.{exactly}
use Rattle.packet.proofs.Promises.{read-promised}
use Rattle.front_end.specs.State.{State, stopped}
use Rattle.front_end.specs.Commands.{runs_past}
use Rattle.front_end.specs.Step.{reads, step_refusals, number_of, answers, reply_data, reply_to, Out, step}
use Rattle.front_end.specs.Plain.{StateLent, LentRight, WithinTable, StepRefuses, lent-wrong, packet, past-table, Asks, ReplyData, ReplyWritten, LeftBy, StepPlain}
use Rattle.front_end.proofs.Effects.{returns, some-returned, read-data}
use Rattle.front_end.proofs.Demands.{lent, runs, running-right, right-running, refusals-numbered, demand1, accepted-exactly}
use Rattle.front_end.proofs.Steps.{step-stopped}
use Rattle.front_end.proofs.Bounds.{placed-number}
use Rattle.front_end.proofs.Accepting.{demand2}
use Rattle.front_end.proofs.ReadBack.{asks-it, answered}
use Rattle.front_end.proofs.InRange.{stays_lent}
use Rattle.front_end.proofs.Marking.{rows-marked}

-- A packet alone is refused by 2 to 11.
from-2-to-11 : {p : List ℕ} {k : ℕ} → Refuses p k → (2 ≤ k) × (k ≤ 11)
from-2-to-11 (too_short h) = (omega arith, omega arith)
from-2-to-11 (too_long h) = (omega arith, omega arith)
from-2-to-11 (other_length o h) = (omega arith, omega arith)
from-2-to-11 (other-sum o h) = (omega arith, omega arith)
from-2-to-11 (elsewhere h) = (omega arith, omega arith)
from-2-to-11 (command (not_carried h)) = (omega arith, omega arith)
from-2-to-11 (command (lacks-length h)) = (omega arith, omega arith)
from-2-to-11 (command (wrong_size h)) = (omega arith, omega arith)
from-2-to-11 (command (out_of_range h)) = (omega arith, omega arith)
from-2-to-11 (command (merges h)) = (omega arith, omega arith)

module _ (p : List ℕ) (bytes : (k : ℕ) → get_or p k 0 < 256) (s : State) (reply : List ℕ) where
  read : ReadPlain p (reading p)
  read = (read-promised p bytes refl).plain

  -- What is lent is right, unless 1 is given.
  right : ((step p s reply).status ≡ 1 → ⊥) → LentRight s reply
  right other = go (stopped s reply) refl
    where
      go : (b : Bool) → stopped s reply ≡ b → LentRight s reply
      go true e = absurd (other (ap (λ (o : Out). o.status) (step-stopped p s reply e)))
      go false e = running-right (lent s reply e)

  -- A packet that reading takes gets 0 or 12.
  taken-status : LentRight s reply → (reading p).number ≡ 0 → ((step p s reply).status ≡ 0) ⊎ ((step p s reply).status ≡ 12)
  unfolding step number_of
  taken-status l z = go (runs_past (opcode_of p) (reads p) (data_of p) s.block) refl
    where
      same : first (step_refusals p s reply) ≡ first ((12, runs_past (opcode_of p) (reads p) (data_of p) s.block) ∷ [])
      same =
          rw (runs s reply (right-running l))
          (first-right (refusals p) ((12, runs_past (opcode_of p) (reads p) (data_of p) s.block) ∷ [])
          (first-silent (refusals p) (refusals-numbered p) (sym (reading-number p) ∙ z)))

      go : (b : Bool) → runs_past (opcode_of p) (reads p) (data_of p) s.block ≡ b
          → (first (step_refusals p s reply) ≡ 0) ⊎ (first (step_refusals p s reply) ≡ 12)
      go true e = inr (same ∙ rw e)
      go false e = inl (same ∙ rw e)

  -- Any other is reading's.
  read-refuses : (k : ℕ) → (step p s reply).status ≡ k → (k ≡ 0 → ⊥) → (k ≡ 1 → ⊥) → (k ≡ 12 → ⊥) → Refuses p k
  read-refuses k e not-0 not-1 not-12 =
      let l = right (λ one. not-1 (sym e ∙ one)) in
      elim (ℕ_discrete (reading p).number 0) [
        | yes z ↦ absurd (⊎_elim (λ n. not-0 (sym e ∙ n)) (λ n. not-12 (sym e ∙ n)) (taken-status l z))
        | no some ↦ subst (Refuses p) (sym ((demand1 p s reply).from-reading l some).0 ∙ e) (read.number.applies some)
      ]

  -- 12 is given where start and count do not lie within their table.
  not-placed : (step p s reply).status ≡ 12 → WithinTable p s.block → ⊥
  not-placed e h =
      let l = right (λ one. omega arith) in
      elim (ℕ_discrete (reading p).number 0) [
        | yes z ↦
            let accepted = (accepted-exactly p bytes s reply).1 (record { lent = l; taken = (exactly p bytes).0 z; placed = h }) in omega arith
        | no some ↦
            let same = ((demand1 p s reply).from-reading l some).0 in
            omega (arith, (from-2-to-11 (read.number.applies some)).1)
      ]

  status-few : (step p s reply).status ≤ 12
  unfolding step number_of
  status-few = go (stopped s reply) refl
    where
      go : (b : Bool) → stopped s reply ≡ b → first (step_refusals p s reply) ≤ 12
      go true e = rw e (omega arith)
      go false e = rw e (placed-number p s.block).small

  given : Each (λ (k : ℕ). (step p s reply).status ≡ k → StepRefuses p s reply k) (step_refusals p s reply)
  unfolding judgement
  given = (
    λ e. lent-wrong ((demand1 p s reply).one.0 e),
    (read_at 2 (omega arith) (omega arith), (read_at 3 (omega arith) (omega arith), (read_at 4 (omega arith) (omega arith), (read_at 5 (omega arith) (omega arith), (read_at 6 (omega arith) (omega arith), (read_at 7 (omega arith) (omega arith), (read_at 8 (omega arith) (omega arith), (read_at 9 (omega arith) (omega arith), (read_at 10 (omega arith) (omega arith), (read_at 11 (omega arith) (omega arith), (λ e. past-table (not-placed e), tt))))))))))),
  )
    where
      read_at : (k : ℕ) → 1 < k → k < 12 → (step p s reply).status ≡ k → StepRefuses p s reply k
      read_at k a b e = packet (read-refuses k e (λ z. omega arith) (λ z. omega arith) (λ z. omega arith))

  passed : {k : ℕ} → ((step p s reply).status ≡ 0) ⊎ (k < (step p s reply).status) → StepRefuses p s reply k → ⊥
  passed b (lent-wrong h) = let one = (demand1 p s reply).one.1 h in ⊎_elim (λ z. omega arith) (λ z. omega arith) b
  passed b (packet r) =
      let few = (from-2-to-11 r).0 in
      let l = right (λ one. ⊎_elim (λ z. omega arith) (λ z. omega arith) b) in
      elim (ℕ_discrete (reading p).number 0) [
        | yes z ↦ read.number.passed (inl z) r
        | no some ↦
            let same = ((demand1 p s reply).from-reading l some).0 in
            read.number.passed (⊎_elim (λ z. inl (sym same ∙ z)) (λ h. inr (omega arith)) b) r
      ]
  passed b (past-table h) =
      ⊎_elim (λ z. h ((accepted-exactly p bytes s reply).0 z).placed) (λ z. omega (arith, status-few)) b

  -- ---- What is left.

  same-state : ((step p s reply).status ≡ 0 → is_read (header_of p) ≡ 1) → (step p s reply).state ≡ s
  unfolding step
  same-state h =
      elim (ℕ_discrete (number_of p s reply) 0) [
        | yes z ↦ rw (z, eq-eqb (is_read (header_of p)) 1 (h z))
        | no some ↦ rw (ne_eqb (number_of p s reply) 0 some)
      ]

  left_by : (step p s reply).status ≡ 0 → is_read (header_of p) ≡ 0 → LeftBy p s (step p s reply)
  left_by z w =
      let left = (demand2 p bytes s reply).leaves ((accepted-exactly p bytes s reply).0 z) w in
      record { after = left.after; by = left.by; all-but-mark = ap (λ (o : Out). o.state) left.answer }

  -- ---- The reply.

  reply-data : ReplyData p s (step p s reply).status (step p s reply).fault-place (reply_data (step p s reply).status (step p s reply).fault-place p s)
  reply-data =
      elim (ℕ_discrete status 0) [
        | yes z ↦
            elim (ℕ_discrete (is_read (header_of p)) 1) [
              | yes r ↦
                  let a = (accepted-exactly p bytes s reply).0 z in
                  let some = some-returned s a.lent.settings (read-data a.taken.allowed (omega arith)) in
                  as-data (rw (eq-eqb status 0 z, eq-eqb (is_read (header_of p)) 1 r) (returns some.by)) (ReplyData.returned z r some.by)
              | no w ↦
                  as-data (rw (ne_eqb (is_read (header_of p)) 1 w, and-false, z)) (ReplyData.none (λ e. omega arith) (λ e. omega arith))
            ]
        | no some ↦
            elim (ℕ_discrete status 10) [
              | yes t ↦ as-data (rw (ne_eqb status 0 some, eq-eqb status 10 t)) (ReplyData.place t)
              | no other ↦
                  as-data (rw (ne_eqb status 0 some, ne_eqb status 10 other)) (ReplyData.none (λ e. absurd (some e)) other)
            ]
      ]
    where
      status : ℕ
      status = (step p s reply).status

      fault : ℕ
      fault = (step p s reply).fault-place

      as-data : {d e : List ℕ} → d ≡ e → ReplyData p s status fault e → ReplyData p s status fault d
      as-data same h = subst (ReplyData p s status fault) (sym same) h

  reply-written : Asks p → ((step p s reply).status ≡ 1 → ⊥) → ReplyWritten p s reply (step p s reply)
  unfolding step reply_to over
  reply-written a other =
      let e = answered (number_of p s reply) p (a, other) in
      record {
        content = reply_data (step p s reply).status (step p s reply).fault-place p s;
        by = reply-data;
        size = rw e;
        bytes = rw e;
      }

  no-reply : (Asks p → (step p s reply).status ≡ 1) → ((step p s reply).size ≡ 0) × ((step p s reply).reply ≡ reply)
  unfolding step reply_to over
  no-reply h = go (answers (number_of p s reply) p) refl
    where
      go : (b : Bool) → answers (number_of p s reply) p ≡ b → ((step p s reply).size ≡ 0) × ((step p s reply).reply ≡ reply)
      go true e = let a = asks-it (number_of p s reply) p e in absurd (a.1 (h a.0))
      go false e = rw e (refl, refl)

pub step-plain : (p : List ℕ) → ((k : ℕ) → get_or p k 0 < 256) → (s : State) (reply : List ℕ)
    → Located (opcode_of p) (options_of p) (data_of p) (step p s reply).status (step p s reply).fault-place → StepPlain p s reply (step p s reply)
step-plain p bytes s reply l =
    record {
      number =
          record {
            applies = first-applies (StepRefuses p s reply) (step_refusals p s reply) (demand1 p s reply).number (given p bytes s reply);
            passed = λ b r. passed p bytes s reply b r;
          };
      fault-place = l.first;
      no-fault = l.none;
      unchanged = same-state p bytes s reply;
      written = left_by p bytes s reply;
      rows = rows-marked p s reply;
      replied = reply-written p bytes s reply;
      silent = no-reply p bytes s reply;
    }

-- Lengths stay, whatever the packet.
pub lengths-kept : (p : List ℕ) → ((k : ℕ) → get_or p k 0 < 256) → (s : State) (reply : List ℕ) → StateLent s → StateLent (step p s reply).state
lengths-kept p bytes s reply l =
    elim (ℕ_discrete (step p s reply).status 0) [
      | yes z ↦ (stays_lent p bytes s reply ((accepted-exactly p bytes s reply).0 z).lent).tables
      | no some ↦ subst StateLent (sym ((demand1 p s reply).unchanged some)) l
    ]
