-- Demands 1 and 2 of one packet on a state. The number is the first of the list; it is 0 exactly if each test is false, and each test is false
-- exactly if what it tests is right. Then reset.
use Prim.Native.Nat.{ℕ, ◌^◌, ◌≤◌, ◌<◌}
use mathlib.Core.Path.{◌≡◌, refl, sym, ap, ◌∙◌}
use mathlib.Core.Logic.{◌↔◌}
use mathlib.Core.Bool.{Bool, true, false, true≢false}
use mathlib.Core.List.{List, [], ◌∷◌, ◌++◌}
use native.Mathlib.Nat.{zero-div}
use native.Mathlib.Omega.{arith}
use native.Mathlib.Decide.{ℕ_discrete}
use borrow.Author.Tests.{eq-eqb, ne_eqb, le-leb, ltb-false, le-ltb}
use lib.ListN.{length, get_or, take, drop, length-replicate}
use lib.Seq.{drop_at}
use lib.Dec.{eqb}
use Rattle.wire.specs.Numbers.{byte_at}
use Rattle.wire.specs.Tables.{words}
use Rattle.gain_words.proofs.Expand.{length-expand}
use Rattle.wire.specs.First.{first}
use Rattle.wire.specs.Buffers.{over}
use Rattle.opcode.specs.Options.{has_checksum, is_read}
use Rattle.opcode.specs.Judgement.{judgement}
use Rattle.wire.proofs.Tests.{told, Silent, Numbered, silent-first, first-silent, first-left, first-right}
use Rattle.reply.specs.Reply.{reply_bytes}
use Rattle.packet.specs.Frame.{header_of, opcode_of, data_of}
use Rattle.packet.specs.Reading.{refusals, fault_of, reading}
use Rattle.packet.proofs.Frames.{reading-number, reading-fault}
use Rattle.packet.proofs.Exactly.{exactly}
use Rattle.settings.specs.Ranges.{settings_right}
use Rattle.settings.proofs.Allowed.{settings-exactly, reset-allowed}
use Rattle.settings.proofs.AfterReset.{reset-bytes, reset-points, reset-gains}
use Rattle.settings.specs.Reset.{reset_shape, reset_block, reset_map, reset_gains}
use Rattle.settings.specs.AfterReset.{byte_after_reset}
use Rattle.front_end.specs.State.{State, lengths_right, stopped, ResetOut, reset, reset_state, reply_room}
use Rattle.front_end.specs.Rows.{mark_of, MarkRight}
use Rattle.front_end.specs.Commands.{runs_past}
use Rattle.front_end.specs.Step.{reads, read_and_placed, decision, step_refusals, number_of, status_reply, read_reply, reply_to, Out, out, step}
use Rattle.front_end.specs.Plain.{StateLent, LentRight, WithinTable}
use Rattle.front_end.specs.Effects.{block_with, Leaves, Returns}
use Rattle.front_end.specs.Mark.{written_marked}
use Rattle.front_end.specs.Demands.{Accepted, Resets}
use Rattle.front_end.proofs.Bounds.{placed-number}
use Rattle.front_end.proofs.Steps.{decision-number, step-stopped, step-refused}

-- ---- Demand 1 by the definitions: which number is given, and that a refusal changes nothing (rules 3.2 and 4.1 to 4.3).

pub record Demand1 (p : List ℕ) (s : State) (reply : List ℕ) (o : Out) : Type 0 where
  -- Rule 4.1: the number is the first that applies: 1 exactly if what is lent is not right; else what reading gives; else 12, where
  -- start and count do not lie within their table.
  pub number : o.status ≡ first (step_refusals p s reply)
  pub one : (o.status ≡ 1) ↔ (LentRight s reply → ⊥)
  pub from-reading : LentRight s reply → ((reading p).number ≡ 0 → ⊥) → (o.status ≡ (reading p).number) × (o.fault-place ≡ (reading p).fault-place)
  pub twelve : LentRight s reply → (reading p).number ≡ 0 → (WithinTable p s.block → ⊥) → o.status ≡ 12
  -- Rule 4.2: a refused packet changes no setting and no table point.
  pub unchanged : (o.status ≡ 0 → ⊥) → o.state ≡ s
  -- Rules 3.2 and 3.3: refusal 1 writes no reply; another writes one of its number and place, if the packet asks for it.
  pub stopped : (LentRight s reply → ⊥) → o ≡ out 1 0 0 s reply
  pub refused : LentRight s reply → (o.status ≡ 0 → ⊥)
      → o
      ≡ out o.status o.fault-place (length (status_reply o.status o.fault-place p)) s (over (status_reply o.status o.fault-place p) reply)
  -- Rule 4.2: the reply buffer changes only where the reply is written.
  pub behind : drop o.size o.reply ≡ drop o.size reply

-- ---- Demand 2 by the definitions: what an accepted packet does (rules 5.1 to 5.9, 5.11 and 11.2).

-- What an accepted write leaves, but for the row mark, and what an accepted read returns, by the rows of Effects.
pub record Left (p : List ℕ) (s : State) (reply : List ℕ) (o : Out) : Type 0 where
  pub after : State
  pub by : Leaves s (opcode_of p) (data_of p) after
  pub answer : o
      ≡ out 0 0 (length (status_reply 0 0 p)) (block_with after 865 (take 4 (drop 865 o.state.block))) (over (status_reply 0 0 p) reply)

pub record Returned (p : List ℕ) (s : State) (reply : List ℕ) (o : Out) : Type 0 where
  pub back : List ℕ
  pub by : Returns s (opcode_of p) (data_of p) back
  pub answer : o
      ≡ out 0 0 (length (reply_bytes (eqb (has_checksum (header_of p)) 1) 0 back)) s (over (reply_bytes (eqb (has_checksum (header_of p)) 1) 0 back) reply)

-- Accepted exactly then; a write leaves the command's state, a read the state as it was and the command's data in the reply (3.3).
pub record Demand2 (p : List ℕ) (s : State) (reply : List ℕ) (o : Out) : Type 0 where
  pub exactly : (o.status ≡ 0) ↔ Accepted p s reply
  pub writes : Accepted p s reply → is_read (header_of p) ≡ 0
      → o ≡ out 0 0 (length (status_reply 0 0 p)) (written_marked (opcode_of p) (data_of p) s) (over (status_reply 0 0 p) reply)
  pub reads : Accepted p s reply → is_read (header_of p) ≡ 1
      → o
      ≡ out 0 0 (length (read_reply (opcode_of p) (header_of p) (data_of p) s)) s (over (read_reply (opcode_of p) (header_of p) (data_of p) s) reply)
  pub leaves : Accepted p s reply → is_read (header_of p) ≡ 0 → Left p s reply o
  pub returns : Accepted p s reply → is_read (header_of p) ≡ 1 → Returned p s reply o

-- ---- The proofs.

-- Tests of lists that stand one behind the other.
silent-left : (a b : List (ℕ × Bool)) → Silent (a ++ b) → Silent a
silent-left [] b s = tt
silent-left (t ∷ a) b s = (s.0, silent-left a b s.1)

silent-right : (a b : List (ℕ × Bool)) → Silent (a ++ b) → Silent b
silent-right [] b s = s
silent-right (t ∷ a) b s = silent-right a b s.1

silent-both : (a b : List (ℕ × Bool)) → Silent a → Silent b → Silent (a ++ b)
silent-both [] b s t = t
silent-both (x ∷ a) b s t = (s.0, silent-both a b s.1 t)

numbered : (p : List ℕ) (s : State) (reply : List ℕ) → Numbered (step_refusals p s reply)
unfolding judgement
numbered p s reply = omega arith

pub refusals-numbered : (p : List ℕ) → Numbered (refusals p)
unfolding judgement
refusals-numbered p = omega arith

-- Refusal 1: none of its tests fails.
pub state-lent : (s : State) → (lengths_right s ≡ true) ↔ StateLent s
state-lent s = (
  λ e. record { block = search (told, e); staged = search (told, e); live = search (told, e); gains = search (told, e) },
  λ l. rw (eq-eqb _ _ l.block, eq-eqb _ _ l.staged, eq-eqb _ _ l.live, eq-eqb _ _ l.gains),
)

pub record Running (s : State) (reply : List ℕ) : Type 0 where
  pub tables : StateLent s
  pub room : reply_room ≤ length reply
  pub settings : settings_right s.block ≡ true

pub lent : (s : State) (reply : List ℕ) → stopped s reply ≡ false → Running s reply
unfolding stopped
lent s reply e =
    let lengths : lengths_right s ≡ true = search (told, e) in
    record { tables = (state-lent s).0 lengths; room = search (told, e); settings = search (told, e) }

pub runs : (s : State) (reply : List ℕ) → Running s reply → stopped s reply ≡ false
unfolding stopped
runs s reply l = rw ((state-lent s).1 l.tables, le-leb _ _ l.room, l.settings)

-- Its test of the settings, as what is allowed.
pub running-right : {s : State} {reply : List ℕ} → Running s reply → LentRight s reply
running-right {s} l =
    record {
      tables = l.tables;
      room = l.room;
      settings = (settings-exactly s.block l.tables.block).0 l.settings;
    }

pub right-running : {s : State} {reply : List ℕ} → LentRight s reply → Running s reply
right-running {s} l =
    record {
      tables = l.tables;
      room = l.room;
      settings = (settings-exactly s.block l.tables.block).1 l.settings;
    }

-- Refusal 12.
placed : (p block : List ℕ) → runs_past (opcode_of p) (reads p) (data_of p) block ≡ false → WithinTable p block
unfolding runs_past
placed p block e =
    record {
      points-written = λ o r. ltb-false _ _ (rw (eq-eqb (opcode_of p) 0x34 o, write r) at e);
      points-read = λ o r. ltb-false _ _ (rw (eq-eqb (opcode_of p) 0x34 o, eq-eqb (is_read (header_of p)) 1 r) at e);
      gains-written = λ o r f.
          ltb-false _ _ (rw (gains-34 o, eq-eqb (opcode_of p) 0x2B o, write r, ne_eqb (byte_at (data_of p) 0) 1 f) at e);
      runs-written = λ o r f.
          rw (length-expand (words (drop 6 (data_of p))))
          (ltb-false _ _ (rw (gains-34 o, eq-eqb (opcode_of p) 0x2B o, write r, eq-eqb (byte_at (data_of p) 0) 1 f) at e));
      gains-read = λ o r. ltb-false _ _ (rw (gains-34 o, eq-eqb (opcode_of p) 0x2B o, eq-eqb (is_read (header_of p)) 1 r) at e);
    }
  where
    write : is_read (header_of p) ≡ 0 → reads p ≡ false
    write r = ne_eqb (is_read (header_of p)) 1 (omega arith)

    gains-34 : opcode_of p ≡ 0x2B → eqb (opcode_of p) 0x34 ≡ false
    gains-34 o = ne_eqb (opcode_of p) 0x34 (omega arith)

fits : (p block : List ℕ) → WithinTable p block → runs_past (opcode_of p) (reads p) (data_of p) block ≡ false
unfolding runs_past
fits p block h =
    elim (ℕ_discrete (opcode_of p) 0x34) [
      | yes o ↦
          rw (eq-eqb (opcode_of p) 0x34 o)
          (elim (ℕ_discrete (is_read (header_of p)) 1) [
            | yes r ↦ rw (eq-eqb (is_read (header_of p)) 1 r) (le-ltb _ _ (h.points-read o r))
            | no r ↦ rw (ne_eqb (is_read (header_of p)) 1 r) (le-ltb _ _ (h.points-written o (omega arith)))
          ])
      | no o ↦
          rw (ne_eqb (opcode_of p) 0x34 o)
          (elim (ℕ_discrete (opcode_of p) 0x2B) [
            | yes g ↦
                rw (eq-eqb (opcode_of p) 0x2B g)
                (elim (ℕ_discrete (is_read (header_of p)) 1) [
                  | yes r ↦ rw (eq-eqb (is_read (header_of p)) 1 r) (le-ltb _ _ (h.gains-read g r))
                  | no r ↦
                      rw (ne_eqb (is_read (header_of p)) 1 r)
                      (elim (ℕ_discrete (byte_at (data_of p) 0) 1) [
                        | yes f ↦ rw (eq-eqb (byte_at (data_of p) 0) 1 f) (le-ltb _ _ (rw (length-expand (words (drop 6 (data_of p)))) at (h.runs-written g (omega arith) f)))
                        | no f ↦ rw (ne_eqb (byte_at (data_of p) 0) 1 f) (le-ltb _ _ (h.gains-written g (omega arith) f))
                      ])
                ])
            | no g ↦ rw (ne_eqb (opcode_of p) 0x2B g)
          ])
    ]

-- What follows reading.
abbrev tests : List ℕ → State → List (ℕ × Bool)
tests p s = (12, runs_past (opcode_of p) (reads p) (data_of p) s.block) ∷ []

-- A packet is accepted exactly if what is lent is right, its frame is sound, its data is allowed and its start and count fit.
pub accepted-exactly : (p : List ℕ) → ((k : ℕ) → get_or p k 0 < 256) → (s : State) (reply : List ℕ) → ((step p s reply).status ≡ 0) ↔ Accepted p s reply
unfolding step number_of
accepted-exactly p bytes s reply = (to, from)
  where
    to : first (step_refusals p s reply) ≡ 0 → Accepted p s reply
    to e =
        let q = first-silent (step_refusals p s reply) (numbered p s reply) e in
        record {
          lent = running-right (lent s reply q.0);
          taken = (exactly p bytes).0 (reading-number p ∙ silent-first (refusals p) (silent-left (refusals p) (tests p s) q.1));
          placed = placed p s.block (silent-right (refusals p) (tests p s) q.1).0;
        }

    from : Accepted p s reply → first (step_refusals p s reply) ≡ 0
    from a =
        silent-first (step_refusals p s reply) (
          runs s reply (right-running a.lent),
          silent-both (refusals p) (tests p s)
              (first-silent (refusals p) (refusals-numbered p) (sym (reading-number p) ∙ (exactly p bytes).1 a.taken))
              (fits p s.block a.placed, tt),
        )

pub demand1 : (p : List ℕ) (s : State) (reply : List ℕ) → Demand1 p s reply (step p s reply)
unfolding step number_of over
demand1 p s reply =
    record {
      number = refl;
      one = (λ e l. (placed-number p s.block).not-1 (sym (running l) ∙ e), λ wrong. ap (λ (o : Out). o.status) (halted wrong));
      from-reading = λ l some.
          let same = running l ∙ first-left (refusals p) (tests p s) (λ e. some (reading-number p ∙ e)) in
          (same ∙ sym (reading-number p), ap (λ (n : ℕ). fault_of n p) same ∙ sym (reading-fault p));
      twelve = λ l none past.
          running l
          ∙ first-right (refusals p) (tests p s) (first-silent (refusals p) (refusals-numbered p) (sym (reading-number p) ∙ none))
          ∙ runs_on past (runs_past (opcode_of p) (reads p) (data_of p) s.block) refl;
      unchanged = λ h. rw (ne_eqb (number_of p s reply) 0 h);
      stopped = halted;
      refused = λ l h.
          step-refused p s reply (runs s reply (right-running l)) (number_of p s reply) h
          (decision-number p s.block ∙ sym (running l));
      behind = drop_at (reply_to (number_of p s reply) p s) _ _ refl;
    }
  where
    running : LentRight s reply → first (step_refusals p s reply) ≡ first (read_and_placed p s.block)
    running l = rw (runs s reply (right-running l))

    halted : (LentRight s reply → ⊥) → step p s reply ≡ out 1 0 0 s reply
    halted wrong = go (stopped s reply) refl
      where
        go : (b : Bool) → stopped s reply ≡ b → step p s reply ≡ out 1 0 0 s reply
        go true e = step-stopped p s reply e
        go false e = absurd (wrong (running-right (lent s reply e)))

    runs_on : (WithinTable p s.block → ⊥) → (b : Bool) → runs_past (opcode_of p) (reads p) (data_of p) s.block ≡ b → first (tests p s) ≡ 12
    runs_on past true e = rw e
    runs_on past false e = absurd (past (placed p s.block e))

-- An accepted packet's decision is 0.
pub decided : (p : List ℕ) (s : State) (reply : List ℕ) → (step p s reply).status ≡ 0
    → (stopped s reply ≡ false) × ((decision p s.block).number ≡ 0)
unfolding step number_of
decided p s reply e =
    let q = first-silent (step_refusals p s reply) (numbered p s reply) e in
    (q.0, decision-number p s.block ∙ silent-first (read_and_placed p s.block) q.1)

-- ---- Reset.

-- No row is marked, and none has moved: the maps are the same.
no-mark : mark_of reset_block ≡ 0
unfolding byte_after_reset
no-mark =
    rw (
      reset-bytes 865 (omega arith),
      reset-bytes 866 (omega arith),
      reset-bytes 867 (omega arith),
      reset-bytes 868 (omega arith),
    )

pub mark-reset : MarkRight reset_state
mark-reset =
    record {
      each = λ r l. (λ e. absurd (omega (arith, rw no-mark at e, zero-div (2 ^ r))), λ m. absurd (m.differs.other refl refl));
    }

reset-long : StateLent reset_state
unfolding reset_block reset_shape reset_map reset_gains
reset-long =
    record {
      block = refl;
      staged = length-replicate {A = ℕ} 3968 0;
      live = length-replicate {A = ℕ} 3968 0;
      gains = length-replicate {A = ℕ} 6048 4096;
    }

pub resets : (s : State) {o : ResetOut} → o ≡ reset s → Resets s o
unfolding reset
resets s {o} same = go (lengths_right s) refl
  where
    go : (b : Bool) → lengths_right s ≡ b → Resets s o
    go true e =
        rw (same, e)
        (record {
          outcome = rw e;
          plain =
              record {
                wrong-length = λ wrong. absurd (wrong ((state-lent s).0 e));
                accepted = λ l. refl;
                long = λ l. reset-long;
                block-after = λ l. reset-bytes;
                staged-after = λ l k h. reset-points k;
                live-after = λ l k h. reset-points k;
                gains-after = λ l. reset-gains;
              };
          exactly = (λ z. (state-lent s).0 e, λ l. refl);
          in-range = λ z. reset-allowed;
          mark-after = λ z. (no-mark, mark-reset);
        })
    go false e =
        let none : StateLent s → ⊥ = λ l. true≢false (sym ((state-lent s).1 l) ∙ e) in
        rw (same, e)
        (record {
          outcome = rw e;
          plain =
              record {
                wrong-length = λ wrong. (refl, refl);
                accepted = λ l. absurd (none l);
                long = λ l. absurd (none l);
                block-after = λ l. absurd (none l);
                staged-after = λ l. absurd (none l);
                live-after = λ l. absurd (none l);
                gains-after = λ l. absurd (none l);
              };
          exactly = (λ z. absurd (omega arith), λ l. absurd (none l));
          in-range = λ z. absurd (omega arith);
          mark-after = λ z. absurd (omega arith);
        })
