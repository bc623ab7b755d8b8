-- Every reply that the front end writes reads back as it was meant: its status is at most 12, and its data at most 508 bytes, so that all of
-- it fits 512 with head and checksum.
use Prim.Native.Nat.{ℕ, ◌+◌, ◌*◌, ◌≤◌, ◌<◌}
use mathlib.Core.Path.{◌≡◌, refl, sym, ap, ◌∙◌}
use mathlib.Core.Logic.{◌⊎◌, inl, inr, ⊎_elim, ⊎_map}
use mathlib.Core.Bool.{Bool, true, false, ◌||◌, and-false, or-true, true≢false}
use mathlib.Core.List.{List, []}
use native.Mathlib.Decide.{ℕ_discrete}
use native.Mathlib.Omega.{arith}
use borrow.Author.Tests.{eq-eqb, ne_eqb, eqb-true, eqb-false, lt-ltb}
use lib.ListN.{length, take, drop, length-take}
use lib.Dec.{eqb}
use Rattle.wire.specs.First.{first}
use Rattle.wire.specs.Numbers.{byte_at, word_at, word_bytes}
use Rattle.wire.specs.Buffers.{over}
use Rattle.wire.proofs.Laws.{take-over}
use Rattle.wire.proofs.Tables.{length-halves}
use Rattle.wire.proofs.Tests.{told}
use Rattle.opcode.specs.Options.{options_in, has_checksum, asks_reply, is_read}
use Rattle.opcode.specs.Commands.{command_of}
use Rattle.opcode.specs.Judgement.{judgement}
use Rattle.packet.specs.Frame.{header_of, opcode_of, data_of}
use Rattle.packet.specs.Reading.{fault_of}
use Rattle.reply.specs.Reply.{reply_bytes}
use Rattle.reply.specs.Reading.{checksum_size}
use Rattle.reply.proofs.Laws.{length-reply}
use Rattle.reply.proofs.ReadsBack.{reads-back}
use Rattle.settings.specs.Layout.{returned, staged_shape, smooth_table, mode_at, place_of, lists_size, shape_head, column_list}
use Rattle.settings.specs.Ranges.{settings_right}
use Rattle.front_end.specs.State.{State, stopped, data_room, reply_room}
use Rattle.front_end.specs.Commands.{read_gains, read_points, read_shape, read_smooth, block_back, data_back, runs_past}
use Rattle.front_end.specs.Step.{reads, number_of, answers, reply_data, reply_to, step}
use Rattle.front_end.specs.Plain.{Asks}
use Rattle.front_end.specs.Demands.{Replied}
use Rattle.front_end.proofs.Replies.{place-few}
use Rattle.front_end.proofs.Bounds.{counts, gains-read, points-read, placed-number, placed-fault}
use Rattle.front_end.proofs.Reach.{Kind, kind_of, other-back}
use Rattle.front_end.proofs.Sizes.{back-small}
use Rattle.front_end.proofs.Changes.{passed}

-- ---- The data of an accepted read.

part_small : (n : ℕ) (l : List ℕ) (most : ℕ) → n ≤ most → length (take n l) ≤ most
part_small n l most h = rw length-take (omega arith)

gains-small : (d gains : List ℕ) → word_at d 3 ≤ 254 → length (read_gains d gains) ≤ data_room
unfolding read_gains
gains-small d gains h = rw (length-halves, length-take) (omega arith)

points-small : (d staged : List ℕ) → word_at d 2 ≤ 127 → length (read_points d staged) ≤ data_room
unfolding read_points
points-small d staged h = rw (length-halves, length-take) (omega arith)

shape-small : (block : List ℕ) → length (read_shape block) ≤ data_room
unfolding read_shape
shape-small block =
    elim (ℕ_discrete (mode_at block staged_shape) 1) [
      | yes e ↦ rw (eq-eqb (mode_at block staged_shape) 1 e) (omega (arith, part_small lists_size (drop (column_list staged_shape) block) lists_size (omega arith)))
      | no e ↦ rw (ne_eqb (mode_at block staged_shape) 1 e) (part_small shape_head (drop staged_shape block) data_room (omega arith))
    ]

smooth-small : (block : List ℕ) → settings_right block ≡ true → length (read_smooth block) ≤ data_room
unfolding read_smooth
smooth-small block right =
    part_small (2 + 4 * (byte_at block smooth_table * byte_at block (smooth_table + 1))) (drop smooth_table block) data_room
    (omega (arith, (counts block right).smooth-points))

pub back_fits : (op o : ℕ) (d : List ℕ) (s : State) → is_read o ≡ 1 → first (judgement op o d) ≡ 0 → runs_past op (eqb (is_read o) 1) d s.block ≡ false
    → settings_right s.block ≡ true → length (data_back op d s) ≤ data_room
unfolding data_back block_back
back_fits op o d s h e past right = go (kind_of op)
  where
    stored-small : length (returned op d s.block) ≤ data_room
    stored-small = part_small (command_of op).back (drop (place_of op d) s.block) data_room (omega (arith, back-small op))

    go : Kind op → length (data_back op d s) ≤ data_room
    go (Kind.gains k) = rw k (gains-small d s.gains (gains-read o d s.block h (rw k at e) (rw k at past)).few)
    go (Kind.points k) = rw k (points-small d s.staged (points-read o d s.block h (rw k at e) (rw k at past) right).few)
    go (Kind.shape k) = rw k (shape-small s.block)
    go (Kind.apply k) = rw k (rw k at stored-small)
    go (Kind.smooth k) = rw k (smooth-small s.block right)
    go (Kind.other k) = rw (other-back op d s k) stored-small

-- ---- The reply.

fits : {n : ℕ} (sum : Bool) → n ≤ data_room → n + 3 + checksum_size sum ≤ reply_room
fits true h = omega arith
fits false h = omega arith

module _ (p : List ℕ) (s : State) (reply : List ℕ) where
  number_small : number_of p s reply ≤ 12
  unfolding number_of
  number_small = go (stopped s reply) refl
    where
      go : (b : Bool) → stopped s reply ≡ b → number_of p s reply ≤ 12
      go true e = rw e (omega arith)
      go false e = rw e (placed-number p s.block).small

  data-small : length (reply_data (number_of p s reply) (fault_of (number_of p s reply) p) p s) ≤ data_room
  data-small =
      elim (ℕ_discrete (number_of p s reply) 0) [
        | no e ↦ rw (ne_eqb (number_of p s reply) 0 e) (omega (arith, place-few (number_of p s reply) (fault_of (number_of p s reply) p)))
        | yes e ↦
            elim (ℕ_discrete (is_read (header_of p)) 1) [
              | no r ↦ rw (e, ne_eqb (is_read (header_of p)) 1 r) (omega arith)
              | yes r ↦
                  let a = passed p s reply e in
                  rw (e, eq-eqb (is_read (header_of p)) 1 r)
                  (back_fits (opcode_of p) (options_in (header_of p)) (data_of p) s (omega arith) a.command.judged a.command.within a.lent.settings)
            ]
      ]

-- A reply is asked for exactly if the test says so.
either : (a b : Bool) → (a || b) ≡ true → (a ≡ true) ⊎ (b ≡ true)
either true b e = inl refl
either false b e = inr e

pub asks-it : (n : ℕ) (p : List ℕ) → answers n p ≡ true → Asks p × (n ≡ 1 → ⊥)
asks-it n p e =
    let some : 0 < length p = search (told, e) in
    let bits : (reads p || eqb (asks_reply (header_of p)) 1) ≡ true = search (told, e) in
    let other : eqb n 1 ≡ false = search (told, e) in (
      record {
        some = omega arith;
        bit = ⊎_map (eqb-true (is_read (header_of p)) 1) (eqb-true (asks_reply (header_of p)) 1) (either (reads p) _ bits);
      },
      eqb-false n 1 other,
    )

pub answered : (n : ℕ) (p : List ℕ) → Asks p × (n ≡ 1 → ⊥) → answers n p ≡ true
answered n p a =
    let bits : (reads p || eqb (asks_reply (header_of p)) 1) ≡ true =
    ⊎_elim (λ r. rw (eq-eqb (is_read (header_of p)) 1 r)) (λ r. rw (eq-eqb (asks_reply (header_of p)) 1 r, or-true)) a.0.bit in
    rw (lt-ltb 0 (length p) (omega (arith, a.0.some)), bits, ne_eqb n 1 a.1)

-- A reply's size, by the header's bit for a checksum.
reply-size : (h n : ℕ) (d : List ℕ) → length (reply_bytes (eqb (has_checksum h) 1) n d) ≡ length d + 3 + has_checksum h
reply-size h n d =
    length-reply (eqb (has_checksum h) 1) n d
    ∙ elim (ℕ_discrete (has_checksum h) 1) [ yes e ↦ rw (eq-eqb (has_checksum h) 1 e, e) | no e ↦ rw (ne_eqb (has_checksum h) 1 e) (omega arith) ]

-- The place that a reply names, where it stands.
place-there : (sum : Bool) (n f : ℕ) (buffer : List ℕ) → word_at (over (reply_bytes sum n (word_bytes f)) buffer) 3 ≡ f
unfolding over reply_bytes
place-there sum n f buffer = omega arith

pub replied : (p : List ℕ) (s : State) (reply : List ℕ) → Replied p s (step p s reply)
unfolding step reply_to
replied p s reply = go (answers n p) refl
  where
    n : ℕ
    n = number_of p s reply

    f : ℕ
    f = fault_of n p

    sum : Bool
    sum = eqb (has_checksum (header_of p)) 1

    -- No data but an accepted read's and the place of 10.
    no-data : (n ≡ 0 → is_read (header_of p) ≡ 0) → (n ≡ 10 → ⊥) → reply_data n f p s ≡ []
    no-data write other =
        elim (ℕ_discrete n 0)
        [ yes z ↦ rw (ne_eqb n 10 other, write z, and-false) | no z ↦ rw (ne_eqb n 0 z, ne_eqb n 10 other) ]

    go : (b : Bool) → answers n p ≡ b → Replied p s (step p s reply)
    go false e =
        let none : reply_to n p s ≡ [] = rw e in
        record {
          asked = (λ h. absurd (omega (arith, ap length none)), λ a. absurd (true≢false (sym (answered n p a) ∙ e)));
          bare = λ wrong other h. absurd (omega (arith, ap length none));
          names = λ ten h. absurd (omega (arith, ap length none));
          means = λ h. absurd (omega (arith, ap length none));
          content = λ h. absurd (omega (arith, ap length none));
        }
    go true e =
        let bytes : reply_to n p s ≡ reply_bytes sum n (reply_data n f p s) = rw e in
        let back =
        reads-back sum n (reply_data n f p s) (number_small p s reply) (rw length-reply (fits sum (data-small p s reply))) in
        record {
          asked = (λ h. asks-it n p e, λ a. omega (arith, ap length bytes, length-reply sum n (reply_data n f p s)));
          bare = λ write other h.
              ap length (bytes ∙ ap (reply_bytes sum n) (no-data write other)) ∙ reply-size (header_of p) n [];
          names = λ ten h.
              let named : reply_data n f p s ≡ word_bytes f = rw ten in
              let whole = bytes ∙ ap (reply_bytes sum n) named in
              (ap length whole ∙ reply-size (header_of p) n (word_bytes f), rw whole (place-there sum n f reply));
          means = λ h. rw (take-over (reply_to n p s) reply, bytes) back.reading;
          content = λ h. rw (take-over (reply_to n p s) reply, bytes) back.content;
        }

-- No reply is longer than 512 bytes.
pub size_small : (p : List ℕ) (s : State) (reply : List ℕ) → (step p s reply).size ≤ reply_room
unfolding step reply_to
size_small p s reply = go (answers (number_of p s reply) p) refl
  where
    go : (b : Bool) → answers (number_of p s reply) p ≡ b → (step p s reply).size ≤ reply_room
    go false e = rw e (omega arith)
    go true e = rw (e, length-reply) (fits (eqb (has_checksum (header_of p)) 1) (data-small p s reply))

-- A place lies within a packet.
pub fault-small : (p : List ℕ) (s : State) (reply : List ℕ) → (step p s reply).fault-place < 512
unfolding step number_of
fault-small p s reply = go (stopped s reply) refl
  where
    go : (b : Bool) → stopped s reply ≡ b → (step p s reply).fault-place < 512
    go true e = rw e (omega arith)
    go false e = rw e (placed-fault p s.block)
