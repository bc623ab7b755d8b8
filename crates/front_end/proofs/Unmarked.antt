-- Nothing but the mark depends on the mark: on two states that differ in its bytes alone a packet gives the same answer and the same reply, and leaves two such
-- states.
use Prim.Native.Nat.{ℕ, ◌+◌, ◌*◌, ◌-◌, ◌≤◌, ◌<◌}
use mathlib.Core.Path.{◌≡◌, refl, sym, ap, subst, ◌∙◌}
use mathlib.Core.Bool.{and-false}
use mathlib.Core.List.{List, [], ◌∷◌}
use native.Mathlib.Decide.{ℕ_discrete, dec_lt}
use native.Mathlib.Omega.{arith}
use borrow.Author.Tests.{eq-eqb, ne_eqb}
use lib.ListN.{length, take, drop, get_or, length-drop}
use lib.Seq.{paste, get_or-take}
use Rattle.wire.specs.Buffers.{over}
use Rattle.wire.specs.Numbers.{byte_at}
use Rattle.wire.proofs.Copies.{Same, part, same-part, paste-there, paste-apart, before-paste}
use Rattle.opcode.specs.Options.{options_in, is_read}
use Rattle.opcode.specs.Commands.{command_of}
use Rattle.packet.specs.Frame.{header_of, opcode_of, data_of}
use Rattle.packet.specs.Reading.{fault_of}
use Rattle.packet.proofs.Exactly.{bytes-of-data}
use Rattle.settings.specs.Layout.{block_size, staged_shape, shape_size, enable, live_shape, smooth_table, settings_end}
use Rattle.settings.specs.Layout.{place_of, returned}
use Rattle.settings.proofs.Same.{settings-same}
use Rattle.front_end.specs.State.{State, stopped}
use Rattle.front_end.specs.Commands.{read_shape, read_smooth, block_back, data_back, block_after, written, runs_past}
use Rattle.front_end.specs.Mark.{written_marked}
use Rattle.front_end.specs.Step.{reads, number_of, reply_data, reply_to, state_after, step}
use Rattle.front_end.specs.Rows.{SameButMark, SameAnswer}
use Rattle.front_end.proofs.Bounds.{counts}
use Rattle.front_end.proofs.Reach.{Kind, kind_of, other-back}
use Rattle.front_end.proofs.Sizes.{place-within}
use Rattle.front_end.proofs.Changes.{Passed, passed, Change, changed, changed-long, enabled, enabled-long}
use Rattle.front_end.proofs.Kept.{tail-changed, tail_from}
use Rattle.front_end.proofs.Marks.{mark-alone}

-- Blocks with the same settings, of any length.
same-settings : (a b : List ℕ) → take settings_end a ≡ take settings_end b → Same a 0 b 0 settings_end
same-settings a b e =
    record {
      each =
          λ k h.
          let z : 0 + k ≡ k = omega arith in
          rw z (sym (get_or-take settings_end a k 0 h) ∙ ap (λ (l : List ℕ). get_or l k 0) e ∙ get_or-take settings_end b k 0 h);
    }

settings-taken : (a b : List ℕ) → Same a 0 b 0 settings_end → settings_end ≤ length a → settings_end ≤ length b → take settings_end a ≡ take settings_end b
settings-taken a b h la lb = same-part h la lb

-- A copy into both.
paste-same : (a b from : List ℕ) (to n : ℕ) → Same a 0 b 0 settings_end → to + n ≤ length a → to + n ≤ length b → n ≤ length from
    → Same (paste a to from n) 0 (paste b to from n) 0 settings_end
paste-same a b from to n h la lb lf = record { each = λ k l. let z : 0 + k ≡ k = omega arith in rw z (at k l) }
  where
    at : (k : ℕ) → k < settings_end → get_or (paste a to from n) k 0 ≡ get_or (paste b to from n) k 0
    at k l =
        let z : 0 + k ≡ k = omega arith in
        let same : get_or a k 0 ≡ get_or b k 0 = rw z at (h.each k l) in
        elim (dec_lt k to) [
          | yes e ↦ before-paste a from to n la lf k e ∙ same ∙ sym (before-paste b from to n lb lf k e)
          | no e ↦
              elim (dec_lt k (to + n)) [
                | yes f ↦
                    let here : to + (k - to) ≡ k = omega arith in
                    rw here at ((paste-there a from to n la lf).each (k - to) (omega arith) ∙ sym ((paste-there b from to n lb lf).each (k - to) (omega arith)))
                | no f ↦
                    let here : k + 0 ≡ k = omega arith in
                    (rw here at ((paste-apart a from to n la lf k 1 (omega arith)).each 0 (omega arith))) ∙ same
                    ∙ sym (rw here at ((paste-apart b from to n lb lf k 1 (omega arith)).each 0 (omega arith)))
              ]
        ]

-- What a command leaves in both.
after_same : {op : ℕ} {d : List ℕ} → Change op d → (a b : List ℕ) → length a ≡ block_size → length b ≡ block_size → Same a 0 b 0 settings_end
    → Same (block_after op d a) 0 (block_after op d b) 0 settings_end
after_same {op} {d} c a b la lb h = record { each = λ k l. at c k l }
  where
    at : Change op d → (k : ℕ) → k < settings_end → get_or (block_after op d a) (0 + k) 0 ≡ get_or (block_after op d b) (0 + k) 0
    at (Change.none e) k l = rw (e a, e b) (h.each k l)
    at (Change.copied from to n c e) k l = rw (e a, e b) ((paste-same a b from to n h (omega arith) (omega arith) c.long).each k l)
    at (Change.applied o v e) k l =
        let la' = enabled-long a la in
        let lb' = enabled-long b lb in
        let on : Same (enabled a) 0 (enabled b) 0 settings_end = paste-same a b (1 ∷ []) enable 1 h (omega arith) (omega arith) (omega arith) in
        let shape : take shape_size (drop staged_shape a) ≡ take shape_size (drop staged_shape b) =
        same-part (part h staged_shape shape_size (omega arith)) (omega arith) (omega arith) in
        rw (e a, e b, shape)
        ((paste-same (enabled a) (enabled b) (drop staged_shape b) live_shape shape_size on (omega arith) (omega arith) (rw length-drop (omega arith))).each k l)

module _ (p : List ℕ) (bytes : (k : ℕ) → get_or p k 0 < 256) (s t : State) (reply : List ℕ) (h : SameButMark s t) where
  fronts : Same s.block 0 t.block 0 settings_end
  fronts = same-settings s.block t.block h.settings

  byte : (k : ℕ) → k < settings_end → get_or s.block k 0 ≡ get_or t.block k 0
  byte k l = let z : 0 + k ≡ k = omega arith in rw z at (fronts.each k l)

  -- ---- The number.

  same-stopped : stopped s reply ≡ stopped t reply
  unfolding stopped
  same-stopped = rw (h.long, h.staged, h.live, h.gains, settings-same fronts)

  same-past : runs_past (opcode_of p) (reads p) (data_of p) s.block ≡ runs_past (opcode_of p) (reads p) (data_of p) t.block
  unfolding runs_past
  same-past = rw (byte 9 (omega arith), byte 10 (omega arith), byte 11 (omega arith), byte 12 (omega arith))

  same_number : number_of p s reply ≡ number_of p t reply
  unfolding number_of
  same_number = rw (same-stopped, same-past)

  -- ---- The data of an accepted read.

  module _ (a : Passed p s reply) where
    same-part-of : (at n : ℕ) → at + n ≤ settings_end → take n (drop at s.block) ≡ take n (drop at t.block)
    same-part-of at n l =
        let z : 0 + at ≡ at = omega arith in
        let whole = a.lent.tables.block in
        same-part (rw z at (part fronts at n (omega arith))) (omega arith) (omega (arith, h.long))

    same_shape : read_shape s.block ≡ read_shape t.block
    unfolding read_shape
    same_shape = rw (byte 8 (omega arith), same-part-of 13 188 (omega arith), same-part-of 8 5 (omega arith))

    same-smooth : read_smooth s.block ≡ read_smooth t.block
    unfolding read_smooth
    same-smooth =
        same-part-of smooth_table (2 + 4 * (byte_at s.block smooth_table * byte_at s.block (smooth_table + 1)))
        (omega (arith, (counts s.block a.lent.settings).smooth-points))
        ∙ rw (byte 395 (omega arith), byte 396 (omega arith))

    same_back : data_back (opcode_of p) (data_of p) s ≡ data_back (opcode_of p) (data_of p) t
    unfolding data_back block_back
    same_back = go (kind_of (opcode_of p))
      where
        stored : returned (opcode_of p) (data_of p) s.block ≡ returned (opcode_of p) (data_of p) t.block
        stored =
            same-part-of (place_of (opcode_of p) (data_of p)) (command_of (opcode_of p)).back
            (place-within (opcode_of p) (options_in (header_of p)) (data_of p) (bytes-of-data p bytes) a.command.judged)

        go : Kind (opcode_of p) → data_back (opcode_of p) (data_of p) s ≡ data_back (opcode_of p) (data_of p) t
        go (Kind.gains k) = rw (k, h.gains)
        go (Kind.points k) = rw (k, h.staged)
        go (Kind.shape k) = rw k same_shape
        go (Kind.apply k) = rw k (rw k at stored)
        go (Kind.smooth k) = rw k same-smooth
        go (Kind.other k) =
            other-back (opcode_of p) (data_of p) s k ∙ stored ∙ sym (other-back (opcode_of p) (data_of p) t k)

  same-data : (n f : ℕ) → number_of p s reply ≡ n → reply_data n f p s ≡ reply_data n f p t
  same-data n f e =
      elim (ℕ_discrete n 0) [
        | no z ↦ rw (ne_eqb n 0 z)
        | yes z ↦ rw (same_back (passed p s reply (e ∙ z)))
      ]

  same-reply : reply_to (number_of p s reply) p s ≡ reply_to (number_of p t reply) p t
  unfolding reply_to
  same-reply = rw (← same_number, same-data (number_of p s reply) (fault_of (number_of p s reply) p) refl)

  -- ---- The state.

  same-written : Passed p s reply → is_read (header_of p) ≡ 0 → SameButMark (written_marked (opcode_of p) (data_of p) s) (written_marked (opcode_of p) (data_of p) t)
  unfolding written
  same-written a w =
      let by = changed (opcode_of p) (options_in (header_of p)) (data_of p) (omega arith) a.command.judged in
      let la = a.lent.tables.block in
      let lb : length t.block ≡ block_size = sym h.long ∙ la in
      let long-s = changed-long by s.block la in
      let long-t = changed-long by t.block lb in
      let s' : State = written (opcode_of p) (data_of p) s in
      let t' : State = written (opcode_of p) (data_of p) t in
      let ms = mark-alone (opcode_of p) (data_of p) s'.block s'.staged s'.live long-s in
      let mt = mark-alone (opcode_of p) (data_of p) t'.block t'.staged t'.live long-t in
      let middle : take settings_end s'.block ≡ take settings_end t'.block =
      settings-taken s'.block t'.block (after_same by s.block t.block la lb fronts) (omega arith) (omega arith) in
      record {
        long = ms.long ∙ long-s ∙ sym (mt.long ∙ long-t);
        settings = settings-taken _ _ ms.front (omega (arith, ms.long)) (omega arith) ∙ middle ∙ sym (settings-taken _ _ mt.front (omega (arith, mt.long)) (omega arith));
        behind =
            ms.behind ∙ tail_from s'.block s.block (tail-changed by s.block la) ∙ h.behind
            ∙ sym (mt.behind ∙ tail_from t'.block t.block (tail-changed by t.block lb));
        staged = rw h.staged;
        live = rw (h.staged, h.live);
        gains = rw h.gains;
      }

  same-state : SameButMark (state_after (number_of p s reply) p s) (state_after (number_of p t reply) p t)
  same-state =
      subst (λ (n : ℕ). SameButMark (state_after (number_of p s reply) p s) (state_after n p t)) same_number
      (elim (ℕ_discrete (number_of p s reply) 0) [
        | no z ↦ rw (ne_eqb (number_of p s reply) 0 z) h
        | yes z ↦
            elim (ℕ_discrete (is_read (header_of p)) 1) [
              | yes r ↦ rw (eq-eqb (is_read (header_of p)) 1 r, and-false) h
              | no r ↦ rw (z, ne_eqb (is_read (header_of p)) 1 r) (same-written (passed p s reply z) (omega arith))
            ]
      ])

  pub unmarked : SameAnswer (step p s reply) (step p t reply)
  unfolding step
  unmarked =
      record {
        status = same_number;
        fault-place = ap (λ (n : ℕ). fault_of n p) same_number;
        size = ap length same-reply;
        reply = ap (λ (r : List ℕ). over r reply) same-reply;
        state = same-state;
      }
