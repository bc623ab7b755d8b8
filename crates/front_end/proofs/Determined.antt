-- The plain promises of one packet, of reset and of the row mark hold of one outcome at most. Of an
-- accepted write all but the mark is what its row of Effects says; and every bit of the mark is
-- said, where it is written; bytes of a number are its own.
use Prim.Native.Nat.{ℕ, zero, suc, ◌+◌, ◌*◌, ◌^◌, ◌≤◌, ◌<◌}
use mathlib.Core.Path.{◌≡◌, refl, sym, ap, subst, ◌∙◌}
use mathlib.Core.Logic.{◌↔◌}
use mathlib.Core.Bool.{Bool, true, false, true≢false}
use mathlib.Core.List.{List, [], ◌∷◌}
use native.Mathlib.Omega.{arith}
use native.Mathlib.Decide.{ℕ_discrete}
use borrow.Author.Tests.{eq-eqb, ne_eqb}
use lib.ListN.{length, take, drop, get_or, length-take, length-drop, length-replicate}
use lib.Seq.{paste, length-paste, ext_get_or, get_or-take, get_or-drop}
use Rattle.std.specs.Prelude.{Result}
use Rattle.wire.specs.declared.refusal.Refusal.{Refusal}
use Rattle.wire.specs.Numbers.{byte_at}
use Rattle.wire.specs.Plain.{Bytes}
use Rattle.wire.specs.Tables.{long_bytes}
use Rattle.wire.proofs.Copies.{paste-there}
use Rattle.wire.proofs.Plain.{least-one}
use Rattle.opcode.specs.Options.{is_read, options_in}
use Rattle.opcode.specs.Allowed.{two}
use Rattle.packet.specs.Frame.{header_of, opcode_of, data_of}
use Rattle.packet.proofs.Determined.{same-fault}
use Rattle.row_mark.specs.Bits.{of_bits, bit_at}
use Rattle.row_mark.specs.Right.{Moved}
use Rattle.row_mark.proofs.Bits.{length-bits}
use Rattle.row_mark.proofs.Rows.{length-refreshed, length-each}
use Rattle.row_mark.proofs.Plain.{same_bits, of-bits-small}
use Rattle.front_end.specs.declared.mark.RowCount.{RowCount}
use Rattle.front_end.specs.State.{State, state, lengths_right, ResetOut, reset, reset_state}
use Rattle.front_end.specs.Commands.{written}
use Rattle.front_end.specs.Step.{answers, Out, step}
use Rattle.front_end.specs.Mark.{mark_after, marks, with_mark, marked_block}
use Rattle.settings.specs.Layout.{mark_place, mark_size}
use Rattle.front_end.specs.Effects.{block_with}
use Rattle.front_end.specs.Rows.{mark_of, MarkBytes, columns_of, rows_of, RowRight, TouchedBy, RowsPlain, RowsAnswerPlain}
use Rattle.front_end.specs.Plain.{StateLent, Asks, ReplyData, ReplyWritten, StepPlain, ResetPlain, Pinned}
use Rattle.front_end.proofs.Effects.{leaves, returns}
use Rattle.front_end.proofs.Demands.{state-lent, resets}
use Rattle.front_end.proofs.Accepting.{written-long}
use Rattle.front_end.proofs.Changes.{Way, way, changed, changed-long}
use Rattle.front_end.proofs.Kept.{tail-changed}
use Rattle.front_end.proofs.ReadBack.{asks-it, answered}
use Rattle.front_end.proofs.Marks.{put-mark, front-byte}
use Rattle.front_end.proofs.Handled.{handled}

-- ---- The reply.

data-one : {p : List ℕ} {s : State} {status fault : ℕ} {a b : List ℕ} → ReplyData p s status fault a → ReplyData p s status fault b → a ≡ b
data-one (ReplyData.returned z r x) (ReplyData.returned z' r' y) = sym (returns x) ∙ returns y
data-one (ReplyData.returned z r x) (ReplyData.place t) = absurd (omega arith)
data-one (ReplyData.returned z r x) (ReplyData.none w n) = absurd (omega (arith, w z))
data-one (ReplyData.place t) (ReplyData.returned z r x) = absurd (omega arith)
data-one (ReplyData.place t) (ReplyData.place t') = refl
data-one (ReplyData.place t) (ReplyData.none w n) = absurd (n t)
data-one (ReplyData.none w n) (ReplyData.returned z r x) = absurd (omega (arith, w z))
data-one (ReplyData.none w n) (ReplyData.place t) = absurd (n t)
data-one (ReplyData.none w n) (ReplyData.none w' n') = refl

written_one : {p : List ℕ} {s : State} {reply : List ℕ} {o q : Out} → ReplyWritten p s reply o → ReplyWritten p s reply q → o.status ≡ q.status
    → o.fault-place ≡ q.fault-place → (o.size ≡ q.size) × (o.reply ≡ q.reply)
written_one {p} {s} {reply} {o} {q} x y same place =
    let by : ReplyData p s o.status o.fault-place y.content =
    subst (λ (n : ℕ). ReplyData p s o.status n y.content) (sym place) (subst (λ (n : ℕ). ReplyData p s n q.fault-place y.content) (sym same) y.by) in
    let content : x.content ≡ y.content = data-one x.by by in
    let xs = x.size in
    let ys = y.size in
    let xb = x.bytes in
    let yb = y.bytes in
    let size : o.size ≡ q.size = cc in
    (size, cc)

-- ---- The four bytes of the mark.

four-of : (b : List ℕ) (k : ℕ) → k < 4 → get_or (take 4 (drop 865 b)) k 0 ≡ get_or b (865 + k) 0
four-of b k h = rw (get_or-take, get_or-drop)

-- Two digits make a number in one way.
low_same : (a b c d : ℕ) → a < 256 → c < 256 → a + 256 * b ≡ c + 256 * d → (a ≡ c) × (b ≡ d)
low_same a b c d ha hc e = (omega arith, omega arith)

wide-same : (a b c d : ℕ) → a < 65536 → c < 65536 → a + 65536 * b ≡ c + 65536 * d → (a ≡ c) × (b ≡ d)
wide-same a b c d ha hc e = (omega arith, omega arith)

each-of-4 : (P : ℕ → Type 0) → P 0 → P 1 → P 2 → P 3 → (k : ℕ) → k < 4 → P k
each-of-4 P a b c d zero h = a
each-of-4 P a b c d (suc zero) h = b
each-of-4 P a b c d (suc (suc zero)) h = c
each-of-4 P a b c d (suc (suc (suc zero))) h = d
each-of-4 P a b c d (suc (suc (suc (suc k)))) h = absurd (omega arith)

same-four : (b c : List ℕ) → MarkBytes b → MarkBytes c → length (take 4 (drop 865 b)) ≡ 4 → length (take 4 (drop 865 c)) ≡ 4 → mark_of b ≡ mark_of c
    → take 4 (drop 865 b) ≡ take 4 (drop 865 c)
same-four b c small few lb lc same =
    let word-b : two (get_or b 865 0) (get_or b 866 0) < 65536 = omega (arith, small 0 (omega arith), small 1 (omega arith)) in
    let word-c : two (get_or c 865 0) (get_or c 866 0) < 65536 = omega (arith, few 0 (omega arith), few 1 (omega arith)) in
    let halves = wide-same (two (get_or b 865 0) (get_or b 866 0)) (two (get_or b 867 0) (get_or b 868 0)) (two (get_or c 865 0) (get_or c 866 0)) (two (get_or c 867 0) (get_or c 868 0)) word-b word-c same in
    let low = low_same (get_or b 865 0) (get_or b 866 0) (get_or c 865 0) (get_or c 866 0) (small 0 (omega arith)) (few 0 (omega arith)) halves.0 in
    let high = low_same (get_or b 867 0) (get_or b 868 0) (get_or c 867 0) (get_or c 868 0) (small 2 (omega arith)) (few 2 (omega arith)) halves.1 in
    let each : (k : ℕ) → k < 4 → get_or b (865 + k) 0 ≡ get_or c (865 + k) 0 =
    each-of-4 (λ (k : ℕ). get_or b (865 + k) 0 ≡ get_or c (865 + k) 0) low.0 low.1 high.0 high.1 in
    ext_get_or 0 (take 4 (drop 865 b)) (take 4 (drop 865 c)) (lb ∙ sym lc)
    (λ k h. let l : k < 4 = omega arith in four-of b k l ∙ each k l ∙ sym (four-of c k l))

mark-small : (b : List ℕ) → MarkBytes b → mark_of b < 2 ^ 32
mark-small b small =
    let low : two (get_or b 865 0) (get_or b 866 0) < 65536 = omega (arith, small 0 (omega arith), small 1 (omega arith)) in
    let high : two (get_or b 867 0) (get_or b 868 0) < 65536 = omega (arith, small 2 (omega arith), small 3 (omega arith)) in
    omega arith

-- ---- Bits: equal, if each is set exactly where the other is; and equality of numbers may be argued by contradiction.

bit-of : (n r : ℕ) → bit_at n r < 2
bit-of n r = omega arith

same_bit : {a b : ℕ} → a < 2 → b < 2 → (a ≡ 1) ↔ (b ≡ 1) → a ≡ b
same_bit {a} {b} ha hb e =
    elim (ℕ_discrete a 1) [
      | yes one ↦ one ∙ sym (e.0 one)
      | no other ↦ elim (ℕ_discrete b 1) [ yes one ↦ absurd (other (e.1 one)) | no none ↦ omega arith ]
    ]

stable : (a b : ℕ) → ((a ≡ b → ⊥) → ⊥) → a ≡ b
stable a b h = elim (ℕ_discrete a b) [ yes e ↦ e | no e ↦ absurd (h e) ]

moved_as : {c c' n n' : ℕ} {staged staged' live live' : List ℕ} {r : ℕ} → c ≡ c' → n ≡ n' → staged ≡ staged' → live ≡ live'
    → Moved c n staged live r → Moved c' n' staged' live' r
moved_as {c} {c'} {n} {n'} {staged} {staged'} {live} {live'} {r} e f g h m =
    subst (λ (l : List ℕ). Moved c' n' staged' l r) h
    (subst (λ (l : List ℕ). Moved c' n' l live r) g (subst (λ (k : ℕ). Moved c' k staged live r) f (subst (λ (k : ℕ). Moved k n staged live r) e m)))

-- ---- A state that is another one but for its mark.

record ButMark (w t : State) : Type 0 where
  long : length t.block ≡ 1024
  columns : columns_of t.block ≡ columns_of w.block
  rows : rows_of t.block ≡ rows_of w.block
  staged : t.staged ≡ w.staged
  live : t.live ≡ w.live
  whole : t ≡ block_with w 865 (take 4 (drop 865 t.block))

but-mark : (w t : State) → length w.block ≡ 1024 → t ≡ block_with w 865 (take 4 (drop 865 t.block)) → ButMark w t
but-mark w t l e =
    let new = take 4 (drop 865 t.block) in
    let few : length new ≤ 4 = simp length-take (omega arith) in
    let block : t.block ≡ paste w.block 865 new (length new) = ap (λ (u : State). u.block) e in
    let long : length t.block ≡ 1024 = ap length block ∙ length-paste w.block 865 new (length new) (omega arith) (omega arith) ∙ l in
    let four : length new ≡ 4 = simp (length-take, length-drop) (omega arith) in
    let same : t.block ≡ paste w.block 865 new 4 = block ∙ ap (paste w.block 865 new) four in
    let kept = put-mark w.block new l four in
    record {
      long = long;
      columns = rw same (rw (front-byte kept 9 (omega arith), front-byte kept 10 (omega arith)));
      rows = rw same (rw (front-byte kept 11 (omega arith), front-byte kept 12 (omega arith)));
      staged = ap (λ (u : State). u.staged) e;
      live = ap (λ (u : State). u.live) e;
      whole = e;
    }

-- Its rows are right, or not, by what the other one has.
right-as : {w t : State} → ButMark w t → (r : ℕ) → RowRight t r
    → (bit_at (mark_of t.block) r ≡ 1) ↔ Moved (columns_of w.block) (rows_of w.block) w.staged w.live r
right-as b r h = (
  λ one. moved_as b.columns b.rows b.staged b.live (h.0 one),
  λ m. h.1 (moved_as (sym b.columns) (sym b.rows) (sym b.staged) (sym b.live) m),
)

both_right : {w t u : State} → ButMark w t → ButMark w u → (r : ℕ) → RowRight t r → RowRight u r
    → bit_at (mark_of t.block) r ≡ bit_at (mark_of u.block) r
both_right b c r h k =
    let x = right-as b r h in
    let y = right-as c r k in
    same_bit (bit-of _ r) (bit-of _ r) (λ one. y.1 (x.0 one), λ one. x.1 (y.0 one))

-- ---- One packet: an accepted write.

module _ (p : List ℕ) (s : State) (reply : List ℕ) {o q : Out} (small : MarkBytes o.state.block) (few : MarkBytes q.state.block)
    (f : StepPlain p s reply o) (g : StepPlain p s reply q) (zo : o.status ≡ 0) (zq : q.status ≡ 0) (write : is_read (header_of p) ≡ 0)
    {w : State} (b : ButMark w o.state) (c : ButMark w q.state) where
  four-long : {t : State} → ButMark w t → length (take 4 (drop 865 t.block)) ≡ 4
  four-long k = simp (length-take, length-drop) (omega (arith, k.long))

  by_number : mark_of o.state.block ≡ mark_of q.state.block → take 4 (drop 865 o.state.block) ≡ take 4 (drop 865 q.state.block)
  by_number same = same-four o.state.block q.state.block small few (four-long b) (four-long c) same

  by_bits : ((r : ℕ) → r < 32 → bit_at (mark_of o.state.block) r ≡ bit_at (mark_of q.state.block) r)
      → take 4 (drop 865 o.state.block) ≡ take 4 (drop 865 q.state.block)
  by_bits same = by_number (same_bits 32 _ _ (mark-small o.state.block small) (mark-small q.state.block few) same)

  same-mark : take 4 (drop 865 o.state.block) ≡ take 4 (drop 865 q.state.block)
  same-mark =
      elim (ℕ_discrete (opcode_of p) 0x34) [
        | yes e ↦
            by_bits
            (λ r h.
            stable _ _
            (λ differ.
            let off : TouchedBy (columns_of s.block) p r → ⊥ =
            λ t. differ (both_right b c r (f.rows.touched (zo, e, write) r t) (g.rows.touched (zq, e, write) r t)) in
            differ (f.rows.untouched (zo, e, write) r h off ∙ sym (g.rows.untouched (zq, e, write) r h off))))
        | no not-34 ↦
            elim (ℕ_discrete (opcode_of p) 0x35) [
              | yes e ↦
                  by_bits (λ r h. both_right b c r ((f.rows.reshaped (zo, e, write)).each r h) ((g.rows.reshaped (zq, e, write)).each r h))
              | no not-35 ↦
                  elim (ℕ_discrete (opcode_of p) 0x36) [
                    | yes e ↦
                        elim (ℕ_discrete (byte_at (data_of p) 0) 1) [
                          | yes v ↦ by_number (f.rows.cleared (zo, e, write, v) ∙ sym (g.rows.cleared (zq, e, write, v)))
                          | no v ↦ kept not-34 not-35 (λ a. v)
                        ]
                    | no not-36 ↦ kept not-34 not-35 (λ a v. not-36 a)
                  ]
            ]
      ]
    where
      kept : (opcode_of p ≡ 0x34 → ⊥) → (opcode_of p ≡ 0x35 → ⊥) → (opcode_of p ≡ 0x36 → byte_at (data_of p) 0 ≡ 1 → ⊥)
          → take 4 (drop 865 o.state.block) ≡ take 4 (drop 865 q.state.block)
      kept x y z =
          f.rows.kept (λ a. x a.1) (λ a. y a.1) (λ a. z a.1 a.3)
          ∙ sym (g.rows.kept (λ a. x a.1) (λ a. y a.1) (λ a. z a.1 a.3))

-- ---- One packet.

module _ (p : List ℕ) (bytes : Bytes p) (s : State) (reply : List ℕ) where
  -- What a write leaves, but for the mark, by the definition.
  left_as : {o : Out} → StepPlain p s reply o → o.status ≡ 0 → is_read (header_of p) ≡ 0 → ButMark (written (opcode_of p) (data_of p) s) o.state
  left_as {o} f z w =
      let left = f.written z w in
      let number : (step p s reply).status ≡ 0 =
      least-one (step p s reply).status o.status (handled p bytes s reply refl).plain.number f.number ∙ z in
      but-mark (written (opcode_of p) (data_of p) s) o.state (written-long p s reply number w)
      (left.all-but-mark ∙ ap (λ (t : State). block_with t 865 (take 4 (drop 865 o.state.block))) (sym (leaves left.by)))

  same-state : {o q : Out} → MarkBytes o.state.block → MarkBytes q.state.block → StepPlain p s reply o → StepPlain p s reply q
      → o.status ≡ q.status → o.state ≡ q.state
  same-state {o} {q} small few f g same =
      elim (ℕ_discrete o.status 0) [
        | yes z ↦
            elim (ℕ_discrete (is_read (header_of p)) 1) [
              | yes r ↦ f.unchanged (λ e. r) ∙ sym (g.unchanged (λ e. r))
              | no other ↦
                  let w : is_read (header_of p) ≡ 0 = omega arith in
                  let zq : q.status ≡ 0 = sym same ∙ z in
                  let b = left_as f z w in
                  let c = left_as g zq w in
                  b.whole
                  ∙ ap (block_with (written (opcode_of p) (data_of p) s) 865) (same-mark p s reply small few f g z zq w b c)
                  ∙ sym c.whole
            ]
        | no some ↦ f.unchanged (λ z. absurd (some z)) ∙ sym (g.unchanged (λ z. absurd (some (same ∙ z))))
      ]

  same-reply : {o q : Out} → StepPlain p s reply o → StepPlain p s reply q → o.status ≡ q.status → o.fault-place ≡ q.fault-place
      → (o.size ≡ q.size) × (o.reply ≡ q.reply)
  same-reply {o} {q} f g same place = go (answers o.status p) refl
    where
      go : (b : Bool) → answers o.status p ≡ b → (o.size ≡ q.size) × (o.reply ≡ q.reply)
      go true e =
          let asks = asks-it o.status p e in
          let x = f.replied asks.0 asks.1 in
          let y = g.replied asks.0 (λ one. asks.1 (same ∙ one)) in
          written_one x y same place
      go false e =
          let one : Asks p → o.status ≡ 1 = λ a. stable o.status 1 (λ other. true≢false (sym (answered o.status p (a, other)) ∙ e)) in
          let x = f.silent one in
          let y = g.silent (λ a. sym same ∙ one a) in
          (x.0 ∙ sym y.0, x.1 ∙ sym y.1)

pub step-determined : (p : List ℕ) → Bytes p → (s : State) (reply : List ℕ) (o q : Out) → MarkBytes o.state.block → MarkBytes q.state.block
    → StepPlain p s reply o → StepPlain p s reply q → o ≡ q
step-determined p bytes s reply o q small few f g =
    let status : o.status ≡ q.status = least-one o.status q.status f.number g.number in
    let fault : o.fault-place ≡ q.fault-place =
    same-fault o.status f.fault-place f.no-fault (λ e. g.fault-place (sym status ∙ e)) (λ e. g.no-fault (λ h. e (status ∙ h))) in
    let replies = same-reply p bytes s reply f g status fault in
    same status fault replies.0 (same-state p bytes s reply small few f g status) replies.1
  where
    same : {n n' f f' size size' : ℕ} {s s' : State} {r r' : List ℕ} → n ≡ n' → f ≡ f' → size ≡ size' → s ≡ s' → r ≡ r'
        → ◌≡◌ {A = Out} (record { status = n; fault-place = f; size = size; state = s; reply = r })
        (record { status = n'; fault-place = f'; size = size'; state = s'; reply = r' })
    same n f z s r = cc

-- ---- The mark's bytes stay bytes.

-- The four bytes of a number below 2 ^ 32.
number-bytes : (n : ℕ) → n < 2 ^ 32 → (k : ℕ) → k < 4 → get_or (long_bytes (n ∷ [])) k 0 < 256
number-bytes n h =
    each-of-4 (λ (k : ℕ). get_or (long_bytes (n ∷ [])) k 0 < 256) (omega arith) (omega arith) (omega arith) (omega arith)

marked-bytes : (mark : List Bool) (block : List ℕ) → length mark ≡ 32 → length block ≡ 1024 → MarkBytes (with_mark mark block)
marked-bytes mark block l b k h =
    let there = paste-there block (long_bytes (of_bits mark ∷ [])) mark_place mark_size (omega arith) (omega arith) in
    rw (there.each k h) (number-bytes (of_bits mark) (subst (λ (n : ℕ). of_bits mark < 2 ^ n) l (of-bits-small mark)) (0 + k) (omega arith))

mark-long : (op : ℕ) (d : List ℕ) (columns rows : ℕ) (staged live : List ℕ) (m : List Bool) → length m ≡ 32
    → length (mark_after op d columns rows staged live m) ≡ 32
unfolding mark_after
mark-long op d columns rows staged live m l =
    elim (ℕ_discrete op 0x34) [
      | yes e ↦ rw (eq-eqb op 0x34 e) (length-refreshed _ _ _ m ∙ l)
      | no not-34 ↦
          rw (ne_eqb op 0x34 not-34)
          (elim (ℕ_discrete op 0x35) [
            | yes e ↦ rw (eq-eqb op 0x35 e) (length-each _ 0 32)
            | no not-35 ↦ rw (ne_eqb op 0x35 not-35) (length-replicate {A = Bool} 32 false)
          ])
    ]

-- Of any packet.
pub mark-bytes : (p : List ℕ) (s : State) (reply : List ℕ) → MarkBytes s.block → MarkBytes (step p s reply).state.block
unfolding written marked_block
mark-bytes p s reply small = go (way p s reply)
  where
    after : State
    after = written (opcode_of p) (data_of p) s

    pass : (b : Bool) → marks (opcode_of p) (data_of p) ≡ b → length after.block ≡ 1024 → MarkBytes after.block
        → MarkBytes (marked_block (opcode_of p) (data_of p) after.block after.staged after.live)
    pass true e l h = rw e (marked-bytes _ after.block (mark-long (opcode_of p) (data_of p) _ _ _ _ _ (length-bits 32 _)) l)
    pass false e l h = rw e h

    go : Way p s reply → MarkBytes (step p s reply).state.block
    go (Way.same e) = subst (λ (t : State). MarkBytes t.block) (sym e) small
    go (Way.wrote st r a e) =
        let by = changed (opcode_of p) (options_in (header_of p)) (data_of p) (omega arith) a.command.judged in
        let long = a.lent.tables.block in
        let tail = tail-changed by s.block long in
        let same : (k : ℕ) → get_or after.block (865 + k) 0 ≡ get_or s.block (865 + k) 0 =
        λ k. sym (get_or-drop 865 after.block k 0) ∙ ap (λ (b : List ℕ). get_or b k 0) tail ∙ get_or-drop 865 s.block k 0 in
        subst (λ (t : State). MarkBytes t.block) (sym e)
        (pass (marks (opcode_of p) (data_of p)) refl (changed-long by s.block long) (λ k h. subst (λ (n : ℕ). n < 256) (sym (same k)) (small k h)))

-- ---- Reset.

lent-or : (s : State) {P : Type 0} → (StateLent s → P) → ((StateLent s → ⊥) → P) → P
lent-or s {P} right wrong = go (lengths_right s) refl
  where
    go : (b : Bool) → lengths_right s ≡ b → P
    go true e = right ((state-lent s).0 e)
    go false e = wrong (λ l. true≢false (sym ((state-lent s).1 l) ∙ e))

pub reset-determined : (s : State) (o q : ResetOut) → ResetPlain s o → ResetPlain s q → o ≡ q
reset-determined s o q f g =
    lent-or s
    (λ l.
    let x = f.long l in
    let y = g.long l in
    same (f.accepted l ∙ sym (g.accepted l))
    (by-element x.block y.block (λ k h. f.block-after l k h ∙ sym (g.block-after l k h)))
    (by-element x.staged y.staged (λ k h. f.staged-after l k h ∙ sym (g.staged-after l k h)))
    (by-element x.live y.live (λ k h. f.live-after l k h ∙ sym (g.live-after l k h)))
    (by-element x.gains y.gains (λ k h. f.gains-after l k h ∙ sym (g.gains-after l k h))))
    (λ wrong.
    let x = f.wrong-length wrong in
    let y = g.wrong-length wrong in
    other (x.0 ∙ sym y.0) (x.1 ∙ sym y.1))
  where
    by-element : {a b : List ℕ} {n : ℕ} → length a ≡ n → length b ≡ n → ((k : ℕ) → k < n → get_or a k 0 ≡ get_or b k 0) → a ≡ b
    by-element {a} {b} x y h = ext_get_or 0 a b (x ∙ sym y) (λ k l. h k (omega arith))

    other : {n n' : ℕ} {s s' : State} → n ≡ n' → s ≡ s' → ◌≡◌ {A = ResetOut} (record { status = n; state = s }) (record { status = n'; state = s' })
    other n s = cc

    same : {n n' : ℕ} {b b' t t' l l' g g' : List ℕ} → n ≡ n' → b ≡ b' → t ≡ t' → l ≡ l' → g ≡ g'
        → ◌≡◌ {A = ResetOut} (record { status = n; state = state b t l g }) (record { status = n'; state = state b' t' l' g' })
    same n b t l g = cc

-- ---- What is told of the row mark.

pub rows-determined : (block : List ℕ) {status count lowest status' count' lowest' : ℕ} → RowsPlain block status count lowest
    → RowsPlain block status' count' lowest' → (status ≡ status') × (count ≡ count') × (lowest ≡ lowest')
rows-determined block f g =
    elim (ℕ_discrete (length block) 1024) [
      | yes e ↦ (
        f.accepted e ∙ sym (g.accepted e),
        f.marked e ∙ sym (g.marked e),
        f.lowest-marked e ∙ sym (g.lowest-marked e),
      )
      | no e ↦
          let x = f.wrong-length e in
          let y = g.wrong-length e in
          (x.0 ∙ sym y.0, x.1 ∙ sym y.1, x.2 ∙ sym y.2)
    ]

pub rows-answer-determined : (block : List ℕ) {r r' : Result RowCount Refusal} → RowsAnswerPlain block r → RowsAnswerPlain block r' → r ≡ r'
rows-answer-determined block f g =
    elim (ℕ_discrete (length block) 1024) [
      | yes e ↦
          elim (ℕ_discrete (mark_of block) 0) [
            | yes z ↦ f.none-marked e z ∙ sym (g.none-marked e z)
            | no some ↦ f.some-marked e some ∙ sym (g.some-marked e some)
          ]
      | no e ↦ f.wrong-length e ∙ sym (g.wrong-length e)
    ]

-- ---- What names mean.

pub pinned : Pinned
unfolding reset
pinned =
    record {
      lists = λ b t l g. refl;
      answer = λ status fault size s reply. refl;
      reset-answer = λ status s. refl;
      one-packet = λ p bytes s reply. (handled p bytes s reply refl).plain;
      mark-stays-bytes = mark-bytes;
      at-reset = λ s l. (resets s {o = record { status = 0; state = reset_state }} (rw ((state-lent s).1 l))).plain;
    }
