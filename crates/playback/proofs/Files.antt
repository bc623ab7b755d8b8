-- Rules 9.2 to 9.6: what holds of whole files, whatever their bytes and windows.
use Prim.Native.Nat.{ℕ, zero, suc, ◌+◌, ◌-◌, ◌≤◌, ◌<◌}
use mathlib.Core.Path.{◌≡◌, refl, sym, ap, subst, ◌∙◌}
use mathlib.Core.Logic.{◌↔◌, inl, inr}
use mathlib.Core.List.{List, [], ◌∷◌, ◌++◌, append_assoc}
use native.Mathlib.Decide.{ℕ_discrete, dec_lt}
use native.Mathlib.Omega.{arith}
use borrow.Author.Tests.{ne_eqb, le-leb, lt-ltb}
use lib.ListN.{length, take, drop, get_or, length-append, length-replicate, get_or-append}
use lib.Seq.{length-sets, sets-eq, take-append_seam}
use Rattle.wire.specs.Plain.{Bytes}
use Rattle.wire.specs.Buffers.{over}
use Rattle.wire.proofs.Laws.{take-over}
use Rattle.text.specs.Text.{decimal, Puts}
use Rattle.text.proofs.Forms.{decimal-first, length-decimal}
use Rattle.settings.specs.Reset.{reset_shape, reset_block, reset_map, reset_gains}
use Rattle.settings.proofs.Allowed.{reset-allowed}
use Rattle.front_end.specs.State.{State, reset_state}
use Rattle.packet.specs.Reading.{fault_of}
use Rattle.front_end.specs.Step.{Out, out, status_reply, step}
use Rattle.front_end.specs.Calls.{state_after_all}
use Rattle.front_end.specs.Plain.{LentRight}
use Rattle.front_end.proofs.Demands.{runs, right-running, demand1}
use Rattle.front_end.proofs.InRange.{stays_lent}
use Rattle.session_file.specs.declared.Preamble.TheVariants.{Matched}
use Rattle.session_file.specs.Windows.{matched_of}
use Rattle.session_file.specs.Session.{Run, start, taken, file_run}
use Rattle.session_file.specs.Plain.{HasPreamble, Splits, ends, next}
use Rattle.session_file.proofs.Runs.{taken-append}
use Rattle.session_file.proofs.File.{file-read}
use Rattle.playback.specs.declared.Progress.{Progress}
use Rattle.playback.specs.Replay.{reply_buffer, line, lines, state_after_records, not_a_session, closing, text_of, replay_text, end_state, Formed}
use Rattle.playback.specs.Windows.{progress, ReplayStands, Full, WindowReplayed, closing_text}
use Rattle.playback.specs.WholeFiles.{Called, WholeText, NoneStopped, OverLong}
use Rattle.playback.proofs.Lines.{length-buffer, number-long, front-line, formed-append}

-- ---- Windows one after another.

-- The text that a window put is what its output begins with.
text-there : (text out : List ℕ) (out' : List ℕ) (size : ℕ) → Puts 0 text out out' size → size ≤ length out' → take size out' ≡ text
text-there text out out' size put fits =
    let long : size ≡ length text = omega (arith, put.ends) in
    let room : 0 + length text ≤ length out = omega (arith, ap (λ (l : List ℕ). length l) put.exits ∙ length-sets out 0 text) in
    let there : out' ≡ text ++ drop (0 + length text) out = put.exits ∙ sets-eq text out 0 room in
    rw (long, there) (take-append_seam text (drop (0 + length text) out))

-- Before the first byte.
begins : (kept : List ℕ) (s : State) → ReplayStands s start (progress 0 0 (Matched 0) 0 0) kept s
unfolding state_after_all
begins kept s =
    record {
      reader = record { preamble-bytes = refl; record-bytes = refl; record-front = refl; record-cut = record { short = λ two. absurd (omega arith) } };
      number = refl;
      state = refl;
    }

record So (first : State) (bytes text : List ℕ) (p : Progress) (kept : List ℕ) (s : State) : Type 0 where
  stands : ReplayStands first (file_run bytes) p kept s
  printed : lines 0 (file_run bytes).whole first ≡ text
  formed : Formed 0 text p.number

so_far : {kept : List ℕ} {first : State} {bytes text : List ℕ} {p : Progress} {kept' : List ℕ} {s : State} → Called (progress 0 0 (Matched 0) 0 0) kept first bytes text p kept' s
    → So first bytes text p kept' s
unfolding file_run lines taken
so_far {kept} {first = first} Called.none = record { stands = begins kept first; printed = refl; formed = Formed.none }
so_far {first = first} (Called.next {bytes} {text} {window} {reply} {reply'} {out} {out'} {p} {q} {kept'} {kept''} {s'} {s''} c w) =
    let before = so_far c in
    let st = before.stands in
    let e : q.at - 0 ≡ q.at = omega arith in
    let f = w.replayed.follows first (file_run bytes) (record { reader = st.reader; number = st.number; state = st.state }) in
    let run : taken (file_run bytes) (take (q.at - 0) window) ≡ file_run (bytes ++ take q.at window) =
    ap (λ (k : ℕ). taken (file_run bytes) (take k window)) e ∙ sym (taken-append start bytes (take q.at window)) in
    let put = text-there w.replayed.text out out' q.size w.replayed.put w.filled in
    record {
      stands = subst (λ (r : Run). ReplayStands first r q kept'' s'') run f.stands;
      printed =
          ap (λ (r : Run). lines 0 r.whole first) (sym run) ∙ f.printed
          ∙ ap (λ (l : List ℕ). l ++ w.replayed.text) before.printed ∙ ap (λ (l : List ℕ). text ++ l) (sym put);
      formed = formed-append before.formed (subst (λ (l : List ℕ). Formed p.number l q.number) (sym put) w.replayed.formed);
    }

closing-there : (p : Progress) (out : List ℕ) → 50 ≤ length out → p.number < 18446744073709551615
    → closing_text p out ≡ closing (matched_of p.matched) p.number p.have
closing-there p out room few = rw (le-leb 50 (length out) room, lt-ltb p.number 18446744073709551615 few)

none-taken : (r : Run) (window : List ℕ) (n : ℕ) → n ≡ 0 → taken r (take (n - 0) (drop 0 window)) ≡ r
unfolding taken
none-taken r window n e = let f : n - 0 ≡ 0 = omega arith in ap (λ (k : ℕ). taken r (take k (drop 0 window))) f

none-behind : (a b : List ℕ) → a ≡ a ++ b → length b ≡ 0
none-behind a b e = omega (arith, ap (λ (l : List ℕ). length l) e, length-append a b)

-- A call that takes nothing has put nothing and counted nothing, and so the output was full before it.
moved : {first : State} {bytes text kept : List ℕ} {p : Progress} {s : State} → So first bytes text p kept s
    → {window reply out kept' reply' out' : List ℕ} {q : Progress} {s' : State} → WindowReplayed window p kept s reply out q kept' s' reply' out'
    → p.have ≤ 65537 → 515 ≤ length kept → 512 ≤ length reply → 1578 ≤ length out → p.number < 18446744073709551615 → 0 < length window → 0 < q.at
moved {first} {bytes} {text} {kept} {p} {s} x {window} {reply} {out} {kept'} {reply'} {out'} {q} {s'} w most a b d few some =
    elim (dec_lt 0 q.at) [
      | yes h ↦ h
      | no h ↦
          let st = x.stands in
          let r : Run = file_run bytes in
          let f = w.replayed.follows first r (record { reader = st.reader; number = st.number; state = st.state }) in
          let e = none-taken r window q.at (omega arith) in
          let nothing = none-behind (lines 0 r.whole first) w.replayed.text (ap (λ (t : Run). lines 0 t.whole first) (sym e) ∙ f.printed) in
          let number : q.number ≡ p.number = f.stands.number ∙ ap (λ (t : Run). length t.whole) e ∙ sym st.number in
          let long : length out' ≡ length out = ap (λ (l : List ℕ). length l) w.replayed.put.exits ∙ length-sets out 0 w.replayed.text in
          absurd (full (w.rest (record { for-record = a; for-reply = b; for-have = most }) (omega arith))
          (omega (arith, w.replayed.put.ends, nothing)) number long)
    ]
  where
    full : Full q out' → q.size ≡ 0 → q.number ≡ p.number → length out' ≡ length out → ⊥
    full (inl lt) size number long = omega arith
    full (inr le) size number long = omega arith

-- Rule 9.6.
pub any-split : {kept bytes text : List ℕ} {p : Progress} {kept' : List ℕ} {s : State}
    → Called (progress 0 0 (Matched 0) 0 0) kept reset_state bytes text p kept' s → WholeText bytes text p kept' s
unfolding replay_text text_of end_state
any-split {bytes = bytes} {text = text} {p = p} c =
    let so = so_far c in
    let st = so.stands in
    record {
      printed =
          λ out room few.
          ap (λ (l : List ℕ). text ++ l) (closing-there p out room few)
          ∙ ap (λ (l : List ℕ). l ++ closing (matched_of p.matched) p.number p.have) (sym so.printed)
          ∙ ap (λ (m : ℕ). lines 0 (file_run bytes).whole reset_state ++ closing m p.number p.have) st.reader.preamble-bytes
          ∙ ap (λ (n : ℕ). lines 0 (file_run bytes).whole reset_state ++ closing (file_run bytes).matched n p.have) st.number
          ∙ ap (λ (h : ℕ). lines 0 (file_run bytes).whole reset_state ++ closing (file_run bytes).matched (length (file_run bytes).whole) h) st.reader.record-bytes;
      state = st.state;
      formed = so.formed;
      moves = λ w. moved so w;
    }

-- ---- Files with the preamble, and without it.

pub text-is : (r : Run) (s : State) (matched : ℕ) (packets : List (List ℕ)) (h : List ℕ) → r.matched ≡ matched → r.whole ≡ packets → r.under ≡ h
    → text_of r s ≡ lines 0 packets s ++ closing matched (length packets) (length h)
unfolding text_of
text-is r s matched packets h a b c = cc

-- Text that begins with a number does not begin with an `n`.
number-first : (n : ℕ) (rest : List ℕ) → get_or (decimal n ++ rest) 0 0 ≡ 110 → ⊥
number-first n rest e =
    omega (arith, get_or-append (decimal n) rest 0 0 (length-decimal n).0, decimal-first n)

lines-first : (n : ℕ) (p : List ℕ) (ps : List (List ℕ)) (s : State) (rest : List ℕ) → get_or (lines n (p ∷ ps) s ++ rest) 0 0 ≡ 110 → ⊥
unfolding lines line
lines-first n p ps s rest e = number-first (n + 1) _ (simp append_assoc at e)

closing-first : (n have : ℕ) → get_or (closing 5 n have) 0 0 ≡ 110 → ⊥
unfolding closing
closing-first n zero e = omega arith
closing-first n (suc have) e = number-first (n + 1) _ (simp (ne_eqb (suc have) 0 (λ z. omega arith), append_assoc) at e)

text-first : (ps : List (List ℕ)) (n have : ℕ) (s : State) → get_or (lines 0 ps s ++ closing 5 n have) 0 0 ≡ 110 → ⊥
unfolding lines
text-first [] n have s e = closing-first n have e
text-first (p ∷ ps) n have s e = lines-first 0 p ps s (closing 5 n have) e

pub closing-none : (matched n have : ℕ) → (matched ≡ 5 → ⊥) → closing matched n have ≡ not_a_session
unfolding closing
closing-none matched n have wrong = rw (ne_eqb matched 5 wrong)

-- Rule 9.4.
pub not-a-session : (file : List ℕ) → (replay_text file ≡ not_a_session) ↔ (HasPreamble file → ⊥)
unfolding replay_text lines
not-a-session file =
    let r : Run = file_run file in
    let read = file-read file in (
      λ same e.
          let text = text-is r reset_state 5 r.whole r.under (read.session.1 e) refl refl in
          text-first r.whole (length r.whole) (length r.under) reset_state (ap (λ (l : List ℕ). get_or l 0 0) (sym text ∙ same)),
      λ wrong.
          text-is r reset_state r.matched [] r.under refl (read.none wrong) refl
          ∙ closing-none r.matched 0 (length r.under) (λ five. wrong (read.session.0 five)),
    )

-- ---- What is lent stays right.

-- Only the length of a reply buffer counts.
fresh : (s : State) (reply : List ℕ) → LentRight s reply → LentRight s reply_buffer
fresh s reply l = record { tables = l.tables; room = omega (arith, length-buffer); settings = l.settings }

reset-block-long : length reset_block ≡ 1024
unfolding reset_block reset_shape
reset-block-long = refl

reset-map-long : length reset_map ≡ 3968
unfolding reset_map
reset-map-long = length-replicate {A = ℕ} 3968 0

reset-gains-long : length reset_gains ≡ 6048
unfolding reset_gains
reset-gains-long = length-replicate {A = ℕ} 6048 4096

reset-right : LentRight reset_state reply_buffer
reset-right =
    record {
      tables = record { block = reset-block-long; staged = reset-map-long; live = reset-map-long; gains = reset-gains-long };
      room = omega (arith, length-buffer);
      settings = reset-allowed;
    }

bytes-front : (a b : List ℕ) → Bytes (a ++ b) → Bytes a
bytes-front [] b h k = omega arith
bytes-front (x ∷ a) b h zero = h 0
bytes-front (x ∷ a) b h (suc k) = bytes-front a b (λ i. h (suc i)) k

bytes-behind : (a b : List ℕ) → Bytes (a ++ b) → Bytes b
bytes-behind [] b h = h
bytes-behind (x ∷ a) b h = bytes-behind a b (λ i. h (suc i))

bytes_drop : (n : ℕ) (l : List ℕ) → Bytes l → Bytes (drop n l)
bytes_drop zero l h = h
bytes_drop (suc n) [] h = h
bytes_drop (suc n) (x ∷ l) h = bytes_drop n l (λ i. h (suc i))

-- Record for record, each with a fresh reply buffer.
records-right : {bytes : List ℕ} {packets : List (List ℕ)} {h : List ℕ} → Splits bytes packets h → Bytes bytes → (s : State)
    → LentRight s reply_buffer → LentRight (state_after_records packets s) reply_buffer
unfolding state_after_all
records-right (ends c) all s l = l
records-right (next {low} {high} {packet} {rest} e split) all s l =
    let behind : Bytes (packet ++ rest) = λ k. all (suc (suc k)) in
    records-right split (bytes-behind packet rest behind) (step packet s reply_buffer).state
    (fresh _ _ (stays_lent packet (bytes-front packet rest behind) s reply_buffer l))

-- None of them is refused by 1.
records-run : {bytes : List ℕ} {packets : List (List ℕ)} {h : List ℕ} → Splits bytes packets h → Bytes bytes → (s : State)
    → LentRight s reply_buffer → NoneStopped packets s
records-run (ends c) all s l = NoneStopped.none
records-run (next {low} {high} {packet} {rest} e split) all s l =
    let behind : Bytes (packet ++ rest) = λ k. all (suc (suc k)) in
    NoneStopped.next (λ one. (demand1 packet s reply_buffer).one.0 one l)
    (records-run split (bytes-behind packet rest behind) (step packet s reply_buffer).state
    (fresh _ _ (stays_lent packet (bytes-front packet rest behind) s reply_buffer l)))

pub none-stopped : (file : List ℕ) → Bytes file → NoneStopped (file_run file).whole reset_state
none-stopped file all =
    let read = file-read file in
    elim (ℕ_discrete (file_run file).matched 5) [
      | yes five ↦ records-run (read.splits (read.session.0 five)) (bytes_drop 5 file all) reset_state reset-right
      | no other ↦
          subst (λ (ps : List (List ℕ)). NoneStopped ps reset_state) (sym (read.none (λ e. other (read.session.1 e)))) NoneStopped.none
    ]

-- Rules 9.2 and 9.6.
pub stays-right : (file : List ℕ) → Bytes file → LentRight (end_state file) reply_buffer
unfolding end_state state_after_all
stays-right file all =
    let read = file-read file in
    elim (ℕ_discrete (file_run file).matched 5) [
      | yes five ↦ records-right (read.splits (read.session.0 five)) (bytes_drop 5 file all) reset_state reset-right
      | no other ↦
          subst (λ (ps : List (List ℕ)). LentRight (state_after_records ps reset_state) reply_buffer)
          (sym (read.none (λ e. other (read.session.1 e)))) reset-right
    ]

-- ---- Over-long records.

-- Rule 9.5.
module _ (p : List ℕ) (s : State) (l : LentRight s reply_buffer) (long : 512 < length p) where
  long-status : (step p s reply_buffer).status ≡ 3
  unfolding step
  long-status = number-long p p s reply_buffer long long refl p long ∙ rw (runs s reply_buffer (right-running l))

  long-out : step p s reply_buffer ≡ out 3 0 (length (status_reply 3 0 p)) s (over (status_reply 3 0 p) reply_buffer)
  unfolding step
  long-out =
      (demand1 p s reply_buffer).refused l (λ none. omega (arith, long-status))
      ∙ ap (λ (n : ℕ). out n (fault_of n p) (length (status_reply n (fault_of n p) p)) s (over (status_reply n (fault_of n p) p) reply_buffer)) long-status

  pub over-long : OverLong p s
  over-long =
      record {
        status = long-status;
        unchanged = ap (λ (o : Out). o.state) long-out;
        reply = ap (λ (o : Out). take o.size o.reply) long-out ∙ take-over (status_reply 3 0 p) reply_buffer;
        front = λ n. front-line n p s reply_buffer (omega (arith, length-buffer));
      }
