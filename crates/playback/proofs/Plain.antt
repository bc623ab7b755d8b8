-- Rules 9.2 to 9.4: the text and the end state of a file are what the plain promise says; and what
-- a name means.
use Prim.Native.Nat.{ℕ, zero, suc, ◌+◌, ◌<◌}
use mathlib.Core.Path.{◌≡◌, refl, sym, ap, subst, ◌∙◌}
use mathlib.Core.Bool.{Bool, true, false, cond}
use mathlib.Core.List.{List, [], ◌∷◌, ◌++◌}
use native.Mathlib.Decide.{ℕ_discrete, dec_lt}
use native.Mathlib.Omega.{arith}
use borrow.Author.Tests.{eqb-true, eqb-false}
use lib.ListN.{length, take, get_or, replicate}
use lib.Dec.{eqb}
use Rattle.text.specs.Text.{decimal, hex}
use Rattle.text.specs.Plain.{Decimal}
use Rattle.text.proofs.Forms.{decimal-right, in-hex}
use Rattle.front_end.specs.State.{State, reset_state}
use Rattle.front_end.specs.Step.{step}
use Rattle.front_end.specs.Calls.{state_after_all}
use Rattle.session_file.specs.Session.{Run, file_run}
use Rattle.session_file.specs.Plain.{HasPreamble}
use Rattle.session_file.proofs.File.{file-read}
use Rattle.playback.specs.Replay.{reply_buffer, line, lines, state_after_records, cut_word, end_line, closing, replay_text, end_state}
use Rattle.playback.specs.Plain.{Countable, Fresh, Says, Recounts, Closes, Printed, Pinned}
use Rattle.playback.proofs.Lines.{length-buffer}
use Rattle.playback.proofs.Turns.{status-small}
use Rattle.playback.proofs.Files.{text-is, closing-none}

all-zeros : (n k : ℕ) → ◌≡◌ {A = ℕ} (get_or (replicate n 0) k 0) 0
all-zeros zero k = refl
all-zeros (suc n) zero = refl
all-zeros (suc n) (suc k) = all-zeros n k

fresh-buffer : Fresh reply_buffer
unfolding reply_buffer
fresh-buffer = record { long = length-buffer; zeros = all-zeros 512 }

says : (n status : ℕ) (reply : List ℕ) → n < 18446744073709551616 → status < 18446744073709551616 → Says n status reply (line n status reply)
unfolding line
says n status reply few small =
    record {
      number-text = decimal n;
      status-text = decimal status;
      reply-text = hex reply;
      all = refl;
      number-there = decimal-right n few;
      status-there = decimal-right status small;
      reply-there = in-hex reply;
    }

recounts : (n : ℕ) (packets : List (List ℕ)) (s : State) → n + length packets < 18446744073709551616
    → Recounts reply_buffer n packets s (lines n packets s) (state_after_records packets s)
unfolding lines state_after_all
recounts n [] s few = Recounts.none
recounts n (p ∷ ps) s few =
    Recounts.next
    (says (n + 1) (step p s reply_buffer).status (take (step p s reply_buffer).size (step p s reply_buffer).reply) (omega arith)
    (omega (arith, status-small p s reply_buffer)))
    (recounts (n + 1) ps (step p s reply_buffer).state (omega arith))

-- Rule 9.3.
pub closes : (number have : ℕ) → number < 18446744073709551615 → Closes number have (closing 5 number have)
unfolding closing
closes number have few = go (eqb have 0) refl
  where
    n : Decimal number (decimal number)
    n = decimal-right number (omega arith)

    some : (have ≡ 0 → ⊥) → 0 < have
    some h = elim (dec_lt 0 have) [ yes lt ↦ lt | no ge ↦ absurd (h (omega arith)) ]

    go : (b : Bool) → eqb have 0 ≡ b → Closes number have (cond b [] (decimal (number + 1) ++ cut_word) ++ end_line number)
    go true f = Closes.whole (eqb-true have 0 f) n
    go false f = Closes.cut (some (eqb-false have 0 f)) (decimal-right (number + 1) (omega arith)) n

with-preamble : (file : List ℕ) → HasPreamble file → Countable file → Printed file (replay_text file) (end_state file)
unfolding replay_text end_state
with-preamble file e few =
    let r : Run = file_run file in
    let read = file-read file in
    let split = read.splits e in
    let number = few r.whole r.under split in
    subst (λ (l : List ℕ). Printed file l (state_after_records r.whole reset_state))
    (sym (text-is r reset_state 5 r.whole r.under (read.session.1 e) refl refl))
    (Printed.session e split fresh-buffer (recounts 0 r.whole reset_state (omega arith)) (closes (length r.whole) (length r.under) number))

without-preamble : (file : List ℕ) → (HasPreamble file → ⊥) → Printed file (replay_text file) (end_state file)
unfolding replay_text end_state lines state_after_all
without-preamble file wrong =
    let r : Run = file_run file in
    let read = file-read file in
    let text = text-is r reset_state r.matched [] r.under refl (read.none wrong) refl
    ∙ closing-none r.matched 0 (length r.under) (λ five. wrong (read.session.0 five)) in
    let state : state_after_records r.whole reset_state ≡ reset_state = ap (λ (ps : List (List ℕ)). state_after_records ps reset_state) (read.none wrong) in
    subst (λ (l : List ℕ). Printed file l (state_after_records r.whole reset_state)) (sym text)
    (subst (λ (s : State). Printed file (110 ∷ 111 ∷ 116 ∷ 32 ∷ 97 ∷ 32 ∷ 115 ∷ 101 ∷ 115 ∷ 115 ∷ 105 ∷ 111 ∷ 110 ∷ 10 ∷ []) s) (sym state) (Printed.other wrong))

pub printed : (file : List ℕ) → Countable file → Printed file (replay_text file) (end_state file)
printed file few =
    let read = file-read file in
    elim (ℕ_discrete (file_run file).matched 5) [
      | yes five ↦ with-preamble file (read.session.0 five) few
      | no not ↦ without-preamble file (λ e. not (read.session.1 e))
    ]

pub pinned : Pinned
pinned = record { device = λ d. refl }
