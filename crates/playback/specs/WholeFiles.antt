-- What holds of whole files, so that no contract of one window can carry it.
use Rattle.std.specs.Prelude.{ℕ, ◌+◌, ◌≤◌, ◌<◌, ◌≡◌, ◌⊎◌, ◌↔◌, List, [], ◌∷◌, ◌++◌, length, take}
use Rattle.std.proofs.lemmas.List.Edits.{sets}
use Rattle.text.specs.Text.{Puts}
use Rattle.front_end.specs.State.{State, reset_state}
use Rattle.front_end.specs.Step.{status_reply, step}
use Rattle.front_end.specs.Plain.{LentRight}
use Rattle.wire.specs.Plain.{Bytes}
use Rattle.session_file.specs.declared.Preamble.TheVariants.{Matched}
use Rattle.session_file.specs.Session.{file_run}
use Rattle.session_file.specs.Plain.{HasPreamble}
use Rattle.playback.specs.declared.Progress.{Progress}
use Rattle.playback.specs.Replay.{reply_buffer, line_of, not_a_session, replay_text, end_state, Formed}
use Rattle.playback.specs.Plain.{Counted, Countable, Printed}
use Rattle.playback.specs.Windows.{progress, WindowReplayed, going, closing_text}

-- Rule 9.6: calls of `replay`, window after window, each with an output and a reply buffer of its
-- own: the bytes that they took, and the text that they put.
pub data Called (from : Progress) (kept : List ℕ) (s : State) : List ℕ → List ℕ → Progress → List ℕ → State → Type 0 where
  none : Called from kept s [] [] from kept s
  next : {bytes text window reply reply' out out' : List ℕ} {p q : Progress} {kept' kept'' : List ℕ} {s' s'' : State} → Called from kept s bytes text p kept' s'
      → WindowReplayed window p kept' s' reply out q kept'' s'' reply' out'
      → Called from kept s (bytes ++ take q.at window) (text ++ take q.size out') q kept'' s''

-- Rules 9.2 to 9.6: what they have put, and behind it what `finish` is to put (`closing_text`), is
-- the text of the bytes that they took, and the state is their end state; each line has its form;
-- and a call that is lent room takes some of its window.
pub record WholeText (bytes text : List ℕ) (p : Progress) (kept : List ℕ) (s : State) : Type 0 where
  pub printed : (out : List ℕ) → 50 ≤ length out → Counted p.number → text ++ closing_text p out ≡ replay_text bytes
  pub state : s ≡ end_state bytes
  pub formed : Formed 0 text p.number
  pub moves : {window reply out kept' reply' out' : List ℕ} {q : Progress} {s' : State} → WindowReplayed window p kept s reply out q kept' s' reply' out'
      → p.have ≤ 65537 → 515 ≤ length kept → 512 ≤ length reply → 1578 ≤ length out → Counted p.number → 0 < length window → 0 < q.at

-- Rule 4.1: no record is refused by 1, each judged on the state that it gets.
pub data NoneStopped : List (List ℕ) → State → Type 0 where
  none : {s : State} → NoneStopped [] s
  next : {p : List ℕ} {ps : List (List ℕ)} {s : State} → ((step p s reply_buffer).status ≡ 1 → ⊥) → NoneStopped ps (step p s reply_buffer).state
      → NoneStopped (p ∷ ps) s

-- Rule 9.5: a record over 512 bytes is refused by 3, changes nothing, and has the reply without
-- data that its first byte asks for; its first 513 bytes tell all of this.
pub record OverLong (p : List ℕ) (s : State) : Type 0 where
  pub status : (step p s reply_buffer).status ≡ 3
  pub unchanged : (step p s reply_buffer).state ≡ s
  pub reply : take (step p s reply_buffer).size (step p s reply_buffer).reply ≡ status_reply 3 0 p
  pub front : (n : ℕ) → line_of n (step (take 513 p) s reply_buffer) ≡ line_of n (step p s reply_buffer)

-- Rule 9.8: the bench session, and what it prints: `1 0`, `2 0 00 01 00 01`, `3 10`, `end 3`.
abbrev pub example_file : List ℕ
example_file =
    0x50 ∷ 0x4A ∷ 0x4C ∷ 1 ∷ 0
    ∷ 3 ∷ 0 ∷ 0x04 ∷ 0x11 ∷ 1
    ∷ 2 ∷ 0 ∷ 0x84 ∷ 0x11
    ∷ 3 ∷ 0 ∷ 0x04 ∷ 0x1A ∷ 1 ∷ []

abbrev pub example_text : List ℕ
example_text =
    49 ∷ 32 ∷ 48 ∷ 10
    ∷ 50 ∷ 32 ∷ 48 ∷ 32 ∷ 48 ∷ 48 ∷ 32 ∷ 48 ∷ 49 ∷ 32 ∷ 48 ∷ 48 ∷ 32 ∷ 48 ∷ 49 ∷ 10
    ∷ 51 ∷ 32 ∷ 49 ∷ 48 ∷ 10
    ∷ 101 ∷ 110 ∷ 100 ∷ 32 ∷ 51 ∷ 10 ∷ []

-- Rule 9.8: without its last byte: `1 0`, `2 0 00 01 00 01`, `3 cut`, `end 2`.
abbrev pub cut_example_text : List ℕ
cut_example_text =
    49 ∷ 32 ∷ 48 ∷ 10
    ∷ 50 ∷ 32 ∷ 48 ∷ 32 ∷ 48 ∷ 48 ∷ 32 ∷ 48 ∷ 49 ∷ 32 ∷ 48 ∷ 48 ∷ 32 ∷ 48 ∷ 49 ∷ 10
    ∷ 51 ∷ 32 ∷ 99 ∷ 117 ∷ 116 ∷ 10
    ∷ 101 ∷ 110 ∷ 100 ∷ 32 ∷ 50 ∷ 10 ∷ []

pub record WholeFiles : Type 0 where
  -- Rule 9.6: of one window, what is left and printed, and where a full output stops it.
  pub window-determined : {window kept reply out : List ℕ} {from p q : Progress} {s t u : State} {kept' kept'' reply' reply'' out' out'' : List ℕ}
      → WindowReplayed window from kept s reply out p kept' t reply' out' → WindowReplayed window from kept s reply out q kept'' u reply'' out''
      → going p kept' t reply' out' ≡ going q kept'' u reply'' out''
  -- Rule 9.6: all of a window is taken, unless the output has no room for another line or no record
  -- more can be counted.
  pub stops : {window kept reply out : List ℕ} {from p : Progress} {s t : State} {kept' reply' out' : List ℕ}
      → WindowReplayed window from kept s reply out p kept' t reply' out' → 515 ≤ length kept → 512 ≤ length reply → from.have ≤ 65537
      → p.at < length window → (length out' < p.size + 1578) ⊎ (18446744073709551615 ≤ p.number)
  -- What `finish` and `unreadable` promise: the output has the text, which ends at the answer.
  pub put : {at end : ℕ} {text out out' : List ℕ} → Puts at text out out' end → (end ≡ at + length text) × (out' ≡ sets out at text)
  -- Rule 9.6: windows of any split, from the start of a file and from reset.
  pub any-split : {kept bytes text : List ℕ} {p : Progress} {kept' : List ℕ} {s : State}
      → Called (progress 0 0 (Matched 0) 0 0) kept reset_state bytes text p kept' s → WholeText bytes text p kept' s
  -- Rules 9.2 to 9.4: the text and the end state of a file are what the plain promise says, and
  -- nothing else is.
  pub printed : (file : List ℕ) → Countable file → Printed file (replay_text file) (end_state file)
  pub determined : {file a b : List ℕ} {s t : State} → Printed file a s → Printed file b t → (a ≡ b) × (s ≡ t)
  -- Rule 9.4: `not a session` is printed exactly if the first five bytes are not there or differ.
  pub not-a-session : (file : List ℕ) → (replay_text file ≡ not_a_session) ↔ (HasPreamble file → ⊥)
  -- Rules 9.2 and 9.6: of a file of bytes no record is refused by 1, and what is lent is right at
  -- its end.
  pub none-stopped : (file : List ℕ) → Bytes file → NoneStopped (file_run file).whole reset_state
  pub stays-right : (file : List ℕ) → Bytes file → LentRight (end_state file) reply_buffer
  pub over-long : (p : List ℕ) (s : State) → LentRight s reply_buffer → 512 < length p → OverLong p s
  pub example : replay_text example_file ≡ example_text
  pub cut-example : replay_text (take 18 example_file) ≡ cut_example_text
