-- Rule 9.6: a file replayed in windows: what is carried from one to the next, and what each prints.
use Rattle.std.specs.Prelude.{ℕ, ◌+◌, ◌-◌, ◌≤◌, ◌<◌, ◌≡◌, ◌⊎◌, Option, Some, None, Bool, cond, ◌&&◌, List, [], ◌++◌, length, take, drop, leb, ltb}
use Rattle.std.proofs.lemmas.List.Edits.{sets}
use Rattle.text.specs.Text.{Puts}
use Rattle.front_end.specs.State.{State, reply_room}
use Rattle.front_end.specs.Step.{step}
use Rattle.session_file.specs.Session.{Run, taken}
use Rattle.session_file.specs.declared.Preamble.{Preamble}
use Rattle.session_file.specs.declared.Found.{Found}
use Rattle.session_file.specs.declared.Taken.{Taken}
use Rattle.session_file.specs.Windows.{kept_size, most_record, matched_of, found, next_taken, next_kept, ReaderStands}
use Rattle.playback.specs.declared.Progress.{Progress}
use Rattle.playback.specs.Replay.{line_of, lines, state_after_records, unreadable_line, closing, Formed}

-- Room for any line: two numbers, 512 bytes in hex, a blank and a newline.
abbrev pub line_room : ℕ
line_room = 1578

-- The most records that are counted.
abbrev pub most_records : ℕ
most_records = 18446744073709551615

abbrev pub progress : ℕ → ℕ → Preamble → ℕ → ℕ → Progress
progress at size matched number have =
    record { at = at; size = size; matched = matched; number = number; have = have }

-- The next window: nothing of it is taken, nothing of the output filled.
abbrev pub begun : Progress → Progress
begun p = progress 0 0 p.matched p.number p.have

-- What is carried stands for a run, replayed from a state: the reader's part, the count of whole
-- records, and the state that they left.
pub record ReplayStands (first : State) (r : Run) (p : Progress) (kept : List ℕ) (s : State) : Type 0 where
  pub reader : ReaderStands r p.matched p.have kept
  pub number : p.number ≡ length r.whole
  pub state : s ≡ state_after_records r.whole first

-- The bytes taken from the window have taken the run on, and the text is that of the records that
-- became whole by them.
pub record Followed (first : State) (r : Run) (bytes : List ℕ) (p : Progress) (kept : List ℕ) (s : State) (text : List ℕ) : Type 0 where
  pub stands : ReplayStands first (taken r bytes) p kept s
  pub printed : lines 0 (taken r bytes).whole first ≡ lines 0 r.whole first ++ text

-- The part of a window between two places.
abbrev pub part : List ℕ → ℕ → ℕ → List ℕ
part window at end = take (end - at) (drop at window)

-- From one place in the window to another: some text was put behind what the output had. Whatever
-- run, and from whatever state, the arguments stood for, what is left stands for that run with the
-- bytes taken, and the text is theirs. So windows of any split print the text of the whole.
pub record Replayed (window : List ℕ) (from : Progress) (kept : List ℕ) (s : State) (out : List ℕ)
    (p : Progress) (kept' : List ℕ) (s' : State) (out' : List ℕ) : Type 0 where
  pub text : List ℕ
  pub put : Puts from.size text out out' p.size
  pub formed : Formed from.number text p.number
  pub follows : (first : State) (r : Run) → ReplayStands first r from kept s → Followed first r (part window from.at p.at) p kept' s' text

-- Bytes of the window are left only where the output has no room for another line, or the count of
-- records is at its end.
abbrev pub Full : Progress → List ℕ → Type 0
Full p out = (length out < p.size + line_room) ⊎ (most_records ≤ p.number)

-- Whether a line more can be printed and counted.
abbrev pub has_room : ℕ → ℕ → List ℕ → Bool
has_room size number out = leb (size + line_room) (length out) && ltb number most_records

-- The rooms that a replay is lent are long enough, and no more bytes are said to be under way than
-- a record has.
pub record RoomsEnough (kept reply : List ℕ) (have : ℕ) : Type 0 where
  pub for-record : kept_size ≤ length kept
  pub for-reply : reply_room ≤ length reply
  pub for-have : have ≤ most_record

abbrev pub rooms_right : List ℕ → List ℕ → ℕ → Bool
rooms_right kept reply have = leb kept_size (length kept) && leb reply_room (length reply) && leb have most_record

-- Rooms that are too short: nothing is taken, and all is as it was.
pub record Refused (from : Progress) (kept : List ℕ) (s : State) (reply out : List ℕ)
    (p : Progress) (kept' : List ℕ) (s' : State) (reply' out' : List ℕ) : Type 0 where
  pub progress-same : p ≡ begun from
  pub kept_same : kept' ≡ kept
  pub state-same : s' ≡ s
  pub reply-same : reply' ≡ reply
  pub out-same : out' ≡ out

-- All that a replay carries and is lent, in the midst of a window.
pub record Going : Type 0 where
  pub now : Progress
  pub kept : List ℕ
  pub state : State
  pub reply : List ℕ
  pub out : List ℕ

abbrev pub going : Progress → List ℕ → State → List ℕ → List ℕ → Going
going now kept s reply out = record { now = now; kept = kept; state = s; reply = reply; out = out }

-- The reader took some bytes.
abbrev pub read_on : Going → Taken → List ℕ → Going
read_on g t kept =
    going (progress (g.now.at + t.size) g.now.size t.matched g.now.number t.have) kept g.state g.reply g.out

-- Rule 9.2: a record's packet goes to the front end, which writes over the reply buffer, and its
-- line stands behind what the output had.
abbrev pub line_now : List ℕ → Going → List ℕ
line_now packet g = line_of (g.now.number + 1) (step packet g.state g.reply)

abbrev pub answer_of : List ℕ → Going → Going
answer_of packet g =
    going
    (progress g.now.at (g.now.size + length (line_now packet g)) g.now.matched (g.now.number + 1) g.now.have)
    g.kept (step packet g.state g.reply).state (step packet g.state g.reply).reply
    (sets g.out g.now.size (line_now packet g))

-- One turn: a step of the reader on what is left of the window, and the answer to a record that became whole by it.
unfoldable pub answer_found : List ℕ → Option Found → Going → Going
answer_found rest None g = g
answer_found rest (Some f) g = answer_of (found f rest g.kept) g

abbrev pub turn_by : List ℕ → Going → Taken → List ℕ → Going
turn_by rest g t kept = answer_found rest t.found (read_on g t kept)

unfoldable pub turn_of : List ℕ → Going → Going
turn_of window g =
    let rest = drop g.now.at window in
    turn_by rest g (next_taken rest g.now.matched g.now.have g.kept) (next_kept rest g.now.matched g.now.have g.kept)

-- Turn after turn, and it stops at the first place where the window is used up, the output has no
-- room for another line, or the count of records is at its end.
pub data WindowTurns (window : List ℕ) : Going → Going → Type 0 where
  stops : {g : Going} → (length window ≤ g.now.at) ⊎ Full g.now g.out → WindowTurns window g g
  goes : {g h : Going} → g.now.at < length window → g.now.size + 1578 ≤ length g.out → g.now.number < 18446744073709551615
      → WindowTurns window (turn_of window g) h → WindowTurns window g h

-- A window replayed: all of it, unless the output is full. `turns` and `refused` leave one outcome,
-- whatever the arguments stand for.
pub record WindowReplayed (window : List ℕ) (from : Progress) (kept : List ℕ) (s : State) (reply out : List ℕ)
    (p : Progress) (kept' : List ℕ) (s' : State) (reply' out' : List ℕ) : Type 0 where
  pub replayed : Replayed window (begun from) kept s out p kept' s' out'
  pub inside : p.at ≤ length window
  pub filled : p.size ≤ length out'
  pub rest : RoomsEnough kept reply from.have → p.at < length window → Full p out'
  pub have-most : RoomsEnough kept reply from.have → p.have ≤ most_record
  pub turns : RoomsEnough kept reply from.have → WindowTurns window (going (begun from) kept s reply out) (going p kept' s' reply' out')
  pub refused : (RoomsEnough kept reply from.have → ⊥) → Refused from kept s reply out p kept' s' reply' out'

-- Bytes have taken a replay on: whatever run, and from whatever state, what was carried stood for,
-- what is carried now stands for that run with them.
pub record Carries (bytes : List ℕ) (from : Progress) (kept : List ℕ) (s : State) (p : Progress) (kept' : List ℕ) (s' : State) : Type 0 where
  pub stands : (first : State) (r : Run) → ReplayStands first r from kept s → ReplayStands first (taken r bytes) p kept' s'

-- Room for the lines behind the last record, and for the first of them.
abbrev pub closing_room : ℕ
closing_room = 50

abbrev pub cut_room : ℕ
cut_room = 25

-- What is printed behind the last record: nothing without room, or with the count of records at its
-- end.
abbrev pub closing_text : Progress → List ℕ → List ℕ
closing_text p out =
    cond (leb closing_room (length out) && ltb p.number most_records) (closing (matched_of p.matched) p.number p.have) []

-- Rule 9.7: what is printed where no more can be read: nothing without room.
abbrev pub unreadable_text : List ℕ → List ℕ
unreadable_text out = cond (leb closing_room (length out)) unreadable_line []

-- ---- The steps of the code.

-- One record's packet: to the front end, and its line behind what the output had.
pub record Answered (packet : List ℕ) (q : Progress) (s : State) (reply out : List ℕ) (p : Progress) (s' : State) (reply' out' : List ℕ) : Type 0 where
  pub state : s' ≡ (step packet s reply).state
  pub buffer : reply' ≡ (step packet s reply).reply
  pub put : Puts q.size (line_of (q.number + 1) (step packet s reply)) out out' p.size
  pub formed : Formed q.number (line_of (q.number + 1) (step packet s reply)) (q.number + 1)
  pub number : p.number ≡ q.number + 1
  pub at : p.at ≡ q.at
  pub matched : p.matched ≡ q.matched
  pub have : p.have ≡ q.have
  pub fits : p.size ≤ q.size + line_room

-- A turn takes a byte at least, and stays inside what is lent.
pub record Turned (window : List ℕ) (from : Progress) (kept : List ℕ) (s : State) (reply out : List ℕ)
    (p : Progress) (kept' : List ℕ) (s' : State) (reply' out' : List ℕ) : Type 0 where
  pub outcome : going p kept' s' reply' out' ≡ turn_of window (going from kept s reply out)
  pub replayed : Replayed window from kept s out p kept' s' out'
  pub some : from.at < p.at
  pub inside : p.at ≤ length window
  pub filled : p.size ≤ length out
  pub have-most : p.have ≤ most_record
