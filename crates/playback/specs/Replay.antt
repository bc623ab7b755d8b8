-- Rules 9.2 to 9.6: the text of a replay, and its end state, as functions of the file's bytes.
use Rattle.std.specs.Prelude.{ℕ, ◌+◌, ◌≤◌, cond, List, [], ◌∷◌, ◌++◌, length, take, replicate, eqb}
use Rattle.text.specs.Text.{blank, newline, decimal, hex}
use Rattle.text.specs.Plain.{Decimal, Hex}
use Rattle.front_end.specs.State.{State, reply_room, reset_state}
use Rattle.front_end.specs.Step.{Out, step}
use Rattle.front_end.specs.Calls.{calls_of, state_after_all}
use Rattle.session_file.specs.Session.{Run, preamble_size, file_run}

-- The reply buffer of each record, as long as one must be.
unfoldable pub reply_buffer : List ℕ
reply_buffer = replicate reply_room 0

-- Rule 9.2: number, status, reply.
unfoldable pub line : ℕ → ℕ → List ℕ → List ℕ
line number status reply =
    decimal number ++ (blank ∷ []) ++ decimal status ++ hex reply ++ (newline ∷ [])

abbrev pub line_of : ℕ → Out → List ℕ
line_of number o = line number o.status (take o.size o.reply)

-- Rule 9.2: a line a record, each on the state that the one before it left; so many records came
-- before.
unfoldable pub lines : ℕ → List (List ℕ) → State → List ℕ
lines before [] s = []
lines before (p ∷ ps) s =
    line_of (before + 1) (step p s reply_buffer) ++ lines (before + 1) ps (step p s reply_buffer).state

-- Rule 9.6: the state that records leave, one after another.
abbrev pub state_after_records : List (List ℕ) → State → State
state_after_records ps s = state_after_all (calls_of reply_buffer ps) s

-- Rule 9.3: ` cut`, a newline, and `end `.
abbrev pub cut_word : List ℕ
cut_word = 32 ∷ 99 ∷ 117 ∷ 116 ∷ 10 ∷ []

abbrev pub end_word : List ℕ
end_word = 101 ∷ 110 ∷ 100 ∷ 32 ∷ []

-- Rule 9.3: a record of which some bytes are there is cut; then the count of whole records.
abbrev pub cut_text : ℕ → ℕ → List ℕ
cut_text number have = cond (eqb have 0) [] (decimal (number + 1) ++ cut_word)

abbrev pub end_line : ℕ → List ℕ
end_line number = end_word ++ decimal number ++ (newline ∷ [])

-- Rule 9.4: `not a session`.
abbrev pub not_a_session : List ℕ
not_a_session =
    110 ∷ 111 ∷ 116 ∷ 32 ∷ 97 ∷ 32 ∷ 115 ∷ 101 ∷ 115 ∷ 115 ∷ 105 ∷ 111 ∷ 110 ∷ 10 ∷ []

-- Rule 9.7: `unreadable`, and a newline.
abbrev pub unreadable_line : List ℕ
unreadable_line =
    117 ∷ 110 ∷ 114 ∷ 101 ∷ 97 ∷ 100 ∷ 97 ∷ 98 ∷ 108 ∷ 101 ∷ 10 ∷ []

-- Rules 9.3 and 9.4: what is printed at the end of the file: so many bytes of the preamble, whole
-- records, and bytes of the last one.
unfoldable pub closing : ℕ → ℕ → ℕ → List ℕ
closing matched number have =
    cond (eqb matched preamble_size) (cut_text number have ++ end_line number) not_a_session

-- Rules 9.2 to 9.4: all that is printed of a file.
unfoldable pub text_of : Run → State → List ℕ
text_of r s = lines 0 r.whole s ++ closing r.matched (length r.whole) (length r.under)

unfoldable pub replay_text : List ℕ → List ℕ
replay_text file = text_of (file_run file) reset_state

-- Rule 9.6: the end state.
unfoldable pub end_state : List ℕ → State
end_state file = state_after_records (file_run file).whole reset_state

-- ---- The form of the lines, apart from how they are made.

-- Rule 9.2: from one count of records to another, a line for each: its number, a status of at most
-- 12, and bytes in hex.
pub data Formed : ℕ → List ℕ → ℕ → Type 0 where
  none : {n : ℕ} → Formed n [] n
  next : {n m status : ℕ} {reply a b c rest : List ℕ} → Decimal (n + 1) a → Decimal status b → status ≤ 12 → Hex reply c
      → Formed (n + 1) rest m → Formed n (a ++ (32 ∷ []) ++ b ++ c ++ (10 ∷ []) ++ rest) m
