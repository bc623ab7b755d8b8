-- Rules 9.5 and 9.6: a file read in windows, of which the record under way is kept in part.
use Rattle.std.specs.Prelude.{ℕ, ◌+◌, ◌-◌, ◌≤◌, ◌<◌, min, ◌≡◌, Bool, cond, ◌&&◌, ◌||◌, List, [], ◌∷◌, ◌++◌, length, take, drop, get_or, eqb, ltb, leb}
use Rattle.std.specs.Prelude.{Some, None}
use Rattle.std.proofs.Math.Seq.{paste}
use Rattle.wire.specs.Numbers.{word_at}
use Rattle.session_file.specs.declared.Preamble.{Preamble}
use Rattle.session_file.specs.declared.Preamble.TheVariants.{Matched, Spoiled}
use Rattle.session_file.specs.declared.Found.{Found}
use Rattle.session_file.specs.declared.Found.TheVariants.{Window, Kept}
use Rattle.session_file.specs.declared.Taken.{Taken}
use Rattle.session_file.specs.Session.{Run, taken, preamble, preamble_size, spoiled}
use Rattle.session_file.specs.Plain.{Cut}

-- Rule 9.5: what is kept of a record: its length and 513 bytes of its packet, which are enough to refuse a longer one.
abbrev pub packet_kept : ℕ
packet_kept = 513

abbrev pub kept_size : ℕ
kept_size = 515

-- The longest record, with its length.
abbrev pub most_record : ℕ
most_record = 65537

-- Rules 9.1 and 9.4: how many bytes of the preamble are there, as a run counts them.
abbrev pub matched_of : Preamble → ℕ
matched_of (Matched n) = n
matched_of Spoiled = spoiled

-- What a reader carries from window to window stands for a run: its numbers, and in the lent room the first bytes of the record under
-- way. What the room has behind them is free.
pub record ReaderStands (r : Run) (matched : Preamble) (have : ℕ) (kept : List ℕ) : Type 0 where
  pub preamble-bytes : matched_of matched ≡ r.matched
  pub record-bytes : have ≡ length r.under
  pub record-front : take (min have kept_size) kept ≡ take kept_size r.under
  pub record-cut : Cut r.under

-- The packet of a whole record, where it stands.
abbrev pub found : Found → List ℕ → List ℕ → List ℕ
found (Window start end) window kept = take (end - start) (drop start window)
found (Kept start end) window kept = take (end - start) (drop start kept)

abbrev pub Lies : Found → List ℕ → List ℕ → Type 0
Lies (Window start end) window kept = (start ≤ end) × (end ≤ length window)
Lies (Kept start end) window kept = (start ≤ end) × (end ≤ length kept)

-- A step takes at least a byte, stays in the window, and answers places that are there.
pub record Within (window : List ℕ) (t : Taken) (kept : List ℕ) : Type 0 where
  pub some : 0 < t.size
  pub inside : t.size ≤ length window
  pub have-most : t.have ≤ most_record
  pub lies : {f : Found} → t.found ≡ Some f → Lies f window kept

-- Rules 9.1, 9.5 and 9.6: the run has taken the front of the window. Either no record became whole, or one did, the last, and its packet, of which
-- no more than 513 bytes, is found.
pub record Went (r : Run) (window : List ℕ) (t : Taken) (kept : List ℕ) : Type 0 where
  pub stands : ReaderStands (taken r (take t.size window)) t.matched t.have kept
  pub none : t.found ≡ None → (taken r (take t.size window)).whole ≡ r.whole
  pub packet : List ℕ
  pub one : {f : Found} → t.found ≡ Some f → (taken r (take t.size window)).whole ≡ r.whole ++ (packet ∷ [])
  pub there : {f : Found} → t.found ≡ Some f → found f window kept ≡ take packet_kept packet

-- The step as a promise: whatever run the numbers and the room stood for, they stand for that run with the front of the window taken.
abbrev pub Follows : List ℕ → Preamble → ℕ → List ℕ → Taken → List ℕ → Type 0
Follows window matched have kept t after = (r : Run) → ReaderStands r matched have kept → Went r window t after

-- ---- The steps of the code, as equations.

-- Bytes were taken, and no record became whole.
abbrev pub nothing : ℕ → Preamble → ℕ → Taken
nothing size matched have = record { size = size; matched = matched; have = have; found = None }

-- Bytes were taken, and with them a record became whole.
abbrev pub whole_numbers : ℕ → Found → Taken
whole_numbers size f = record { size = size; matched = Matched preamble_size; have = 0; found = Some f }

-- Rules 9.1 and 9.4: the next byte of the preamble is right, or the file is spoiled for good.
unfoldable pub preamble_by : ℕ → ℕ → Preamble
preamble_by matched b = cond (eqb b (get_or preamble matched 0)) (Matched (matched + 1)) Spoiled

-- A record that lies whole in the window, of which so many bytes are its packet.
abbrev pub whole_record : ℕ → Taken
whole_record size = whole_numbers (2 + size) (Window 2 (2 + min size packet_kept))

-- How many bytes a record lacks, as far as is known: first those of its length. One that lacks none is none that a run has under way.
unfoldable pub lacking : ℕ → List ℕ → ℕ
lacking have kept =
    cond (ltb have 2) (2 - have) (cond (leb (2 + word_at kept 0) have) 1 (2 + word_at kept 0 - have))

abbrev pub taking : List ℕ → ℕ → List ℕ → ℕ
taking window have kept = min (lacking have kept) (length window)

-- Bytes are kept behind those that are, as far as there is room.
unfoldable pub kept_after : List ℕ → ℕ → List ℕ → List ℕ
kept_after kept have bytes = cond (ltb have kept_size) (paste kept have bytes (min (length bytes) (kept_size - have))) kept

-- With so many bytes the record is whole, or not.
abbrev pub is_cut : ℕ → List ℕ → Bool
is_cut have kept = ltb have 2 || ltb have (2 + word_at kept 0)

unfoldable pub after_taking : ℕ → ℕ → List ℕ → Taken
after_taking size have kept =
    cond (is_cut have kept) (nothing size (Matched preamble_size) have)
    (whole_numbers size (Kept 2 (min have kept_size)))

-- A record begins here, and lies whole in the window.
abbrev pub lies_whole : List ℕ → ℕ → Bool
lies_whole window have = eqb have 0 && leb (2 + word_at window 0) (length window)

-- Bytes of a record: one that lies whole in the window; else as many bytes as are known to be lacking.
unfoldable pub record_kept : List ℕ → ℕ → List ℕ → List ℕ
record_kept window have kept =
    cond (lies_whole window have) kept (kept_after kept have (take (taking window have kept) window))

unfoldable pub record_taken : List ℕ → ℕ → List ℕ → Taken
record_taken window have kept =
    cond (lies_whole window have) (whole_record (word_at window 0))
    (after_taking (taking window have kept) (have + taking window have kept) (kept_after kept have (take (taking window have kept) window)))

-- One step: a byte of the preamble; all of the window, where the preamble is wrong; else bytes of a record.
unfoldable pub next_kept : List ℕ → Preamble → ℕ → List ℕ → List ℕ
next_kept window matched have kept =
    cond (eqb (matched_of matched) preamble_size) (record_kept window have kept) kept

unfoldable pub next_taken : List ℕ → Preamble → ℕ → List ℕ → Taken
next_taken window matched have kept =
    cond (eqb (matched_of matched) preamble_size) (record_taken window have kept)
    (cond (ltb (matched_of matched) preamble_size) (nothing 1 (preamble_by (matched_of matched) (get_or window 0 0)) have)
    (nothing (length window) matched have))

-- A step: its answer and the room at its end; and what they promise.
pub record ReaderStep (window : List ℕ) (matched : Preamble) (have : ℕ) (kept : List ℕ) (t : Taken) (after : List ℕ) : Type 0 where
  pub within : Within window t after
  pub long : length after ≡ length kept
  pub follows : Follows window matched have kept t after
  pub answer : t ≡ next_taken window matched have kept
  pub room : after ≡ next_kept window matched have kept
