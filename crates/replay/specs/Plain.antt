-- Rules 9.2 to 9.7: what the program does, with the numbers themselves. What a read answers and
-- puts into a window is free, and so is whether a write succeeds. It goes on with another read, is
-- at the file's end, can't read or can't write, which also stands for an output without room for a
-- line, or a record too many to be counted.
use Rattle.std.specs.Prelude.{ℕ, suc, ◌≤◌, ◌<◌, ◌≡◌, ◌⊎◌, min, List, [], ◌∷◌, ◌++◌, length, take, drop, Result, Ok, Err}
use Rattle.std.proofs.lemmas.List.Edits.{sets}
use Rattle.std_io.specs.declared.io.error.Error.{Error}
use Rattle.front_end.specs.State.{State}
use Rattle.replay.specs.declared.Way.{Way}
use Rattle.replay.specs.declared.Way.TheVariants.{More, Ended, Unreadable, Unwritable}
use Rattle.session_file.specs.Plain.{HasPreamble, Splits}
use Rattle.playback.specs.Plain.{Countable, Closes, Printed}

-- How many bytes a read gave, into a window with so much room: as many as it answered, none where it
-- failed.
abbrev pub count_of : Result ℕ Error → ℕ → ℕ
count_of (Ok n) room = min n room
count_of (Err e) room = 0

-- The bytes that a read gave, at the start of the window.
abbrev pub given : Result ℕ Error → List ℕ → List ℕ
given got window = take (count_of got (length window)) window

-- Rules 9.4 and 9.7: how it goes on behind a read, with these bytes read. A read that fails; one
-- that gives nothing, which is the file's end; and one that gives some: a file that is no session
-- need not be read to its end.
pub record GoesOn (got : Result ℕ Error) (bytes : List ℕ) (how : Way) : Type 0 where
  pub failed : {e : Error} → got ≡ Err e → how ≡ Unreadable
  pub ended : got ≡ Ok 0 → how ≡ Ended
  pub some : {k : ℕ} → got ≡ Ok (suc k) → (how ≡ More) ⊎ ((how ≡ Ended) × (HasPreamble bytes → ⊥))

-- So many reads, one after another while it goes on, each into a window with room, how it goes on
-- behind the last of them, and the bytes that they gave. Where a write failed it does not go on.
pub data Reads : ℕ → Way → List ℕ → Type 0 where
  none : Reads 0 More []
  next : {n : ℕ} {how : Way} {bytes : List ℕ} (got : Result ℕ Error) (window : List ℕ) → Reads n More bytes → 0 < length window
      → ((how ≡ Unwritable → ⊥) → GoesOn got (bytes ++ given got window) how) → Reads (suc n) how (bytes ++ given got window)

-- The last lines, with room for so many bytes: at the end of a file what is printed behind the last
-- record; nothing behind a write that failed; else `unreadable`. Fewer than 50 bytes are no room.
pub record LastText (how : Way) (room : ℕ) (closing text : List ℕ) : Type 0 where
  pub at-end : how ≡ Ended → 50 ≤ room → text ≡ closing
  pub unread : (how ≡ Ended → ⊥) → (how ≡ Unwritable → ⊥) → 50 ≤ room → text ≡ 117 ∷ 110 ∷ 114 ∷ 101 ∷ 97 ∷ 100 ∷ 97 ∷ 98 ∷ 108 ∷ 101 ∷ 10 ∷ []
  pub unwritten : (how ≡ Unwritable) ⊎ (room < 50) → text ≡ []

-- Rules 9.3 and 9.4: what closes the text of a file: `not a session`, or of its records the lines
-- behind the last.
pub data Closing (file : List ℕ) : List ℕ → Type 0 where
  other : (HasPreamble file → ⊥) → Closing file (110 ∷ 111 ∷ 116 ∷ 32 ∷ 97 ∷ 32 ∷ 115 ∷ 101 ∷ 115 ∷ 115 ∷ 105 ∷ 111 ∷ 110 ∷ 10 ∷ [])
  session : {packets : List (List ℕ)} {rest text : List ℕ} → HasPreamble file → Splits (drop 5 file) packets rest
      → Closes (length packets) (length rest) text → Closing file text

-- A run, from reset: how it stands, the state, and the output at its end.
pub record RunPlain (how : Way) (t : State) (out' : List ℕ) : Type 0 where
  pub count : ℕ
  pub bytes : List ℕ
  pub reads : Reads count how bytes
  -- There is no other reason to stop, but for 2^64 - 1 reads.
  pub stops : how ≡ More → count ≡ 18446744073709551615
  -- Unless a write failed, the state is that of the bytes read; what closes their text is
  -- `closing`.
  pub lines : List ℕ
  pub closing : List ℕ
  pub printed : (how ≡ Unwritable → ⊥) → Countable bytes → Printed bytes (lines ++ closing) t
  pub closes : Countable bytes → Closing bytes closing
  -- The last lines stand at the start of the output, which else is as it was.
  pub out : List ℕ
  pub text : List ℕ
  pub last : Countable bytes → LastText how (length out) closing text
  pub put : out' ≡ sets out 0 text
