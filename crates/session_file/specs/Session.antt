-- Rules 9.1 and 9.3: what the bytes of a session file are.
use Rattle.std.specs.Prelude.{ℕ, ◌+◌, ◌≡◌, ◌↔◌, Bool, cond, ◌&&◌, length, drop, get_or, eqb, leb, ltb}
use mathlib.Core.List.{List, [], ◌∷◌, ◌++◌, flatten}
use Rattle.wire.specs.Numbers.{word_at}
use Rattle.session_file.specs.Plain.{HasPreamble, Splits}

-- Rule 9.1: preamble and version.
abbrev pub preamble : List ℕ
preamble = 0x50 ∷ 0x4A ∷ 0x4C ∷ 1 ∷ 0 ∷ []

abbrev pub preamble_size : ℕ
preamble_size = 5

-- Rule 9.4: in place of a count of the preamble's bytes, where one of them is wrong.
abbrev pub spoiled : ℕ
spoiled = 6

-- What some bytes of a file hold, from its first on: how many bytes of the preamble, the packets of the whole records, and the bytes of the
-- record under way, its length among them.
pub record Run : Type 0 where
  pub matched : ℕ
  pub whole : List (List ℕ)
  pub under : List ℕ

abbrev pub run : ℕ → List (List ℕ) → List ℕ → Run
run matched whole under = record { matched = matched; whole = whole; under = under }

-- Rule 9.1: a record is its length in two bytes and that many more.
unfoldable pub is_whole : List ℕ → Bool
is_whole h = leb 2 (length h) && eqb (length h) (2 + word_at h 0)

-- Rule 9.1: the record under way has one more byte: when it is whole, its packet is what stands behind its length.
unfoldable pub recorded : List (List ℕ) → List ℕ → Run
recorded whole h = cond (is_whole h) (run preamble_size (whole ++ (drop 2 h ∷ [])) []) (run preamble_size whole h)

-- Rules 9.1 and 9.4: the next byte of the preamble is right, or the file is spoiled for good.
unfoldable pub matched_by : ℕ → ℕ → ℕ
matched_by matched b = cond (eqb b (get_or preamble matched 0)) (matched + 1) spoiled

-- One byte more of the file.
unfoldable pub grown : Run → ℕ → Run
grown r b =
    cond (eqb r.matched preamble_size) (recorded r.whole (r.under ++ (b ∷ [])))
    (cond (ltb r.matched preamble_size) (run (matched_by r.matched b) r.whole r.under) r)

-- More bytes of the file.
unfoldable pub taken : Run → List ℕ → Run
taken r [] = r
taken r (b ∷ bs) = taken (grown r b) bs

-- What a whole file holds.
abbrev pub start : Run
start = run 0 [] []

unfoldable pub file_run : List ℕ → Run
file_run file = taken start file

-- Rule 9.4: preamble and version are there.
abbrev pub is_session : List ℕ → Bool
is_session file = eqb (file_run file).matched preamble_size

-- ---- The same, apart from the reading byte by byte.

-- Rules 9.1, 9.3 and 9.4: a file is a session exactly if it begins with the preamble; its records and what is left of it are then the only ones that
-- the bytes behind the preamble split into.
pub record FileRead (file : List ℕ) : Type 0 where
  pub session : ((file_run file).matched ≡ 5) ↔ HasPreamble file
  pub splits : HasPreamble file → Splits (drop 5 file) (file_run file).whole (file_run file).under
  pub only : HasPreamble file → (packets : List (List ℕ)) (h : List ℕ) → Splits (drop 5 file) packets h
      → ((file_run file).whole ≡ packets) × ((file_run file).under ≡ h)
  -- Rule 9.4: of another file no record is taken.
  pub none : (HasPreamble file → ⊥) → (file_run file).whole ≡ []

-- Rule 9.6: windows, taken one after another, each where the one before it ended.
abbrev pub taken_all : Run → List (List ℕ) → Run
taken_all r [] = r
taken_all r (w ∷ ws) = taken_all (taken r w) ws

-- What holds of whole files, so that no one step's contract can carry it.
pub record Files : Type 0 where
  -- Rules 9.1, 9.3 and 9.4.
  pub read : (file : List ℕ) → FileRead file
  -- Rule 9.6: however a file is cut into windows, they leave what the whole file leaves.
  pub any-split : (ws : List (List ℕ)) → taken_all start ws ≡ file_run (flatten ws)
