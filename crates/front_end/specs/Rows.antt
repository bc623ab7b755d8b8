-- What is promised of the row mark, section 11, with every place as a number: when it is right,
-- what each packet does to it, and what it means that nothing else depends on it. Said apart from
-- the pass by which the front end goes (Mark).
use Rattle.std.specs.Prelude.{ℕ, ◌+◌, ◌-◌, ◌*◌, ◌/◌, ◌<◌, ◌≡◌, ◌↔◌, List, length, take, drop, get_or, Option, Some, None, Result, Ok, Err}
use Rattle.std.specs.Int.Count.{ones, count_trailing_zeros}
use Rattle.wire.specs.declared.refusal.Refusal.{Refusal}
use Rattle.wire.specs.declared.refusal.Refusal.TheVariants.{LentWrong}
use Rattle.wire.specs.Numbers.{word_at}
use Rattle.opcode.specs.Allowed.{two}
use Rattle.packet.specs.Frame.{data_of}
use Rattle.row_mark.specs.Bits.{bit_at}
use Rattle.row_mark.specs.Right.{Moved, RightFor, Touches}
use Rattle.front_end.specs.declared.mark.RowCount.{RowCount}
use Rattle.front_end.specs.State.{State}
use Rattle.front_end.specs.Step.{Out}
use Rattle.front_end.specs.Writes.{Writes, Applies}

-- ---- Rule 11.1: a right mark.

-- Block bytes 865 to 868, low byte first.
abbrev pub mark_of : List ℕ → ℕ
mark_of block = two (get_or block 865 0) (get_or block 866 0) + 65536 * two (get_or block 867 0) (get_or block 868 0)

-- These are bytes.
abbrev pub MarkBytes : List ℕ → Type 0
MarkBytes block = (k : ℕ) → k < 4 → get_or block (865 + k) 0 < 256

-- The staged shape, block bytes 9 to 12.
abbrev pub columns_of : List ℕ → ℕ
columns_of block = two (get_or block 9 0) (get_or block 10 0)

abbrev pub rows_of : List ℕ → ℕ
rows_of block = two (get_or block 11 0) (get_or block 12 0)

-- A row of the staged shape has moved; its bit is right if it is set exactly then; the mark is if
-- each of its bits is.
abbrev pub RowMoved : State → ℕ → Type 0
RowMoved s r = Moved (columns_of s.block) (rows_of s.block) s.staged s.live r

abbrev pub RowRight : State → ℕ → Type 0
RowRight s r = (bit_at (mark_of s.block) r ≡ 1) ↔ RowMoved s r

abbrev pub MarkRight : State → Type 0
MarkRight s = RightFor (columns_of s.block) (rows_of s.block) s.staged s.live (mark_of s.block)

-- ---- Rules 11.2 and 11.3: what a packet does to it.

-- The rows that a 34h packet touches, in a shape of so many columns: behind its start it has four
-- bytes a point.
abbrev pub TouchedBy : ℕ → List ℕ → ℕ → Type 0
TouchedBy columns p r = Touches columns (word_at (data_of p) 0) ((length (data_of p) - 2) / 4) r

pub record RowsMarked (p : List ℕ) (s : State) (o : Out) : Type 0 where
  -- Rule 11.3: a mark that is right before any packet is right after it; so is each bit of it.
  pub right : MarkRight s → MarkRight o.state
  pub row-right : (r : ℕ) → r < 32 → RowRight s r → RowRight o.state r
  -- Rule 11.2: whatever the mark was, a 34h write leaves the bits of the rows that it touches
  -- right, and no other bit changed.
  pub touched : Writes 0x34 p o → (r : ℕ) → TouchedBy (columns_of s.block) p r → RowRight o.state r
  pub untouched : Writes 0x34 p o → (r : ℕ) → r < 32 → (TouchedBy (columns_of s.block) p r → ⊥) → bit_at (mark_of o.state.block) r ≡ bit_at (mark_of s.block) r
  -- A 35h write leaves all of it right.
  pub reshaped : Writes 0x35 p o → MarkRight o.state
  -- A 36h write of 1 clears it.
  pub cleared : Applies p o → mark_of o.state.block ≡ 0
  -- No other packet changes a byte of it, and no read and no refusal.
  pub kept : (Writes 0x34 p o → ⊥) → (Writes 0x35 p o → ⊥) → (Applies p o → ⊥) → take 4 (drop 865 o.state.block) ≡ take 4 (drop 865 s.block)

-- ---- Rule 11.5: nothing but the mark depends on it.

-- States that differ in the four bytes of the mark alone, if at all.
pub record SameButMark (s t : State) : Type 0 where
  pub long : length s.block ≡ length t.block
  pub settings : take 865 s.block ≡ take 865 t.block
  pub behind : drop 869 s.block ≡ drop 869 t.block
  pub staged : s.staged ≡ t.staged
  pub live : s.live ≡ t.live
  pub gains : s.gains ≡ t.gains

-- The same answer, with such states.
pub record SameAnswer (o q : Out) : Type 0 where
  pub status : o.status ≡ q.status
  pub fault-place : o.fault-place ≡ q.fault-place
  pub size : o.size ≡ q.size
  pub reply : o.reply ≡ q.reply
  pub state : SameButMark o.state q.state

-- ---- Rule 11.4: what is told of a mark.

pub record RowsPlain (block : List ℕ) (status count lowest : ℕ) : Type 0 where
  -- The block alone is judged, by its length.
  pub accepted : length block ≡ 1024 → status ≡ 0
  pub wrong-length : (length block ≡ 1024 → ⊥) → (status ≡ 1) × (count ≡ 0) × (lowest ≡ 0)
  -- The set bits of the number, and the zeros below the lowest of them.
  pub marked : length block ≡ 1024 → count ≡ ones (mark_of block)
  pub lowest-marked : length block ≡ 1024 → lowest ≡ count_trailing_zeros 32 (mark_of block)

-- Rule 11.4: how many rows are marked, and the lowest of them if there is one.
abbrev pub row_count : ℕ → Option ℕ → RowCount
row_count count lowest = record { count = count; lowest = lowest }

-- Rule 11.4: the code's answer, whole. By `RowsPlain` no lowest row is 32; here it is none.
pub record RowsAnswerPlain (block : List ℕ) (r : Result RowCount Refusal) : Type 0 where
  pub wrong-length : (length block ≡ 1024 → ⊥) → r ≡ Err LentWrong
  pub none-marked : length block ≡ 1024 → mark_of block ≡ 0 → r ≡ Ok (row_count 0 None)
  pub some-marked : length block ≡ 1024 → (mark_of block ≡ 0 → ⊥)
      → r ≡ Ok (row_count (ones (mark_of block)) (Some (count_trailing_zeros 32 (mark_of block))))
