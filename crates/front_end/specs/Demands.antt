-- What is demanded of one packet on a state, of whatever an entry answers and leaves (`Out`).
-- `Handled` stands in the contracts of the entries: the equation; the plain promise, which alone
-- determines the outcome; and what follows from it for replies, ranges, the live side, bytes
-- without a meaning and planning.
use Rattle.std.specs.Prelude.{ℕ, ◌+◌, ◌≤◌, ◌≡◌, ◌↔◌, true, List, length, take, drop, get_or, set, eqb}
use Rattle.std.specs.Prelude.{Result, Ok, Err, IfOk}
use Rattle.std.specs.Option.{unwrap_or}
use Rattle.wire.specs.declared.refusal.Refusal.{Refusal}
use Rattle.wire.specs.Refusals.{number_of}
use Rattle.wire.specs.Numbers.{word_at}
use Rattle.opcode.specs.Options.{has_checksum, is_read}
use Rattle.packet.specs.Frame.{header_of}
use Rattle.packet.specs.Points.{accepted_at, map_after}
use Rattle.packet.specs.Sound.{Taken}
use Rattle.reply.specs.Reading.{reply_reading}
use Rattle.row_mark.specs.Bits.{first_set}
use Rattle.row_mark.specs.Right.{RightFor, RowsCounted}
use Rattle.settings.specs.Allowed.{SettingsAllowed}
use Rattle.front_end.specs.State.{State, state, ResetOut, reset}
use Rattle.front_end.specs.Writes.{Writes, Sets36, Applies}
use Rattle.front_end.specs.Rows.{mark_of, columns_of, rows_of, MarkRight, SameButMark, SameAnswer, RowsPlain, RowsAnswerPlain}
use Rattle.front_end.specs.declared.mark.RowCount.{RowCount}
use Rattle.front_end.specs.Mark.{mark_bits, RowsOut, rows_out, rows_told}
use Rattle.front_end.specs.Plain.{StateLent, LentRight, staged_points, WithinTable, Asks, StepPlain, ResetPlain}
use Rattle.front_end.specs.Step.{reply_data, Out, step}

-- ---- Demand 2: which packets are accepted.

-- Rules 2.1 to 5.9 and 5.11: when a packet is accepted: what is lent is right, its frame is sound
-- and meant for us, its data is allowed, and its start and count lie within their table.
pub record Accepted (p : List ℕ) (s : State) (reply : List ℕ) : Type 0 where
  pub lent : LentRight s reply
  pub taken : Taken p
  pub placed : WithinTable p s.block

-- ---- The reply.

-- Rules 3.2, 3.3, 3.6 and 4.6: one is written exactly if it is asked for and the number is not 1;
-- that of a refusal, and of an accepted write, is the head alone, and a checksum if there is one,
-- but that of 10 has the place in two bytes between them; and it reads back as it was meant: its
-- status, and its data.
pub record Replied (p : List ℕ) (s : State) (o : Out) : Type 0 where
  pub asked : (1 ≤ o.size) ↔ (Asks p × (o.status ≡ 1 → ⊥))
  pub bare : (o.status ≡ 0 → is_read (header_of p) ≡ 0) → (o.status ≡ 10 → ⊥) → 1 ≤ o.size → o.size ≡ 3 + has_checksum (header_of p)
  pub names : o.status ≡ 10 → 1 ≤ o.size → (o.size ≡ 5 + has_checksum (header_of p)) × (word_at o.reply 3 ≡ o.fault-place)
  pub means : 1 ≤ o.size
      → reply_reading (take o.size o.reply) (eqb (has_checksum (header_of p)) 1)
      ≡ record { number = 0; status = o.status; place = 3; size = length (reply_data o.status o.fault-place p s) }
  pub content : 1 ≤ o.size
      → take (length (reply_data o.status o.fault-place p s)) (drop 3 (take o.size o.reply)) ≡ reply_data o.status o.fault-place p s

-- ---- 36h, rule 5.6: the live side is the points, and the shape, mode and lists in the block; enable stands before it.

-- Rule 5.6: 1 makes the staged side of that moment live, and enable is 1.
pub record Applied (s t : State) : Type 0 where
  pub points-live : t.live ≡ s.staged
  pub settings-live : take 193 (drop 202 t.block) ≡ take 193 (drop 8 s.block)
  pub enabled : get_or t.block 201 0 ≡ 1

-- Rule 5.6: 0 clears enable alone.
abbrev pub cleared : State → State
cleared s = state (set s.block 201 0) s.staged s.live s.gains

-- Rule 5.6: any packet but a 1 leaves the live side.
pub record LiveKept (s t : State) : Type 0 where
  pub points_kept : s.live ≡ t.live
  pub settings-kept : take 193 (drop 202 s.block) ≡ take 193 (drop 202 t.block)

-- ---- 34h, rules 5.4 and 7.1: the judge of lists and the front end go by one write.

-- Rules 5.4 and 7.1: the staged points stand where the judge has a map of N points.
pub record SameWrite (p : List ℕ) (s : State) (o : Out) : Type 0 where
  pub staged : o.state.staged ≡ map_after (staged_points s.block) p s.staged
  pub accepted : (accepted_at (staged_points s.block) p ≡ true) ↔ Writes 0x34 p o

-- ---- The promise of the entries, on tables of numbers.

pub record Handled (p : List ℕ) (s : State) (reply : List ℕ) (o : Out) : Type 0 where
  pub outcome : o ≡ step p s reply
  -- Demands 1 and 2, apart from the tests and the definitions of commands: this alone determines
  -- the outcome.
  pub plain : StepPlain p s reply o
  -- Demand 2: accepted exactly if the rules allow it.
  pub exactly : (o.status ≡ 0) ↔ Accepted p s reply
  -- Rule 4.2: the reply buffer changes only where the reply is written.
  pub behind : drop o.size o.reply ≡ drop o.size reply
  pub reply-meant : Replied p s o
  -- What was lent right is left so, each setting in its range.
  pub stays : LentRight s reply → LentRight o.state o.reply
  -- Rule 1.4: block bytes without a meaning are as they were.
  pub tail : drop 869 o.state.block ≡ drop 869 s.block
  pub applied : Applies p o → Applied s o.state
  pub cleared_by : Sets36 0 p o → o.state ≡ cleared s
  pub live : (Applies p o → ⊥) → LiveKept s o.state
  pub same_write : LentRight s reply → SameWrite p s o
  -- Rule 11.5: on a state that has another mark, and is else the same, the answer, the reply and
  -- all but the mark are the same.
  pub unmarked : (t : State) → SameButMark s t → SameAnswer o (step p t reply)

-- Rule 5.10: the whole block and all tables if the lengths are right, and what it leaves is in
-- range; else 1, and all as it was.
pub record Resets (s : State) (o : ResetOut) : Type 0 where
  pub outcome : o ≡ reset s
  -- Byte by byte and number by number: this alone determines the outcome.
  pub plain : ResetPlain s o
  pub exactly : (o.status ≡ 0) ↔ StateLent s
  pub in-range : o.status ≡ 0 → SettingsAllowed o.state.block
  -- Rules 11.2 and 11.3: no row is marked, which is right.
  pub mark-after : o.status ≡ 0 → (mark_of o.state.block ≡ 0) × MarkRight o.state

-- Rule 11.4: what is told of the row mark.
pub record RowsPromised (block : List ℕ) (status count lowest : ℕ) : Type 0 where
  pub outcome : rows_out status count lowest ≡ rows_told block
  pub plain : RowsPlain block status count lowest
  -- Of a right mark they are those of the rows that moved.
  pub moved : status ≡ 0 → (staged live : List ℕ) → RightFor (columns_of block) (rows_of block) staged live (mark_of block)
      → RowsCounted (columns_of block) (rows_of block) staged live count lowest

-- Rule 11.4: the same of the code's answer, with 32 for no lowest row; there is none exactly where
-- no row is marked.
abbrev pub counted : Result RowCount Refusal → RowsOut
counted (Ok rows) = rows_out 0 rows.count (unwrap_or rows.lowest 32)
counted (Err why) = rows_out (number_of why) 0 0

-- Rule 11.4: what is promised of the code's answer.
pub record RowsTold (block : List ℕ) (r : Result RowCount Refusal) : Type 0 where
  pub promised : RowsPromised block (counted r).status (counted r).count (counted r).lowest
  -- This alone determines the answer.
  pub plain : RowsAnswerPlain block r
  pub lowest : IfOk r (λ (rows : RowCount). rows.lowest ≡ first_set (mark_bits block))
