-- Rules 11.1, 11.2 and 11.4: the row mark in the block, what an accepted write does to it, as a pass behind what its command does, and what is told of it. The pass goes
-- by the shape, the old mark and the two maps alone, as the command leaves them.
use Rattle.std.specs.Prelude.{ℕ, ◌+◌, ◌-◌, ◌/◌, Bool, false, cond, ◌&&◌, ◌||◌, List, [], ◌∷◌, length, replicate, eqb}
use Rattle.std.proofs.Math.Seq.{paste}
use Rattle.wire.specs.Numbers.{byte_at, long_at}
use Rattle.wire.specs.Tables.{long_bytes}
use Rattle.packet.specs.Points.{start_of, count_of}
use Rattle.row_mark.specs.Bits.{bits_of, of_bits, count_true, first_true}
use Rattle.row_mark.specs.Rows.{mark_rows, row_moved, right_mark, refreshed}
use Rattle.settings.specs.Layout.{block_size, staged_shape, columns_at, rows_at, mark_place, mark_size}
use Rattle.front_end.specs.State.{State, state}
use Rattle.front_end.specs.Commands.{written}

-- Rule 11.1: the mark as it lies, low byte first, and as a list of its bits; and the four bytes of one.
abbrev pub mark_at : List ℕ → ℕ
mark_at block = long_at block mark_place

abbrev pub mark_bits : List ℕ → List Bool
mark_bits block = bits_of mark_rows (mark_at block)

abbrev pub mark_bytes : List Bool → List ℕ
mark_bytes mark = long_bytes (of_bits mark ∷ [])

-- Rule 11.2: the first and the last row that hold points of a 34h write, in a shape of so many columns.
abbrev pub first_touched : ℕ → List ℕ → ℕ
first_touched columns d = start_of d / columns

abbrev pub last_touched : ℕ → List ℕ → ℕ
last_touched columns d = (start_of d + count_of d - 1) / columns

-- Rule 11.2: the mark that an accepted write puts, where it changes the mark (`marks`): of 34h with the bits of its rows worked out, of 35h with all of them, of 36h
-- without any.
unfoldable pub mark_after : ℕ → List ℕ → ℕ → ℕ → List ℕ → List ℕ → List Bool → List Bool
mark_after op d columns rows staged live mark =
    cond (eqb op 0x34)
    (refreshed (row_moved columns rows staged live) (first_touched columns d) (last_touched columns d + 1 - first_touched columns d) mark)
    (cond (eqb op 0x35) (right_mark columns rows staged live) (replicate mark_rows false))

-- Rule 11.2: these alone write the mark; of 36h the value 1.
abbrev pub marks : ℕ → List ℕ → Bool
marks op d = eqb op 0x34 || eqb op 0x35 || (eqb op 0x36 && eqb (byte_at d 0) 1)

-- The block with another mark.
abbrev pub with_mark : List Bool → List ℕ → List ℕ
with_mark mark block = paste block mark_place (mark_bytes mark) mark_size

unfoldable pub marked_block : ℕ → List ℕ → List ℕ → List ℕ → List ℕ → List ℕ
marked_block op d block staged live =
    cond (marks op d)
    (with_mark (mark_after op d (columns_at block staged_shape) (rows_at block staged_shape) staged live (mark_bits block)) block)
    block

-- The pass.
abbrev pub marked : ℕ → List ℕ → State → State
marked op d s = state (marked_block op d s.block s.staged s.live) s.staged s.live s.gains

-- The state after an accepted write: what its command does, and then the mark.
abbrev pub written_marked : ℕ → List ℕ → State → State
written_marked op d s = marked op d (written op d s)

-- Rule 11.4: how many rows are marked and the lowest of them, of the mark as it lies; a wrong length is refusal 1.
pub record RowsOut : Type 0 where
  pub status : ℕ
  pub count : ℕ
  pub lowest : ℕ

abbrev pub rows_out : ℕ → ℕ → ℕ → RowsOut
rows_out status count lowest = record { status = status; count = count; lowest = lowest }

-- Rule 11.4.
unfoldable pub rows_told : List ℕ → RowsOut
rows_told block = cond (eqb (length block) block_size) (rows_out 0 (count_true (mark_bits block)) (first_true (mark_bits block))) (rows_out 1 0 0)
