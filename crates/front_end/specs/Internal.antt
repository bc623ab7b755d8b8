-- What only functions inside the library need, and no rule: what a command names of a table, and what is known of a command once it has been accepted, its data judged right,
-- its start and count fitting, and the block in range.
use Rattle.std.specs.Prelude.{ℕ, ◌+◌, ◌-◌, ◌*◌, ◌^◌, ◌≤◌, ◌<◌, ◌≡◌, Bool, true, false, cond, List, length, eqb}
use Rattle.std.specs.Prelude.{Option, Some, None, is_some, IfSome}
use Rattle.wire.specs.First.{first}
use Rattle.wire.specs.Numbers.{byte_at, word_at}
use Rattle.opcode.specs.Options.{is_read}
use Rattle.opcode.specs.Judgement.{judgement}
use Rattle.packet.specs.Points.{start_of, points_of, count_of}
use Rattle.row_mark.specs.Bits.{bits_of}
use Rattle.row_mark.specs.Rows.{mark_rows, row_differs, refreshed}
use Rattle.settings.specs.Layout.{block_size, staged_shape, columns_at, rows_at}
use Rattle.settings.specs.Ranges.{settings_right}
use Rattle.settings.specs.Reset.{map_size, gains_size}
use Rattle.front_end.specs.declared.Points.{Points}
use Rattle.front_end.specs.declared.Gains.{Gains}
use Rattle.front_end.specs.declared.mark.Fresh.{Fresh}
use Rattle.front_end.specs.Mark.{mark_at, mark_bits, first_touched, last_touched, mark_after, marks}
use Rattle.front_end.specs.Commands.{points, point_count, gains_colour, gains_start, word_count, gains_count, gains_place, runs_past, third, gains_sent}

-- What a 34h command names, of a read's data or a write's; no sum of it can wrap.
pub record PointsNamed (reads : Bool) (d : List ℕ) (r : Points) : Type 0 where
  pub start : r.start ≡ start_of d
  pub count : r.count ≡ point_count reads d
  pub start_small : r.start < 65536
  pub count_small : r.count < 2 ^ 63

-- What a 2Bh command names.
pub record GainsNamed (reads : Bool) (d : List ℕ) (r : Gains) : Type 0 where
  pub colour : r.colour ≡ gains_colour reads d
  pub start : r.start ≡ gains_start reads d
  pub count : r.count ≡ word_count reads d
  pub place : r.place ≡ gains_place reads d
  pub start_small : r.start < 65536
  pub count_small : r.count < 65536

pub record Granted (op o : ℕ) (d block : List ℕ) : Type 0 where
  pub judged : first (judgement op o d) ≡ 0
  pub fits : runs_past op (eqb (is_read o) 1) d block ≡ false
  pub settings : settings_right block ≡ true
  pub long : length block ≡ block_size

-- An accepted 34h write: its points lie within a map.
pub record PointsWrite (d : List ℕ) : Type 0 where
  pub sized : length d ≡ 2 + 4 * count_of d
  pub numbers : length (points_of d) ≡ 2 * count_of d
  pub ends : 2 * start_of d + 2 * count_of d ≤ map_size

-- An accepted 34h read: its points lie within a map, and fit a reply.
pub record PointsRead (d : List ℕ) : Type 0 where
  pub sized : length d ≡ 4
  pub few : word_at d 2 ≤ 127
  pub ends : 2 * word_at d 0 + 2 * word_at d 2 ≤ map_size

-- An accepted 2Bh write: its gains lie within a colour's third.
pub record GainsWrite (d : List ℕ) : Type 0 where
  pub sized : length d ≡ 6 + 2 * word_at d 2
  pub numbers : length (gains_sent d) ≡ gains_count false d
  pub colour : byte_at d 1 ≤ 3
  pub ends : word_at d 4 + gains_count false d ≤ third

-- An accepted 2Bh read: its gains lie within a colour's third, and fit a reply.
pub record GainsRead (d : List ℕ) : Type 0 where
  pub sized : length d ≡ 5
  pub colour : (1 ≤ byte_at d 0) × (byte_at d 0 ≤ 3)
  pub few : word_at d 3 ≤ 254
  pub ends : word_at d 1 + word_at d 3 ≤ third

-- A block as an accepted write leaves it, before the mark is worked out: in range, and of a 34h write with its points, one or more, within the shape.
pub record MarkGranted (op : ℕ) (d block : List ℕ) : Type 0 where
  pub settings : settings_right block ≡ true
  pub placed : op ≡ 0x34 → (1 ≤ count_of d) × (start_of d + count_of d ≤ points block)

-- The rows that a 34h write touches.
pub record RowsNamed (d block : List ℕ) (r : Fresh) : Type 0 where
  pub mark : r.mark ≡ mark_at block
  pub first : r.first ≡ first_touched (columns_at block staged_shape) d
  pub end : r.end ≡ last_touched (columns_at block staged_shape) d + 1
  pub columns : r.columns ≡ columns_at block staged_shape

-- The rows that a write works out, and the mark into which they are put: of 34h the rows of its
-- points and the mark as it lies; of 35h all rows of the shape, and of any other that changes the
-- mark none, with no bit set before.
abbrev pub fresh_of : ℕ → ℕ → ℕ → ℕ → Fresh
fresh_of mark first end columns = record { mark = mark; first = first; end = end; columns = columns }

unfoldable pub rows_worked_out : ℕ → List ℕ → List ℕ → Option Fresh
rows_worked_out op d block =
    cond (eqb op 0x34)
    (Some (fresh_of (mark_at block) (first_touched (columns_at block staged_shape) d) (last_touched (columns_at block staged_shape) d + 1) (columns_at block staged_shape)))
    (cond (eqb op 0x35) (Some (fresh_of 0 0 (rows_at block staged_shape) (columns_at block staged_shape))) (cond (marks op d) (Some (fresh_of 0 0 0 0)) None))

-- They lie within any map, and put into the mark to begin with they give the mark after the write.
pub record FreshRows (op : ℕ) (d block : List ℕ) (r : Fresh) : Type 0 where
  pub few : r.end ≤ mark_rows
  pub room : 2 * (r.columns * r.end) ≤ map_size
  pub whole : (staged live : List ℕ)
      → mark_after op d (columns_at block staged_shape) (rows_at block staged_shape) staged live (mark_bits block)
      ≡ refreshed (row_differs r.columns staged live) r.first (r.end - r.first) (bits_of mark_rows r.mark)

-- These rows, of any accepted write, if it changes the mark.
pub record RowsFresh (op : ℕ) (d block : List ℕ) (r : Option Fresh) : Type 0 where
  pub outcome : r ≡ rows_worked_out op d block
  pub changes : is_some r ≡ marks op d
  pub rows : IfSome r (FreshRows op d block)

-- An accepted read or write on tables of the right length, of so many elements a number: one where numbers are lent, two where bytes are.
pub record ReadGranted (wide op o : ℕ) (d block staged gains : List ℕ) : Type 0 where
  pub granted : Granted op o d block
  pub reads : is_read o ≡ 1
  pub staged-long : length staged ≡ wide * map_size
  pub gains-long : length gains ≡ wide * gains_size

pub record WriteGranted (wide op o : ℕ) (d block staged live gains : List ℕ) : Type 0 where
  pub granted : Granted op o d block
  pub writes : is_read o ≡ 0
  pub staged-long : length staged ≡ wide * map_size
  pub live-long : length live ≡ wide * map_size
  pub gains-long : length gains ≡ wide * gains_size
