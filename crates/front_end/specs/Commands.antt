-- Rules 5.1 to 5.8 and 5.11: what each command does to a state, and what it returns, from its data; each a function of its own part of it.
use Rattle.std.specs.Prelude.{ℕ, ◌+◌, ◌-◌, ◌*◌, Bool, true, false, cond, not, ◌&&◌, List, [], ◌∷◌, ◌++◌, length, take, drop, eqb, ltb}
use Rattle.std.proofs.Math.Seq.{paste}
use Rattle.wire.specs.Numbers.{byte_at, word_at, word_bytes}
use Rattle.wire.specs.Tables.{words, bytes}
use Rattle.gain_words.specs.Pairs.{expand, sum_runs}
use Rattle.opcode.specs.Judgement.{in_pairs}
use Rattle.packet.specs.Points.{write_points, start_of, points_of, count_of}
use Rattle.settings.specs.Layout.{staged_shape, shape_size, shape_head, enable, live_shape, smooth_table, stored, returned}
use Rattle.settings.specs.Layout.{mode_at, columns_at, rows_at, column_list, column_entries, row_entries, lists_size}
use Rattle.front_end.specs.State.{State}

-- ---- Start and count, of a read's data or a write's.

-- Rule 5.4: a read of 34h sends its count, a write has the points behind its start.
abbrev pub point_count : Bool → List ℕ → ℕ
point_count reads d = cond reads (word_at d 2) (count_of d)

-- Rule 5.8: a read of 2Bh sends colour, start and count; a write's data is compression, colour, count, start, words.
abbrev pub gains_colour : Bool → List ℕ → ℕ
gains_colour reads d = cond reads (byte_at d 0) (byte_at d 1)

abbrev pub gains_start : Bool → List ℕ → ℕ
gains_start reads d = cond reads (word_at d 1) (word_at d 4)

-- Rule 5.8: the count that a command sends.
abbrev pub word_count : Bool → List ℕ → ℕ
word_count reads d = cond reads (word_at d 3) (word_at d 2)

-- Rule 5.8: the words of a write.
abbrev pub gains_words : List ℕ → List ℕ
gains_words d = words (drop 6 d)

-- Rules 5.8 and 5.11: how many gains a command names: its count, or for a write of pairs the sum of their runs.
abbrev pub gains_count : Bool → List ℕ → ℕ
gains_count reads d = cond (not reads && in_pairs d) (sum_runs (gains_words d)) (word_count reads d)

-- ---- 2Bh gains, rules 5.8 and 5.11: colour 1 red, 2 green, 3 blue, a third of the table each.

-- Rule 5.8: the gains of one colour.
abbrev pub third : ℕ
third = 2016

-- Rules 5.8 and 5.11: the gains that a write sends: its words, or what its pairs stand for.
abbrev pub gains_sent : List ℕ → List ℕ
gains_sent d = cond (in_pairs d) (expand (gains_words d)) (gains_words d)

-- Rule 5.8: where a colour's gains from a start on stand; of colour 0, the first of its three places.
abbrev pub colour_place : ℕ → ℕ → ℕ
colour_place colour start = third * (colour - 1) + start

abbrev pub gains_place : Bool → List ℕ → ℕ
gains_place reads d = colour_place (gains_colour reads d) (gains_start reads d)

abbrev pub gains_into : List ℕ → ℕ → List ℕ → List ℕ
gains_into gains place ws = paste gains place ws (length ws)

-- Rule 5.8: gains for a colour, from a start on; colour 0 has the same gains in all three thirds.
unfoldable pub colour_into : ℕ → ℕ → List ℕ → List ℕ → List ℕ
colour_into colour start new gains =
    cond (eqb colour 0)
    (gains_into (gains_into (gains_into gains start new) (third + start) new) (2 * third + start) new)
    (gains_into gains (colour_place colour start) new)

-- Rules 5.8 and 5.11.
abbrev pub write_gains : List ℕ → List ℕ → List ℕ
write_gains d gains = colour_into (gains_colour false d) (gains_start false d) (gains_sent d) gains

-- Rule 5.8: a read returns so many words.
unfoldable pub read_gains : List ℕ → List ℕ → List ℕ
read_gains d gains = bytes (take (gains_count true d) (drop (gains_place true d) gains))

-- ---- 34h map, rule 5.4: a read returns so many staged points.

-- Rule 5.4.
unfoldable pub read_points : List ℕ → List ℕ → List ℕ
read_points d staged = bytes (take (2 * point_count true d) (drop (2 * start_of d) staged))

-- ---- 35h control points, rule 5.5

-- Rule 5.5: in mode 0 the stored lists stay; mode 1 carries both, and its shape is always 62 × 32.
unfoldable pub shape_bytes : List ℕ → List ℕ
shape_bytes d = cond (eqb (byte_at d 0) 1) ((1 ∷ []) ++ word_bytes column_entries ++ word_bytes row_entries ++ drop 1 d) d

-- Rule 5.5.
unfoldable pub write_shape : List ℕ → List ℕ → List ℕ
write_shape d block = paste block staged_shape (shape_bytes d) (length (shape_bytes d))

-- Rule 5.5: a read returns what a write of the stored mode sends.
unfoldable pub read_shape : List ℕ → List ℕ
read_shape block =
    cond (eqb (mode_at block staged_shape) 1)
    (byte_at block staged_shape ∷ take lists_size (drop (column_list staged_shape) block))
    (take shape_head (drop staged_shape block))

-- ---- 36h apply, rule 5.6: 1 copies shape, mode, lists and points from the staged side to the live one and sets enable; 0 clears
-- enable alone.

-- Rule 5.6, in the block.
unfoldable pub apply_block : List ℕ → List ℕ → List ℕ
apply_block d block =
    cond (eqb (byte_at d 0) 1)
    (paste (paste block enable (1 ∷ []) 1) live_shape (drop staged_shape block) shape_size)
    (paste block enable (0 ∷ []) 1)

-- Rule 5.6, of the points.
unfoldable pub apply_live : List ℕ → List ℕ → List ℕ → List ℕ
apply_live d staged live = cond (eqb (byte_at d 0) 1) staged live

-- ---- 38h smooth table, rule 5.7: points behind those written stay as stored; a read returns what a write sends.

-- Rule 5.7.
unfoldable pub write_smooth : List ℕ → List ℕ → List ℕ
write_smooth d block = paste block smooth_table d (length d)

-- Rule 5.7.
unfoldable pub read_smooth : List ℕ → List ℕ
read_smooth block =
    take (2 + 4 * (byte_at block smooth_table * byte_at block (smooth_table + 1))) (drop smooth_table block)

-- ---- The commands together

unfoldable pub block_after : ℕ → List ℕ → List ℕ → List ℕ
block_after op d block =
    cond (eqb op 0x2B) block
    (cond (eqb op 0x34) block
    (cond (eqb op 0x35) (write_shape d block)
    (cond (eqb op 0x36) (apply_block d block) (cond (eqb op 0x38) (write_smooth d block) (stored op d block)))))

abbrev pub staged_after : ℕ → List ℕ → List ℕ → List ℕ
staged_after op d staged = cond (eqb op 0x34) (write_points (start_of d) (points_of d) staged) staged

abbrev pub live_after : ℕ → List ℕ → List ℕ → List ℕ → List ℕ
live_after op d staged live = cond (eqb op 0x36) (apply_live d staged live) live

abbrev pub gains_after : ℕ → List ℕ → List ℕ → List ℕ
gains_after op d gains = cond (eqb op 0x2B) (write_gains d gains) gains

-- What an accepted write's command leaves; the row mark is worked out behind it (Mark). Of 35h only the block changes, so that staged points keep their index
-- (rule 5.5).
unfoldable pub written : ℕ → List ℕ → State → State
written op d s =
    record {
      block = block_after op d s.block;
      staged = staged_after op d s.staged;
      live = live_after op d s.staged s.live;
      gains = gains_after op d s.gains;
    }

-- The data of an accepted read's reply: settings of the block. 36h returns enable (rule 5.6), as the fixed commands return what
-- they store.
unfoldable pub block_back : ℕ → List ℕ → List ℕ → List ℕ
block_back op d block = cond (eqb op 0x35) (read_shape block) (cond (eqb op 0x38) (read_smooth block) (returned op d block))

-- Rule 3.3: the data of any accepted read's reply.
unfoldable pub data_back : ℕ → List ℕ → State → List ℕ
data_back op d s =
    cond (eqb op 0x2B) (read_gains d s.gains) (cond (eqb op 0x34) (read_points d s.staged) (block_back op d s.block))

-- ---- Refusal 12, rule 4.3: start + count goes past the staged shape's points (rule 5.4) or a colour's gains (rules 5.8 and 5.11).

-- Rule 5.4: the bound is the shape's, at most 62 × 32.
abbrev pub points : List ℕ → ℕ
points block = columns_at block staged_shape * rows_at block staged_shape

-- Rule 4.3.
unfoldable pub runs_past : ℕ → Bool → List ℕ → List ℕ → Bool
runs_past op reads d block =
    cond (eqb op 0x34) (ltb (points block) (start_of d + point_count reads d))
    (cond (eqb op 0x2B) (ltb third (gains_start reads d + gains_count reads d)) false)
