-- Rule 1.4: where the settings stand in the block, as docs/LAYOUT.md has it.
-- In opcode order, each command's fields in the order of its write data, without the pin or port byte.
use Rattle.std.specs.Prelude.{ℕ, ◌+◌, ◌*◌, cond, List, [], ◌∷◌, take, drop, eqb}
use Rattle.std.proofs.Math.Seq.{paste}
use Rattle.wire.specs.Numbers.{byte_at, word_at}
use Rattle.opcode.specs.Commands.{command_of}

-- Rule 1.3.
abbrev pub block_size : ℕ
block_size = 1024

-- Rule 1.4: where the parts of the block begin, in its order; the settings in front of the first have a byte or two each.

-- 35h: mode, columns, rows, 62 and then 32 list entries.
abbrev pub staged_shape : ℕ
staged_shape = 8

abbrev pub shape_size : ℕ
shape_size = 193

-- 36h: enable, and then the live shape, as the staged one.
abbrev pub enable : ℕ
enable = 201

abbrev pub live_shape : ℕ
live_shape = 202

-- 38h: columns, rows and 25 points.
abbrev pub smooth_table : ℕ
smooth_table = 395

-- 39h.
abbrev pub update_place : ℕ
update_place = 497

-- 60h and 61h: 88 pins of three bytes.
abbrev pub pin_place : ℕ
pin_place = 498

abbrev pub pin_count : ℕ
pin_count = 88

abbrev pub pin_size : ℕ
pin_size = 3

-- 65h: twelve ports of six bytes.
abbrev pub pwm_place : ℕ
pwm_place = 762

abbrev pub pwm_count : ℕ
pwm_count = 12

abbrev pub pwm_size : ℕ
pwm_size = 6

-- 6Ch.
abbrev pub lock_place : ℕ
lock_place = 834

-- 6Dh: three ports of ten bytes.
abbrev pub uart_place : ℕ
uart_place = 835

abbrev pub uart_count : ℕ
uart_count = 3

abbrev pub uart_size : ℕ
uart_size = 10

-- Here the settings end, and the row mark stands (rule 11.1), in four bytes. Bytes behind it have no meaning.
abbrev pub settings_end : ℕ
settings_end = 865

abbrev pub mark_place : ℕ
mark_place = settings_end

abbrev pub mark_size : ℕ
mark_size = 4

-- A command's first stored byte, and the bytes from one pin's or port's to the next one's.
pub record Place : Type 0 where
  pub opcode : ℕ
  pub first : ℕ
  pub step : ℕ

abbrev pub at : ℕ → ℕ → Place
at op first = record { opcode = op; first = first; step = 0 }

abbrev pub each_at : ℕ → ℕ → ℕ → Place
each_at op first step = record { opcode = op; first = first; step = step }

-- Rule 5.3: 60h stores direction, level and drain for each pin, and 61h that same level, whichever the direction.
abbrev pub places : List Place
places =
    at 0x11 0
    ∷ at 0x12 1
    ∷ at 0x13 2
    ∷ at 0x1A 4
    ∷ at 0x1B 5
    ∷ at 0x1C 6
    ∷ at 0x1D 7
    ∷ at 0x36 enable
    ∷ at 0x39 update_place
    ∷ each_at 0x60 pin_place pin_size
    ∷ each_at 0x61 (pin_place + 1) pin_size
    ∷ each_at 0x65 pwm_place pwm_size
    ∷ at 0x6C lock_place
    ∷ each_at 0x6D uart_place uart_size
    ∷ []

abbrev pub place_in : ℕ → List Place → Place
place_in op [] = at 0 0
place_in op (p ∷ ps) = cond (eqb op p.opcode) p (place_in op ps)

-- Rule 5.1, 65h: port 13 stands behind 10. Else the pin or port itself.
abbrev pub slot : ℕ → ℕ → ℕ
slot op port = cond (eqb op 0x65) (cond (eqb port 13) 11 port) port

-- The place of what a fixed command stores, from its data, whose first byte is the pin or port where it has one.
unfoldable pub place_of : ℕ → List ℕ → ℕ
place_of op d = (place_in op places).first + (place_in op places).step * slot op (byte_at d 0)

-- Of a shape that stands at a place.
abbrev pub mode_at : List ℕ → ℕ → ℕ
mode_at block shape = byte_at block shape

abbrev pub columns_at : List ℕ → ℕ → ℕ
columns_at block shape = word_at block (shape + 1)

abbrev pub rows_at : List ℕ → ℕ → ℕ
rows_at block shape = word_at block (shape + 3)

-- Mode, columns and rows; then the two lists, how many entries each has, and the bytes of both.
abbrev pub shape_head : ℕ
shape_head = 5

abbrev pub column_list : ℕ → ℕ
column_list shape = shape + shape_head

abbrev pub row_list : ℕ → ℕ
row_list shape = shape + 129

abbrev pub column_entries : ℕ
column_entries = 62

abbrev pub row_entries : ℕ
row_entries = 32

abbrev pub lists_size : ℕ
lists_size = 188

-- Rules 1.4 and 5.1: a fixed write moves its data, without the pin or port byte that a read sends too, to its place, and leaves all
-- other bytes. A read returns what stands there.
abbrev pub stored : ℕ → List ℕ → List ℕ → List ℕ
stored op d block = paste block (place_of op d) (drop (command_of op).read d) (command_of op).back

abbrev pub returned : ℕ → List ℕ → List ℕ → List ℕ
returned op d block = take (command_of op).back (drop (place_of op d) block)
