-- Rule 4.1, 1: the test that every stored field is in its range. A field's range is that of the write that stores it.
use Rattle.std.specs.Prelude.{ℕ, zero, suc, ◌+◌, ◌≡◌, ◌↔◌, Bool, true, ◌&&◌, ◌||◌, List, [], ◌∷◌, ◌++◌, drop, eqb}
use Rattle.opcode.specs.declared.Field.{Field}
use Rattle.opcode.specs.Fields.{byte, takes, number, words_at, rise}
use Rattle.opcode.specs.Commands.{command_of}
use Rattle.settings.specs.Layout.{staged_shape, enable, live_shape, smooth_table, update_place, pin_count, pwm_count, uart_count}
use Rattle.settings.specs.Layout.{mode_at, columns_at, rows_at, column_list, row_list, column_entries, row_entries}
use Rattle.settings.specs.Allowed.{SettingsAllowed}

-- A command's stored fields, and those behind the pin or port byte.
abbrev pub fields_of : ℕ → List Field
fields_of op = (command_of op).sets

abbrev pub behind_port : ℕ → List Field
behind_port op = drop 1 (fields_of op)

-- The same fields for each of n pins or ports.
abbrev pub for_each : ℕ → List Field → List Field
for_each zero fs = []
for_each (suc n) fs = fs ++ for_each n fs

-- From place 0: 11h, 12h, 13h, 1Ah, 1Bh, 1Ch, 1Dh.
unfoldable pub picture_fields : List Field
picture_fields =
    fields_of 0x11 ++ fields_of 0x12 ++ fields_of 0x13 ++ fields_of 0x1A ++ fields_of 0x1B ++ fields_of 0x1C ++ fields_of 0x1D

-- Rule 5.1, 39h: 0 alone is stored.
abbrev pub update_mode : Field
update_mode = byte 0 0

-- From 39h's place on: update mode, pins, PWM ports, EEPROM lock, UART ports.
unfoldable pub device_fields : List Field
device_fields =
    (update_mode ∷ [])
    ++ for_each pin_count (behind_port 0x60)
    ++ for_each pwm_count (behind_port 0x65)
    ++ fields_of 0x6C
    ++ for_each uart_count (behind_port 0x6D)

-- Every one of these fields, one behind the other from a place of the block on, takes its number.
unfoldable pub right : List Field → List ℕ → ℕ → Bool
right [] block place = true
right (f ∷ fs) block place = takes f (number f.size block place) && right fs block (place + f.size)

-- Rule 5.5: n entries from a place on rise.
abbrev pub rising : List ℕ → ℕ → ℕ → Bool
rising block place n = eqb (rise (words_at block place n)) n

-- Rule 5.5: both lists of a shape at a place rise.
abbrev pub lists_rise : List ℕ → ℕ → Bool
lists_rise block shape = rising block (column_list shape) column_entries && rising block (row_list shape) row_entries

-- Rule 4.1, 1: a shape at a place: mode 0 with 2-62 columns and 2-32 rows, or mode 1 with exactly 62 and 32; and in either mode
-- both lists rising. No single write carries all of it.
unfoldable pub shape_right : List ℕ → ℕ → Bool
shape_right block shape =
    (right (fields_of 0x35) block shape
    && (eqb (mode_at block shape) 0 || (eqb (columns_at block shape) column_entries && eqb (rows_at block shape) row_entries)))
    && lists_rise block shape

-- Rule 4.1, 1: every stored field in its range. Neither the row mark nor bytes without a meaning are judged.
unfoldable pub settings_right : List ℕ → Bool
settings_right block =
    right picture_fields block 0
    && shape_right block staged_shape
    && right (fields_of 0x36) block enable
    && shape_right block live_shape
    && right (fields_of 0x38) block smooth_table
    && right device_fields block update_place

-- Rule 4.1, 1: what `in_range` promises: its answer is the test's, and that is true exactly if every setting is as it may be.
pub record InRange (block : List ℕ) (r : Bool) : Type 0 where
  pub test : r ≡ settings_right block
  pub exactly : (r ≡ true) ↔ SettingsAllowed block
  -- The lists' own test is part of it, of both shapes.
  pub lists : r ≡ true → (lists_rise block staged_shape ≡ true) × (lists_rise block live_shape ≡ true)
