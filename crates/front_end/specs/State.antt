-- Rule 1.1: what the caller lends the front end: settings, staged and live map, gains.
use Rattle.std.specs.Prelude.{ℕ, Bool, cond, not, ◌&&◌, ◌||◌, List, length, eqb, leb}
use Rattle.settings.specs.Layout.{block_size}
use Rattle.settings.specs.Ranges.{settings_right}
use Rattle.settings.specs.Reset.{map_size, gains_size, reset_block, reset_map, reset_gains}

-- Rule 1.3: the reply buffer has at least so many bytes. A reply's data has room behind the head of three, with one left for the checksum.
abbrev pub reply_room : ℕ
reply_room = 512

abbrev pub data_room : ℕ
data_room = 508

-- Block bytes, and tables of 16-bit numbers.
pub record State : Type 0 where
  pub block : List ℕ
  pub staged : List ℕ
  pub live : List ℕ
  pub gains : List ℕ

abbrev pub state : List ℕ → List ℕ → List ℕ → List ℕ → State
state block staged live gains = record { block = block; staged = staged; live = live; gains = gains }

-- Rule 1.3: the lengths that block and tables must have.
abbrev pub lengths_right : State → Bool
lengths_right s =
    eqb (length s.block) block_size
    && eqb (length s.staged) map_size
    && eqb (length s.live) map_size
    && eqb (length s.gains) gains_size

-- Rule 4.1, 1: a length is wrong, the reply buffer is under 512 bytes, or a setting is out of range. Neither what tables hold nor
-- the row mark is judged (rule 1.4).
unfoldable pub stopped : State → List ℕ → Bool
stopped s reply = not (lengths_right s && leb reply_room (length reply)) || not (settings_right s.block)

-- Rule 5.10: what reset leaves.
abbrev pub reset_state : State
reset_state = record { block = reset_block; staged = reset_map; live = reset_map; gains = reset_gains }

-- Rule 5.10: with a wrong length reset is refused with 1, and all stays.
pub record ResetOut : Type 0 where
  pub status : ℕ
  pub state : State

-- Rule 5.10.
unfoldable pub reset : State → ResetOut
reset s = cond (lengths_right s) (record { status = 0; state = reset_state }) (record { status = 1; state = s })

abbrev pub reset_out : ℕ → State → ResetOut
reset_out status s = record { status = status; state = s }
