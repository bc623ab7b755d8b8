-- Rule 1.3: block and tables lent as bytes, with the answers of the entries on numbers. Lengths are judged in bytes, exactly.
use Rattle.std.specs.Prelude.{ℕ, Bool, cond, not, ◌&&◌, ◌||◌, List, length, eqb}
use Rattle.wire.specs.Tables.{words, bytes}
use Rattle.settings.specs.Layout.{block_size}
use Rattle.front_end.specs.State.{State, stopped, reset_state}
use Rattle.front_end.specs.Step.{Out, out, step}

-- Block and tables, all as bytes.
pub record Lent : Type 0 where
  pub block : List ℕ
  pub staged : List ℕ
  pub live : List ℕ
  pub gains : List ℕ

abbrev pub lent : List ℕ → List ℕ → List ℕ → List ℕ → Lent
lent block staged live gains = record { block = block; staged = staged; live = live; gains = gains }

-- The state that lent bytes hold, and the bytes of a state.
abbrev pub state_in : Lent → State
state_in l = record { block = l.block; staged = words l.staged; live = words l.live; gains = words l.gains }

abbrev pub lent_of : State → Lent
lent_of s = record { block = s.block; staged = bytes s.staged; live = bytes s.live; gains = bytes s.gains }

-- Rule 1.3: two bytes for each number.
abbrev pub map_bytes : ℕ
map_bytes = 7936

abbrev pub gains_bytes : ℕ
gains_bytes = 12096

-- Rule 1.3: lengths in bytes.
abbrev pub byte_lengths_right : Lent → Bool
byte_lengths_right l =
    eqb (length l.block) block_size
    && eqb (length l.staged) map_bytes
    && eqb (length l.live) map_bytes
    && eqb (length l.gains) gains_bytes

-- Rule 4.1, 1: refusal 1 on bytes.
abbrev pub stopped_bytes : Lent → List ℕ → Bool
stopped_bytes l reply = not (byte_lengths_right l) || stopped (state_in l) reply

-- The answer, and all that was lent, as it is left.
pub record LentOut : Type 0 where
  pub status : ℕ
  pub fault-place : ℕ
  pub size : ℕ
  pub lent : Lent
  pub reply : List ℕ

abbrev pub lent_out : ℕ → ℕ → ℕ → Lent → List ℕ → LentOut
lent_out status fault size l reply = record { status = status; fault-place = fault; size = size; lent = l; reply = reply }

abbrev pub out_bytes : Out → LentOut
out_bytes o = lent_out o.status o.fault-place o.size (lent_of o.state) o.reply

-- Rules 1.3 and 4.1, 1: a wrong length is refusal 1, with no reply and every byte as it was; else what the step on numbers gives.
unfoldable pub step_bytes : List ℕ → Lent → List ℕ → LentOut
step_bytes p l reply = cond (byte_lengths_right l) (out_bytes (step p (state_in l) reply)) (lent_out 1 0 0 l reply)

pub record LentReset : Type 0 where
  pub status : ℕ
  pub lent : Lent

abbrev pub lent_reset : ℕ → Lent → LentReset
lent_reset status l = record { status = status; lent = l }

-- Rules 1.3 and 5.10: a wrong length is 1, and every byte stays; else the bytes of the state after reset.
unfoldable pub reset_bytes : Lent → LentReset
reset_bytes l = cond (byte_lengths_right l) (lent_reset 0 (lent_of reset_state)) (lent_reset 1 l)

-- The answer and the numbers that the bytes left hold.
abbrev pub numbers_out : LentOut → Out
numbers_out o = out o.status o.fault-place o.size (state_in o.lent) o.reply
