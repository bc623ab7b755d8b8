-- What holds over several packets, or of planning apart from any call, so that no one contract can carry it. The crate is proved only with every
-- line of this list.
use Rattle.std.specs.Prelude.{ℕ, ◌+◌, ◌*◌, ◌≤◌, ◌<◌, ◌≡◌, List, [], ◌∷◌, length, take, get_or}
use Rattle.wire.specs.Checksum.{checksum}
use Rattle.opcode.specs.Options.{has_length}
use Rattle.packet.specs.Frame.{header_of, announced}
use Rattle.packet.specs.Sound.{Sound}
use Rattle.front_end.specs.State.{State, reset_state}
use Rattle.front_end.specs.Rows.{MarkRight}
use Rattle.front_end.specs.Plain.{LentRight, staged_points}
use Rattle.front_end.specs.Demands.{LiveKept}
use Rattle.front_end.specs.Calls.{Call, state_after_all, NoneApplies}
use Rattle.upload.specs.Plan.{packets_of, batch_of, EachAnnounced}
use Rattle.upload.specs.Judge.{MapOf}
use Rattle.upload.specs.Examples.{Examples}
use Rattle.gain_words.specs.Pairs.{expand, sum_runs}
use Rattle.compressor.specs.Compress.{compressed}
use Rattle.compressor.specs.Plain.{Compressible}
use Rattle.splitter.specs.Plain.{Splittable}
use Rattle.end_to_end.specs.Delivery.{Delivered}
use Rattle.end_to_end.specs.Gains.{GainsDelivered}
use Rattle.end_to_end.specs.OnBytes.{OnBytes}

pub record EndToEnd : Type 0 where
  -- Rule 5.6: packets none of which is an accepted apply leave the live side, whatever they are.
  pub live-kept : (xs : List Call) (s : State) → NoneApplies xs s → LiveKept s (state_after_all xs s)
  -- Rule 11.3: packets, whatever they are, leave a right mark right; so from reset on it is always right.
  pub mark-stays : (xs : List Call) (s : State) → MarkRight s → MarkRight (state_after_all xs s)
  pub mark-from-reset : (xs : List Call) → MarkRight (state_after_all xs reset_state)
  -- Rule 7.3: a planned upload, sent to a front end whose shape has n points and whose staged map is held, is accepted packet by
  -- packet and leaves wanted.
  pub delivered : (n : ℕ) (held wanted : List ℕ) → MapOf n held → MapOf n wanted → (s : State) (reply : List ℕ) → LentRight s reply
      → staged_points s.block ≡ n → take (2 * n) s.staged ≡ held → Delivered n held wanted s reply
  -- Rule 5.11: pairs stand for as many gains as their runs add up to.
  pub runs-counted : (ws : List ℕ) → length (expand ws) ≡ sum_runs ws
  -- Rule 10.5: pairs that can be split, sent packet by packet to a front end in range, set the colour's gains to what they stand for.
  pub gains-delivered : (colour start : ℕ) (ws : List ℕ) → Splittable colour start ws → (s : State) (reply : List ℕ) → LentRight s reply
      → GainsDelivered colour start ws s reply
  -- Rules 10.1 and 10.5: so gains that are compressed, split and sent are the gains.
  pub compressed-delivered : (colour start : ℕ) (gains : List ℕ) → Compressible gains → colour ≤ 3 → start + length gains ≤ 2016
      → (s : State) (reply : List ℕ) → LentRight s reply
      → (expand (compressed gains) ≡ gains) × Splittable colour start (compressed gains) × GainsDelivered colour start (compressed gains) s reply
  -- Rule 1.3: all of this holds of calls on lent bytes, byte for byte, as C makes them.
  pub on-bytes : OnBytes
  -- Every number of a batch is a byte.
  pub batch-bytes : (n : ℕ) (held wanted : List ℕ) → n ≤ 65536 → MapOf n held → MapOf n wanted → (k : ℕ) → get_or (batch_of held wanted) k 0 < 256
  -- Rules 2.1 and 2.4: a sound packet with a length field has as many bytes as it announces.
  pub announced-sound : (p : List ℕ) → Sound p → has_length (header_of p) ≡ 1 → announced p ≡ length p
  -- Rule 2.4: who walks a batch by what its packets announce finds just the plan's packets, whatever stands behind them.
  pub batch-walked : (n : ℕ) (held wanted : List ℕ) → MapOf n held → MapOf n wanted → (rest : List ℕ)
      → EachAnnounced rest (packets_of held wanted)
  pub examples : Examples
  -- Rule 2.5, at work: the second sum is 315h.
  pub sum-worked : checksum (0xF0 ∷ 0x21 ∷ 0x03 ∷ []) ≡ 0x15
