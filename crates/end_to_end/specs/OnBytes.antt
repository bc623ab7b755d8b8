-- What holds over several calls on lent bytes: the theorems on numbers, for what C runs. Held,
-- wanted and gains are bytes here too, four a point and two a gain.
use Rattle.std.specs.Prelude.{ℕ, ◌+◌, ◌*◌, ◌%◌, ◌≤◌, ◌<◌, ◌≡◌, List, length, take, drop}
use Rattle.std.proofs.Math.Seq.{paste}
use Rattle.wire.specs.Tables.{words, bytes}
use Rattle.wire.specs.Plain.{Bytes}
use Rattle.row_mark.specs.Bits.{bit_at}
use Rattle.gain_words.specs.Pairs.{expand}
use Rattle.front_end.specs.State.{reset_state}
use Rattle.front_end.specs.Rows.{mark_of, columns_of, RowRight, MarkRight}
use Rattle.front_end.specs.Plain.{staged_points}
use Rattle.front_end.specs.Calls.{Call, calls_of}
use Rattle.front_end_bytes.specs.Bytes.{Lent, lent, state_in, reset_bytes}
use Rattle.front_end_bytes.specs.Plain.{BytesLent, AllBytes}
use Rattle.upload.specs.Plan.{packets_of}
use Rattle.compressor.specs.Compress.{compressed}
use Rattle.compressor.specs.Plain.{Compressible}
use Rattle.splitter.specs.Plain.{Splittable}
use Rattle.splitter.specs.Split.{split_packets}
use Rattle.end_to_end.specs.Delivery.{TouchedByOne}
use Rattle.end_to_end.specs.Chains.{lent_after_all, PacketBytes, SameOnBytes, LentRightBytes, AllStoredBytes, NoneAppliesBytes, LiveBytesKept}

-- Rule 6.1: a map of n points as bytes.
pub record MapBytes (n : ℕ) (map : List ℕ) : Type 0 where
  pub long : length map ≡ 4 * n
  pub bytes : Bytes map

-- The bytes that the plan's packets leave, sent one after another.
abbrev pub uploaded_bytes : List ℕ → List ℕ → Lent → List ℕ → Lent
uploaded_bytes held wanted l reply = lent_after_all (calls_of reply (packets_of (words held) (words wanted))) l

-- Rules 6.3 and 7.3: the plan's packets sent to a front end whose staged map of n points is held.
pub record DeliveredBytes (n : ℕ) (held wanted : List ℕ) (l : Lent) (reply : List ℕ) : Type 0 where
  -- Rule 7.2: the bytes of the staged points have become wanted.
  pub turned : take (4 * n) (uploaded_bytes held wanted l reply).staged ≡ wanted
  -- Bytes past the shape are as they were.
  pub behind : drop (4 * n) (uploaded_bytes held wanted l reply).staged ≡ drop (4 * n) l.staged
  -- So are all block bytes but those of the row mark, the live map and the gains.
  pub settings-kept : take 865 (uploaded_bytes held wanted l reply).block ≡ take 865 l.block
  pub tail-kept : drop 869 (uploaded_bytes held wanted l reply).block ≡ drop 869 l.block
  pub live-kept : (uploaded_bytes held wanted l reply).live ≡ l.live
  pub gains-kept : (uploaded_bytes held wanted l reply).gains ≡ l.gains
  -- Rules 11.2 and 11.3: the bits of the rows that the packets write to are right, the others as
  -- they were; so a mark that was right is right.
  pub rows_right : (r : ℕ) → TouchedByOne (columns_of l.block) r (packets_of (words held) (words wanted))
      → RowRight (state_in (uploaded_bytes held wanted l reply)) r
  pub rows-kept : (r : ℕ) → r < 32 → (TouchedByOne (columns_of l.block) r (packets_of (words held) (words wanted)) → ⊥)
      → bit_at (mark_of (uploaded_bytes held wanted l reply).block) r ≡ bit_at (mark_of l.block) r
  pub mark-right : MarkRight (state_in l) → MarkRight (state_in (uploaded_bytes held wanted l reply))
  -- Rule 7.3: every one of them is accepted.
  pub taken : AllStoredBytes (calls_of reply (packets_of (words held) (words wanted))) l

-- The same lent bytes with others over a place of the gains.
abbrev pub gain_bytes_with : Lent → ℕ → List ℕ → Lent
gain_bytes_with l at new = lent l.block l.staged l.live (paste l.gains at new (length new))

-- Rule 5.8: bytes of gains for a colour, from a start on, and nothing else: red, green or blue, a
-- third of the table's bytes each, or all three.
pub data BlendedBytes (l : Lent) (start : ℕ) (new : List ℕ) : ℕ → Lent → Type 0 where
  red : BlendedBytes l start new 1 (gain_bytes_with l (2 * start) new)
  green : BlendedBytes l start new 2 (gain_bytes_with l (4032 + 2 * start) new)
  blue : BlendedBytes l start new 3 (gain_bytes_with l (8064 + 2 * start) new)
  all : BlendedBytes l start new 0
      (gain_bytes_with (gain_bytes_with (gain_bytes_with l (2 * start) new) (4032 + 2 * start) new) (8064 + 2 * start) new)

-- Rule 10.5: the colour's gains from the start on have become these bytes, and no other byte has
-- changed; every packet was accepted, with no reply.
pub record GainsDeliveredBytes (colour start : ℕ) (ws new : List ℕ) (l : Lent) (reply : List ℕ) : Type 0 where
  pub set : BlendedBytes l start new colour (lent_after_all (calls_of reply (split_packets colour start ws)) l)
  pub taken : AllStoredBytes (calls_of reply (split_packets colour start ws)) l

pub record OnBytes : Type 0 where
  -- Rule 1.3: calls on lent bytes, one after another, do what they do on the numbers in them: each
  -- answers the same, and the bytes left hold the numbers left.
  pub same : (xs : List Call) → PacketBytes xs → (l : Lent) → BytesLent l → AllBytes l → SameOnBytes xs l
  -- Rules 1.3 and 4.1, 1: if a length is wrong, calls change no byte.
  pub wrong-length : (xs : List Call) (l : Lent) → (BytesLent l → ⊥) → lent_after_all xs l ≡ l
  -- Rule 5.10: so from reset on.
  pub from-reset : (xs : List Call) → PacketBytes xs → (l : Lent) → BytesLent l
      → (state_in (reset_bytes l).lent ≡ reset_state) × SameOnBytes xs (reset_bytes l).lent
  -- Rule 5.6: packets none of which is an accepted apply leave the live side, byte for byte.
  pub live-kept : (xs : List Call) → PacketBytes xs → (l : Lent) → AllBytes l → NoneAppliesBytes xs l
      → LiveBytesKept l (lent_after_all xs l)
  -- Rule 11.3: packets leave a right mark right; so from reset on it is always right.
  pub mark-stays : (xs : List Call) → PacketBytes xs → (l : Lent) → AllBytes l → MarkRight (state_in l)
      → MarkRight (state_in (lent_after_all xs l))
  pub mark-from-reset : (xs : List Call) → PacketBytes xs → (l : Lent) → BytesLent l
      → MarkRight (state_in (lent_after_all xs (reset_bytes l).lent))
  -- Rule 7.3: a planned upload, sent to a front end whose shape has n points and whose staged bytes
  -- are held, is accepted packet by packet and leaves wanted.
  pub delivered : (n : ℕ) (held wanted : List ℕ) → MapBytes n held → MapBytes n wanted → (l : Lent) (reply : List ℕ)
      → LentRightBytes l reply → staged_points l.block ≡ n → take (4 * n) l.staged ≡ held
      → DeliveredBytes n held wanted l reply
  -- Rule 10.5: pairs that can be split, sent packet by packet to a front end in range, set the
  -- colour's gains to what they stand for.
  pub gains-delivered : (colour start : ℕ) (ws : List ℕ) → Splittable colour start ws → (l : Lent) (reply : List ℕ)
      → LentRightBytes l reply → GainsDeliveredBytes colour start ws (bytes (expand ws)) l reply
  -- Rules 10.1 and 10.5: so gains that are compressed, split and sent are the gains.
  pub compressed-delivered : (colour start : ℕ) (gains : List ℕ) → Bytes gains → length gains % 2 ≡ 0
      → Compressible (words gains) → colour ≤ 3 → 2 * start + length gains ≤ 4032 → (l : Lent) (reply : List ℕ)
      → LentRightBytes l reply
      → Splittable colour start (compressed (words gains))
      × GainsDeliveredBytes colour start (compressed (words gains)) gains l reply
