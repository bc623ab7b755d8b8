-- Rule 10.2: the compressor's answer, its refusals and the room that it leaves; on 16-bit numbers, and on bytes.
use Rattle.std.specs.Prelude.{ℕ, ◌*◌, ◌/◌, ◌%◌, ◌≡◌, Bool, cond, not, ◌&&◌, List, [], ◌∷◌, length, eqb, leb, ltb}
use Rattle.wire.specs.First.{first}
use Rattle.wire.specs.Tables.{words, bytes}
use Rattle.wire.specs.Buffers.{over}
use Rattle.gain_words.specs.Gains.{first_large}
use Rattle.gain_words.specs.Pairs.{colour_gains}
use Rattle.compressor.specs.Compress.{compressed}
use Rattle.compressor.specs.Plain.{CompressOut, CompressPlainNumbers, CompressPlainBytes}

-- Rule 10.2: the words of the pairs of a whole colour, no two neighbours of it equal.
abbrev pub pairs_room : ℕ
pairs_room = 4032

-- An outcome from its fields.
abbrev pub compress_out : ℕ → ℕ → List ℕ → CompressOut
compress_out status pairs room = record { status = status; pairs = pairs; room = room }

-- Rule 10.2: a count that no colour has.
abbrev pub count_wrong : ℕ → Bool
count_wrong n = not (leb 1 n && leb n colour_gains)

-- Rule 10.2: some gain is over 8,191.
abbrev pub some_large : List ℕ → Bool
some_large gains = ltb (first_large gains) (length gains)

-- Rule 10.2: 10 where the count or a gain is out of its range, then 1 for a short room.
abbrev pub compress_refusals : List ℕ → Bool → List (ℕ × Bool)
compress_refusals gains short = (10, count_wrong (length gains)) ∷ (10, some_large gains) ∷ (1, short) ∷ []

-- Rules 10.1 and 10.2: the pairs, as words or as their bytes, over the start of the room; or a refusal and the room as it was.
abbrev pub compressed_by : ℕ → (List ℕ → List ℕ) → List ℕ → List ℕ → CompressOut
compressed_by number put gains room =
    cond (eqb number 0) (compress_out 0 (length (compressed gains) / 2) (over (put (compressed gains)) room)) (compress_out number 0 room)

-- Rule 10.2.
unfoldable pub compressing : List ℕ → List ℕ → CompressOut
compressing gains room =
    compressed_by (first (compress_refusals gains (ltb (length room) pairs_room))) (λ ws. ws) gains room

-- Rule 10.2, on bytes: an odd number of bytes is no count of gains; a room's odd last byte is left as it is.
abbrev pub byte_refusals : List ℕ → List ℕ → List (ℕ × Bool)
byte_refusals gains room =
    (10, not (eqb (length gains % 2) 0)) ∷ compress_refusals (words gains) (ltb (length room) (2 * pairs_room))

unfoldable pub compressing_bytes : List ℕ → List ℕ → CompressOut
compressing_bytes gains room =
    compressed_by (first (byte_refusals gains room)) bytes (words gains) room

-- Rule 10.2: the promise on 16-bit numbers.
pub record CompressedNumbers (gains room : List ℕ) (o : CompressOut) : Type 0 where
  pub outcome : o ≡ compressing gains room
  pub plain : CompressPlainNumbers gains room o

-- The answer, and the numbers that a room in bytes holds.
abbrev pub numbers_in : CompressOut → CompressOut
numbers_in o = compress_out o.status o.pairs (words o.room)

-- Rules 1.3 and 10.2: the promise on bytes; of an even number of them all that is promised on numbers, of the numbers that the bytes hold.
pub record CompressedBytes (gains room : List ℕ) (o : CompressOut) : Type 0 where
  pub outcome : o ≡ compressing_bytes gains room
  pub plain : CompressPlainBytes gains room o
  pub numbers : length gains % 2 ≡ 0 → CompressedNumbers (words gains) (words room) (numbers_in o)
