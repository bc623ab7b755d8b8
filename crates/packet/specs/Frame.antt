-- Rule 2.1: the fields of a packet, which is the whole slice given.
use Rattle.std.specs.Prelude.{ℕ, ◌+◌, ◌-◌, ◌*◌, List, length, take, drop}
use Rattle.wire.specs.Numbers.{byte_at, word_at}
use Rattle.opcode.specs.Options.{two_byte, has_length, has_checksum, options_in}

-- Rule 2.2: the header is the first byte.
abbrev pub header_of : List ℕ → ℕ
header_of p = byte_at p 0

-- Rule 2.3: a high byte that is absent counts as 0, so that an opcode of two bytes below 256 is that of the one byte.
abbrev pub opcode_of : List ℕ → ℕ
opcode_of p = byte_at p 1 + 256 * (two_byte (header_of p) * byte_at p 2)

-- Rule 2.2: the options are header bits 3 to 7, in place.
abbrev pub options_of : List ℕ → ℕ
options_of p = options_in (header_of p)

-- Rule 2.4: the place of the length field.
abbrev pub length_place : ℕ → ℕ
length_place h = 2 + two_byte h

-- Rule 2.1: the place of the data, behind header, opcode and length.
abbrev pub place : ℕ → ℕ
place h = length_place h + 2 * has_length h

-- Rule 2.1: the bytes that a header announces besides data.
abbrev pub fields : ℕ → ℕ
fields h = place h + has_checksum h

-- Rule 2.4: data is what lies between these fields, whether or not a length field counts it.
abbrev pub data_size : List ℕ → ℕ
data_size p = length p - fields (header_of p)

abbrev pub data_of : List ℕ → List ℕ
data_of p = take (data_size p) (drop (place (header_of p)) p)

-- Rules 2.1 and 2.4: how many bytes a packet has by its own words: the fields that its header announces and the number in the
-- length field, 0 where the header has none. Packets back to back are told apart by it.
abbrev pub announced : List ℕ → ℕ
announced p = fields (header_of p) + has_length (header_of p) * word_at p (length_place (header_of p))
