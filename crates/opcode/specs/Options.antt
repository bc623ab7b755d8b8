-- Rule 2.2: the bits of a header. Options are bits 3 to 7 in place, so these read a header and options alike. Each bit is 0 or 1.
use Rattle.std.specs.Prelude.{ℕ, ◌*◌, ◌/◌, ◌%◌}

-- Bit 3: the opcode has two bytes.
abbrev pub two_byte : ℕ → ℕ
two_byte h = h / 8 % 2

-- Bit 4: there is a length field.
abbrev pub has_length : ℕ → ℕ
has_length h = h / 16 % 2

-- Bit 5: there is a checksum.
abbrev pub has_checksum : ℕ → ℕ
has_checksum h = h / 32 % 2

-- Bit 6: a reply is requested.
abbrev pub asks_reply : ℕ → ℕ
asks_reply h = h / 64 % 2

-- Bit 7: a read, else a write.
abbrev pub is_read : ℕ → ℕ
is_read h = h / 128 % 2

-- Bits 0 to 2.
abbrev pub destination : ℕ → ℕ
destination h = h % 8

-- Rule 2.2: the options alone, in place.
abbrev pub options_in : ℕ → ℕ
options_in h = h / 8 * 8
