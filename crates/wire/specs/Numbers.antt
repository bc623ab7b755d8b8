-- Rule 2.3: numbers in bytes, the low byte first.
use Rattle.std.specs.Prelude.{ℕ, ◌+◌, ◌*◌, ◌/◌, ◌%◌, List, [], ◌∷◌, get_or}

-- The byte at a place, 0 past the end.
abbrev pub byte_at : List ℕ → ℕ → ℕ
byte_at s i = get_or s i 0

-- The 16-bit number whose low byte is at a place.
abbrev pub word_at : List ℕ → ℕ → ℕ
word_at s i = byte_at s i + 256 * byte_at s (i + 1)

-- The 32-bit number whose lowest byte is at a place.
abbrev pub long_at : List ℕ → ℕ → ℕ
long_at s i = word_at s i + 65536 * word_at s (i + 2)

-- The two bytes of a 16-bit number.
abbrev pub word_bytes : ℕ → List ℕ
word_bytes n = n % 256 ∷ n / 256 ∷ []
