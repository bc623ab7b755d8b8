-- Rule 1.3: tables of numbers as their bytes, low byte first, as they are lent to C.
-- One pair of functions serves every width: a number of two digits to the base b, low digit first.
use Rattle.std.specs.Prelude.{ℕ, ◌+◌, ◌*◌, ◌/◌, ◌%◌, List, [], ◌∷◌}

-- Two digits make a number; a last digit alone makes none, so whoever lends bytes judges their length in bytes first.
abbrev pub pairs : ℕ → List ℕ → List ℕ
pairs b [] = []
pairs b (x ∷ []) = []
pairs b (x ∷ y ∷ r) = (x + b * y) ∷ pairs b r

-- A number makes two digits.
abbrev pub halves : ℕ → List ℕ → List ℕ
halves b [] = []
halves b (n ∷ r) = n % b ∷ n / b ∷ halves b r

-- The 16-bit numbers that bytes hold, and back.
abbrev pub words : List ℕ → List ℕ
words s = pairs 256 s

abbrev pub bytes : List ℕ → List ℕ
bytes l = halves 256 l

-- The 32-bit numbers that bytes hold, and back.
abbrev pub longs : List ℕ → List ℕ
longs s = pairs 65536 (words s)

abbrev pub long_bytes : List ℕ → List ℕ
long_bytes l = bytes (halves 65536 l)
