-- Rule 11.1: the mark is a number of 32 bits; its bits as a list, the lowest first.
use Rattle.std.specs.Prelude.{ℕ, zero, suc, ◌+◌, ◌*◌, ◌/◌, ◌%◌, ◌^◌, Bool, cond, eqb, ltb}
use Rattle.std.specs.Prelude.{List, [], ◌∷◌, length, Option, Some, None}

-- So many low bits of a number.
unfoldable pub bits_of : ℕ → ℕ → List Bool
bits_of zero n = []
bits_of (suc k) n = eqb (n % 2) 1 ∷ bits_of k (n / 2)

-- The number that has these bits.
unfoldable pub of_bits : List Bool → ℕ
of_bits [] = 0
of_bits (b ∷ bs) = cond b 1 0 + 2 * of_bits bs

-- One bit of a number, 0 or 1.
abbrev pub bit_at : ℕ → ℕ → ℕ
bit_at n r = n / 2 ^ r % 2

-- Rule 11.4: how many bits are set, and the index of the first; if none is, the length.
unfoldable pub count_true : List Bool → ℕ
count_true [] = 0
count_true (b ∷ bs) = cond b 1 0 + count_true bs

unfoldable pub first_true : List Bool → ℕ
first_true [] = 0
first_true (b ∷ bs) = cond b 0 (suc (first_true bs))

-- The same if one is, and none otherwise.
abbrev pub first_set : List Bool → Option ℕ
first_set bs = cond (ltb (first_true bs) (length bs)) (Some (first_true bs)) None
