-- Rule 5.10: what stands at each place of the block after reset, by docs/LAYOUT.md; said apart from the list that reset writes.
use Rattle.std.specs.Prelude.{ℕ, ◌+◌, ◌-◌, ◌/◌, ◌%◌, Bool, cond, ◌&&◌, eqb, leb, ltb}

-- Among the n places from one on.
abbrev pub among : ℕ → ℕ → ℕ → Bool
among from n k = leb from k && ltb k (from + n)

-- A list of two-byte numbers that counts from 0: each has its index in its low byte.
abbrev pub counting_byte : ℕ → ℕ
counting_byte k = cond (eqb (k % 2) 0) (k / 2) 0

-- A shape, from its first byte on: mode 0, 62 columns, 32 rows, and then 62 and 32 numbers that count.
abbrev pub shape_byte : ℕ → ℕ
shape_byte k =
    cond (eqb k 1) 62
    (cond (eqb k 3) 32 (cond (among 5 124 k) (counting_byte (k - 5)) (cond (among 129 64 k) (counting_byte (k - 129)) 0)))

-- The staged and the live shape, the smooth table's two counts, the low byte of twelve frequencies; all else is 0.
unfoldable pub byte_after_reset : ℕ → ℕ
byte_after_reset k =
    cond (among 8 193 k) (shape_byte (k - 8))
    (cond (among 202 193 k) (shape_byte (k - 202))
    (cond (among 395 2 k) 3 (cond (among 762 72 k && eqb ((k - 762) % 6) 0) 20 0)))
