-- Rule 2.5: the checksum of packets and of replies.
use Rattle.std.specs.Prelude.{ℕ, suc, ◌+◌, ◌*◌, ◌%◌, ◌≡◌, Bool, cond, List, [], ◌∷◌, ◌++◌, length}

-- Rule 2.5: two sums go along the bytes, each kept below a width. A byte is added to the first sum, and the first sum, as it then is, to the second. Given is
-- the second sum behind the last byte.
abbrev pub second_sum : (width first second : ℕ) → List ℕ → ℕ
second_sum width first second [] = second
second_sum width first second (x ∷ r) = let sum : ℕ = (first + x) % width in second_sum width sum ((second + sum) % width) r

-- Rule 2.5: a sum of 32 bits wraps here.
abbrev pub sum_width : ℕ
sum_width = 4294967296

-- Rule 2.5: both sums are 0 at first, and the low byte of the second is sent.
unfoldable pub checksum : List ℕ → ℕ
checksum s = second_sum sum_width 0 0 s % 256

-- Rules 2.1 and 3.1: the bytes, and behind them their checksum if there is to be one.
abbrev pub sealed : Bool → List ℕ → List ℕ
sealed sum s = s ++ cond sum (checksum s ∷ []) []

-- Rule 2.5, apart from sums that run along: each byte counts once for every byte from it on.
abbrev pub weighted : List ℕ → ℕ
weighted [] = 0
weighted (x ∷ r) = suc (length r) * x + weighted r

-- Rule 2.5: the checksum is the low byte of the weighted sum, and sums of 8 bits give the same.
pub record ChecksumAgrees (s : List ℕ) : Type 0 where
  pub weighs : checksum s ≡ weighted s % 256
  pub narrow : checksum s ≡ second_sum 256 0 0 s
