-- What contracts inside the crate need, and no rule: the run that gains begin with, the tests that both families share, and what was written.
use Rattle.std.specs.Prelude.{ℕ, suc, ◌/◌, max, ◌≡◌, Bool, cond, List, [], ◌∷◌, length, eqb}
use Rattle.wire.specs.Buffers.{over}
use Rattle.compressor.specs.Compress.{compressed}
use Rattle.compressor.specs.Compressing.{count_wrong}

-- How many gains at the start are one gain.
unfoldable pub lead : ℕ → List ℕ → ℕ
lead gain [] = 0
lead gain (next ∷ rest) = cond (eqb gain next) (suc (lead gain rest)) 0

-- The highest of some gains, 0 for none.
unfoldable pub highest : List ℕ → ℕ
highest [] = 0
highest (gain ∷ gains) = max gain (highest gains)

-- The refusals of both families: a byte over, a count that no colour has, a gain that is too large, a short room.
abbrev pub refusals_of : Bool → ℕ → Bool → Bool → List (ℕ × Bool)
refusals_of odd count large short = (10, odd) ∷ (10, count_wrong count) ∷ (10, large) ∷ (1, short) ∷ []

-- So many pairs, those of the gains, were written over the start of a room, where `put` gives the elements that hold words.
pub record PairsWritten (put : List ℕ → List ℕ) (gains room : List ℕ) (pairs : ℕ) (left : List ℕ) : Type 0 where
  pub many : pairs ≡ length (compressed gains) / 2
  pub room-is : left ≡ over (put (compressed gains)) room
