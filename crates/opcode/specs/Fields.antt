-- Rule 4.1, 10: fields of a command's data and the first of them at fault, in packet order.
use Rattle.std.specs.Prelude.{ℕ, zero, suc, ◌+◌, Bool, cond, not, ◌&&◌, List, [], ◌∷◌, eqb, leb, ltb}
use Rattle.wire.specs.Numbers.{byte_at, word_at, long_at}
use Rattle.opcode.specs.declared.Field.{Field}

-- A field of so many bytes that takes the numbers from low to high.
abbrev pub from_to : ℕ → ℕ → ℕ → Field
from_to size low high = record { size = size; low = low; high = high; gap = 0; past = 0 }

-- The same but for the numbers from gap up to, and not with, past.
abbrev pub from_to_but : ℕ → ℕ → ℕ → ℕ → ℕ → Field
from_to_but size low high gap past = record { size = size; low = low; high = high; gap = gap; past = past }

abbrev pub byte : ℕ → ℕ → Field
byte low high = from_to 1 low high

abbrev pub word : ℕ → ℕ → Field
word low high = from_to 2 low high

-- The bytes of fields that stand one behind the other.
abbrev pub span : List Field → ℕ
span [] = 0
span (f ∷ fs) = f.size + span fs

-- Whether a field takes a number.
abbrev pub takes : Field → ℕ → Bool
takes f v = leb f.low v && leb v f.high && not (leb f.gap v && ltb v f.past)

-- The number of one, two or four bytes at a place.
abbrev pub number : ℕ → List ℕ → ℕ → ℕ
number size d at = cond (eqb size 1) (byte_at d at) (cond (eqb size 2) (word_at d at) (long_at d at))

-- The place of the first field that does not take its number, the fields standing one behind the other from a place on; the place
-- behind the last field if each takes its own.
unfoldable pub fault : List Field → List ℕ → ℕ → ℕ
fault [] d at = at
fault (f ∷ fs) d at = cond (takes f (number f.size d at)) (fault fs d (at + f.size)) at

-- The n 16-bit numbers from a place on.
unfoldable pub words_at : List ℕ → ℕ → ℕ → List ℕ
words_at d at zero = []
words_at d at (suc n) = word_at d at ∷ words_at d (at + 2) n

-- How many numbers, one after the other, are each above the one before, the first of them above `last`.
unfoldable pub rise_from : ℕ → List ℕ → ℕ
rise_from last [] = 0
rise_from last (w ∷ ws) = cond (ltb last w) (suc (rise_from w ws)) 0

-- Rule 5.5: the index of the first number that is not above the one before it, the list's length for none.
unfoldable pub rise : List ℕ → ℕ
unfolding rise_from
rise [] = 0
rise (w ∷ ws) = suc (rise_from w ws)
