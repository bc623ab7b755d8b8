-- What the names of this crate mean that plain promises cite, clause by clause and with the numbers
-- themselves; and what it is to give the first refusal that applies. A reader who believes this
-- file need not believe the definitions that it speaks of.
use Rattle.std.specs.Prelude.{ℕ, ◌+◌, ◌*◌, ◌/◌, ◌%◌, ◌<◌, ◌≡◌, ◌⊎◌, List, [], ◌∷◌, ◌++◌, length, drop, get_or, Some, None, Ok, Err}
use Rattle.wire.specs.Numbers.{byte_at, word_at, long_at, word_bytes}
use Rattle.wire.specs.Tables.{words, bytes, longs, long_bytes}
use Rattle.wire.specs.Checksum.{weighted, checksum}
use Rattle.wire.specs.Buffers.{over}
use Rattle.wire.specs.Refusals.{number_of, place_of, status_of, fault_of, status_if, fault_if}
use Rattle.wire.specs.declared.refusal.Refusal.{Refusal}
use Rattle.wire.specs.declared.refusal.Refusal.TheVariants.{LentWrong, TooShort, TooLong, LengthDiffers}
use Rattle.wire.specs.declared.refusal.Refusal.TheVariants.{ChecksumDiffers, NotForUs, Unknown, LacksLength}
use Rattle.wire.specs.declared.refusal.Refusal.TheVariants.{SizeWrong, ValueWrong, NamedOnly, RunsPast}

-- Rule 4.1: of refusals that apply or not, each by a condition of its own, the number given is the
-- least that applies; 0 is given where none does.
pub record Least (Applies : ℕ → Type 0) (n : ℕ) : Type 0 where
  pub applies : (n ≡ 0 → ⊥) → Applies n
  pub passed : {k : ℕ} → (n ≡ 0) ⊎ (k < n) → Applies k → ⊥

-- Every number is a byte.
abbrev pub Bytes : List ℕ → Type 0
Bytes s = (k : ℕ) → get_or s k 0 < 256

-- Rules 2.3 and 1.3: numbers low byte first, past the end 0; rule 2.5: the checksum by weights;
-- rule 4.2: bytes over the start of a buffer.
pub record Pinned : Type 0 where
  pub byte : (s : List ℕ) (i : ℕ) → byte_at s i ≡ get_or s i 0
  pub word : (s : List ℕ) (i : ℕ) → word_at s i ≡ get_or s i 0 + 256 * get_or s (i + 1) 0
  pub long : (s : List ℕ) (i : ℕ)
      → long_at s i ≡ get_or s i 0 + 256 * get_or s (i + 1) 0 + 65536 * get_or s (i + 2) 0 + 16777216 * get_or s (i + 3) 0
  pub word-bytes : (n : ℕ) → word_bytes n ≡ n % 256 ∷ n / 256 ∷ []
  -- Tables of numbers of two bytes, and of four; bytes that make no whole number count for none.
  pub words-0 : words [] ≡ []
  pub words-1 : (x : ℕ) → words (x ∷ []) ≡ []
  pub words-2 : (x y : ℕ) (r : List ℕ) → words (x ∷ y ∷ r) ≡ (x + 256 * y) ∷ words r
  pub bytes-0 : bytes [] ≡ []
  pub bytes-1 : (n : ℕ) (r : List ℕ) → bytes (n ∷ r) ≡ n % 256 ∷ n / 256 ∷ bytes r
  pub longs-0 : longs [] ≡ []
  pub longs-1 : (x : ℕ) → longs (x ∷ []) ≡ []
  pub longs-2 : (x y : ℕ) → longs (x ∷ y ∷ []) ≡ []
  pub longs-3 : (x y z : ℕ) → longs (x ∷ y ∷ z ∷ []) ≡ []
  pub longs-4 : (x y z w : ℕ) (r : List ℕ) → longs (x ∷ y ∷ z ∷ w ∷ r) ≡ (x + 256 * y + 65536 * (z + 256 * w)) ∷ longs r
  pub long-bytes-0 : long_bytes [] ≡ []
  pub long-bytes-1 : (n : ℕ) (r : List ℕ)
      → long_bytes (n ∷ r) ≡ n % 65536 % 256 ∷ n % 65536 / 256 ∷ n / 65536 % 256 ∷ n / 65536 / 256 ∷ long_bytes r
  -- Each byte counts once for every byte from it on, and the low byte of the sum is sent.
  pub weights-0 : weighted [] ≡ 0
  pub weights-1 : (x : ℕ) (r : List ℕ) → weighted (x ∷ r) ≡ (length r + 1) * x + weighted r
  pub sum : (s : List ℕ) → checksum s ≡ weighted s % 256
  pub overwritten : (s buffer : List ℕ) → over s buffer ≡ s ++ drop (length s) buffer
  -- Rule 4.1: the refusals by their numbers. Rule 4.6: the place that 10 alone names.
  pub numbers-1 : (number_of LentWrong ≡ 1) × (number_of TooShort ≡ 2) × (number_of TooLong ≡ 3)
  pub numbers-4 : (number_of LengthDiffers ≡ 4) × (number_of ChecksumDiffers ≡ 5) × (number_of NotForUs ≡ 6)
  pub numbers-7 : (number_of Unknown ≡ 7) × (number_of LacksLength ≡ 8) × (number_of SizeWrong ≡ 9)
  pub numbers-10 : (at : ℕ) → (number_of (ValueWrong at) ≡ 10) × (number_of NamedOnly ≡ 11) × (number_of RunsPast ≡ 12)
  pub named-place : (at : ℕ) → place_of (ValueWrong at) ≡ at
  pub no-place : (why : Refusal) → (number_of why ≡ 10 → ⊥) → place_of why ≡ 0
  -- Rule 3.4: the status and the place that are told of a result that holds nothing, and of a
  -- refusal that there may be: those of the refusal; of what is taken 0.
  pub told-taken : (status_of {A = Unit} (Ok tt) ≡ 0) × (fault_of {A = Unit} (Ok tt) ≡ 0)
  pub told-refused : (why : Refusal) → (status_of {A = Unit} (Err why) ≡ number_of why) × (fault_of {A = Unit} (Err why) ≡ place_of why)
  pub told-none : (status_if None ≡ 0) × (fault_if None ≡ 0)
  pub told-some : (why : Refusal) → (status_if (Some why) ≡ number_of why) × (fault_if (Some why) ≡ place_of why)
