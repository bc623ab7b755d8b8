-- Rules 10.1 and 10.2 with the numbers themselves: what the compressor answers and the room that
-- it leaves, on 16-bit numbers and on bytes. No other outcome meets this (proofs/Determined). And
-- what the names of this crate mean that the contracts cite.
use Rattle.std.specs.Prelude.{ℕ, ◌*◌, ◌%◌, ◌≤◌, ◌<◌, ◌≡◌, ◌↔◌, List, length, take, drop, get_or, Ok, Err}
use Rattle.wire.specs.Tables.{words}
use Rattle.gain_words.specs.Pairs.{expand}
use Rattle.gain_words.specs.Plain.{Pairs}
use Rattle.compressor.specs.declared.Refusal.{Refusal}
use Rattle.compressor.specs.declared.Refusal.TheVariants.{GainsWrong, LentWrong}
use Rattle.compressor.specs.Refusals.{number_of, status_of, pairs_of}

-- A status, how many pairs there are, and the room as it is left.
pub record CompressOut : Type 0 where
  pub status : ℕ
  pub pairs : ℕ
  pub room : List ℕ

-- Rule 10.1: gains that can be compressed: 1 to 2,016 of them, none over 8,191.
pub record Compressible (gains : List ℕ) : Type 0 where
  pub some : 1 ≤ length gains
  pub few : length gains ≤ 2016
  pub small : (k : ℕ) → get_or gains k 0 ≤ 8191

-- Rule 10.2: gains in bytes, low byte first: two for each.
pub record GainBytesRight (gains : List ℕ) : Type 0 where
  pub even : length gains % 2 ≡ 0
  pub numbers : Compressible (words gains)

-- Rule 10.1: so many pairs that stand for the gains: they expand to them, each is one that 2Bh
-- takes, and no words that expand to the gains, whatever their runs, are fewer.
pub record FewestPairs (gains : List ℕ) (n : ℕ) (ws : List ℕ) : Type 0 where
  pub many : length ws ≡ 2 * n
  pub expands : expand ws ≡ gains
  pub sent : Pairs ws
  pub fewest : (vs : List ℕ) → expand vs ≡ gains → length ws ≤ length vs

-- Rule 10.2, of a room of so many elements a pair, two of 16 bits or four bytes, in which the
-- words of the pairs are found by `read`; `right` says that the gains can be compressed.
pub record CompressPlain (each : ℕ) (read : List ℕ → List ℕ) (right : Type 0) (gains room : List ℕ) (o : CompressOut) : Type 0 where
  -- Taken exactly if the gains are right and there is room for the pairs of a whole colour; 10 if
  -- the gains are not right, else 1.
  pub exactly : (o.status ≡ 0) ↔ (right × (each * 2016 ≤ length room))
  pub ten : (o.status ≡ 10) ↔ (right → ⊥)
  pub one : right → length room < each * 2016 → o.status ≡ 1
  -- The pairs written are the fewest that stand for the gains, and no more than a colour has
  -- gains.
  pub found : o.status ≡ 0 → FewestPairs gains o.pairs (read (take (each * o.pairs) o.room))
  pub few : o.pairs ≤ 2016
  -- A refusal has no pairs and changes nothing; behind the pairs the room is as it was.
  pub refused : (o.status ≡ 0 → ⊥) → (o.pairs ≡ 0) × (o.room ≡ room)
  pub behind : drop (each * o.pairs) o.room ≡ drop (each * o.pairs) room
  pub long : length o.room ≡ length room

-- Rule 10.2 on 16-bit numbers.
abbrev pub CompressPlainNumbers : List ℕ → List ℕ → CompressOut → Type 0
CompressPlainNumbers gains room o = CompressPlain 2 (λ ws. ws) (Compressible gains) gains room o

-- Rules 1.3 and 10.2 on bytes.
abbrev pub CompressPlainBytes : List ℕ → List ℕ → CompressOut → Type 0
CompressPlainBytes gains room o = CompressPlain 4 words (GainBytesRight gains) (words gains) room o

-- Rule 10.2: the code's answer: 10 where the gains are not right, 1 where the room is short; a
-- refusal has its number and no pairs, else there are 0 and the pairs.
pub record Pinned : Type 0 where
  pub numbers : (number_of GainsWrong ≡ 10) × (number_of LentWrong ≡ 1)
  pub taken : (pairs : ℕ) → (status_of (Ok pairs) ≡ 0) × (pairs_of (Ok pairs) ≡ pairs)
  pub refused : (why : Refusal) → (status_of {A = ℕ} (Err why) ≡ number_of why) × (pairs_of (Err why) ≡ 0)
