-- Rules 10.3 and 10.4 with the numbers themselves: what the splitter answers and the batch that
-- it leaves; from pairs as 16-bit numbers, and as bytes. No other outcome meets this
-- (proofs/Determined). And what the names mean that the contracts cite.
use Rattle.std.specs.Prelude.{ℕ, ◌+◌, ◌%◌, ◌≤◌, ◌<◌, ◌≡◌, ◌↔◌, List, [], ◌∷◌, ◌++◌, length, take, drop, Ok, Err}
use Rattle.wire.specs.Tables.{words}
use Rattle.gain_words.specs.Pairs.{sum_runs}
use Rattle.gain_words.specs.Plain.{Pairs}
use Rattle.upload.specs.Plan.{joined}
use Rattle.batch.specs.declared.Sent.{Sent}
use Rattle.batch.specs.Pairs.{pairs_packet}
use Rattle.batch.specs.Sending.{packets_of, bytes_of}
use Rattle.splitter.specs.declared.Refusal.{Refusal}
use Rattle.splitter.specs.declared.Refusal.TheVariants.{WordOver, ValueWrong, RunsPast, LentWrong}
use Rattle.splitter.specs.Refusals.{number_of, status_of}

-- A status, how many packets there are and how many bytes they have, and the batch as it is left.
pub record SplitOut : Type 0 where
  pub status : ℕ
  pub packets : ℕ
  pub bytes : ℕ
  pub batch : List ℕ

-- Rule 10.3: full packets, of 250 words, and then one of the rest, each going on behind the gains
-- of the last.
pub data CutUp (colour : ℕ) : ℕ → List ℕ → List (List ℕ) → Type 0 where
  last : {start : ℕ} {ws : List ℕ} → 1 ≤ length ws → length ws ≤ 250 → CutUp colour start ws (pairs_packet colour start ws ∷ [])
  more : {start : ℕ} (ws rest : List ℕ) {ps : List (List ℕ)} → length ws ≡ 250 → 1 ≤ length rest
      → CutUp colour (start + sum_runs ws) rest ps → CutUp colour start (ws ++ rest) (pairs_packet colour start ws ∷ ps)

-- Rule 10.4: pairs, one or more, that 2Bh takes, and a colour 0-3.
pub record PairsRight (colour : ℕ) (ws : List ℕ) : Type 0 where
  pub some : 1 ≤ length ws
  pub pairs : Pairs ws
  pub colour-right : colour ≤ 3

-- Rule 10.4: what can be split: such pairs, whose runs end within the colour.
pub record Splittable (colour start : ℕ) (ws : List ℕ) : Type 0 where
  pub right : PairsRight colour ws
  pub within : start + sum_runs ws ≤ 2016

-- Rules 10.3 and 10.4: some packets of the pairs, one behind the other from the start of the
-- batch on; so many are they, and so many bytes they have.
pub record PacketsWritten (colour start : ℕ) (ws : List ℕ) (o : SplitOut) : Type 0 where
  pub sent : List (List ℕ)
  pub cut : CutUp colour start ws sent
  pub counted : o.packets ≡ length sent
  pub size : o.bytes ≡ length (joined sent)
  pub written : take o.bytes o.batch ≡ joined sent

-- Rule 10.4, of pairs that are lent as so many elements a pair, two of 16 bits or four bytes, and
-- are these words.
pub record SplitPlain (each colour start : ℕ) (lent ws batch : List ℕ) (o : SplitOut) : Type 0 where
  -- Taken exactly if pairs, colour and start are right and the batch has room; else the first
  -- that applies: 9 if the words are no pairs, then 10, then 12, then 1.
  pub exactly : (o.status ≡ 0) ↔ ((length lent % each ≡ 0) × Splittable colour start ws × (8234 ≤ length batch))
  pub nine : (o.status ≡ 9) ↔ (length lent % each ≡ 0 → ⊥)
  pub ten : length lent % each ≡ 0 → (o.status ≡ 10) ↔ (PairsRight colour ws → ⊥)
  pub twelve : length lent % each ≡ 0 → PairsRight colour ws → 2016 < start + sum_runs ws → o.status ≡ 12
  pub one : length lent % each ≡ 0 → Splittable colour start ws → length batch < 8234 → o.status ≡ 1
  pub found : o.status ≡ 0 → PacketsWritten colour start ws o
  -- A refusal has no packets and changes nothing; behind the packets the batch is as it was.
  pub refused : (o.status ≡ 0 → ⊥) → (o.packets ≡ 0) × (o.bytes ≡ 0) × (o.batch ≡ batch)
  pub behind : drop o.bytes o.batch ≡ drop o.bytes batch
  pub long : length o.batch ≡ length batch

-- Rule 10.4 on 16-bit numbers.
abbrev pub SplitPlainNumbers : ℕ → ℕ → List ℕ → List ℕ → SplitOut → Type 0
SplitPlainNumbers colour start pairs batch o = SplitPlain 2 colour start pairs pairs batch o

-- Rules 1.3 and 10.4 on bytes.
abbrev pub SplitPlainBytes : ℕ → ℕ → List ℕ → List ℕ → SplitOut → Type 0
SplitPlainBytes colour start pairs batch o = SplitPlain 4 colour start pairs (words pairs) batch o

-- Rule 10.4: the code's answer: 9 for words that are no pairs, 10 for a value out of its range, 12
-- for runs past the colour, 1 for a short batch; a refusal has its number alone, else there are 0,
-- the packets and the bytes.
pub record Pinned : Type 0 where
  pub numbers : (number_of WordOver ≡ 9) × (number_of ValueWrong ≡ 10) × (number_of RunsPast ≡ 12) × (number_of LentWrong ≡ 1)
  pub taken : (sent : Sent)
      → (status_of (Ok sent) ≡ 0) × (packets_of {E = Refusal} (Ok sent) ≡ sent.packets) × (bytes_of {E = Refusal} (Ok sent) ≡ sent.bytes)
  pub refused : (why : Refusal)
      → (status_of {A = Sent} (Err why) ≡ number_of why) × (packets_of (Err why) ≡ 0) × (bytes_of (Err why) ≡ 0)
