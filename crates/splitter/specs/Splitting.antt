-- Rule 10.4: the splitter's answer, its refusals and the batch that it leaves; from pairs as 16-bit numbers, and as bytes.
use Rattle.std.specs.Prelude.{ℕ, ◌%◌, ◌≤◌, ◌≡◌, Bool, cond, not, ◌||◌, List, [], ◌∷◌, length, drop, eqb, ltb}
use Rattle.wire.specs.First.{first}
use Rattle.wire.specs.Tables.{words}
use Rattle.wire.specs.Buffers.{over}
use Rattle.gain_words.specs.Pairs.{pair_fault, runs_beyond}
use Rattle.upload.specs.Plan.{EachAnnounced}
use Rattle.splitter.specs.Split.{split_packets, split_batch}
use Rattle.splitter.specs.Plain.{SplitOut, SplitPlain}

-- Rule 10.4: the bytes of the packets of a whole colour in runs of 1.
abbrev pub batch_room : ℕ
batch_room = 8234

-- An outcome from its fields.
abbrev pub split_out : ℕ → ℕ → ℕ → List ℕ → SplitOut
split_out status packets bytes batch = record { status = status; packets = packets; bytes = bytes; batch = batch }

-- Rule 10.4: no pairs, a colour over 3, or a run or a gain out of its range.
abbrev pub values_wrong : ℕ → List ℕ → Bool
values_wrong colour ws = eqb (length ws) 0 || ltb 3 colour || ltb (pair_fault ws) (length ws)

-- Rule 10.4: 9 for words that are no pairs, then 10, then 12 for runs past the colour, then 1 for a short batch.
abbrev pub split_refusals : ℕ → ℕ → Bool → List ℕ → List ℕ → List (ℕ × Bool)
split_refusals colour start odd ws batch =
    (9, odd)
    ∷ (10, values_wrong colour ws)
    ∷ (12, runs_beyond start ws)
    ∷ (1, ltb (length batch) batch_room)
    ∷ []

-- Rules 10.3 and 10.4: the packets over the start of the batch, or a refusal and the batch as it was.
abbrev pub split_by : ℕ → ℕ → ℕ → List ℕ → List ℕ → SplitOut
split_by number colour start ws batch =
    cond (eqb number 0)
    (split_out 0 (length (split_packets colour start ws)) (length (split_batch colour start ws)) (over (split_batch colour start ws) batch))
    (split_out number 0 0 batch)

-- Rule 10.4, of pairs that are lent as so many elements a pair, two of 16 bits or four bytes, and are these words.
unfoldable pub splitting : (each colour start : ℕ) → List ℕ → List ℕ → List ℕ → SplitOut
splitting each colour start lent ws batch =
    split_by (first (split_refusals colour start (not (eqb (length lent % each) 0)) ws batch)) colour start ws batch

-- What the splitter promises: the definition's outcome; what is said of it apart from that; how large
-- it can get; and that each packet in the batch has as many bytes as it announces.
pub record SplitRight (each colour start : ℕ) (lent ws batch : List ℕ) (o : SplitOut) : Type 0 where
  pub outcome : o ≡ splitting each colour start lent ws batch
  pub plain : SplitPlain each colour start lent ws batch o
  pub few : (o.packets ≤ 17) × (o.bytes ≤ 8234)
  pub walked : o.status ≡ 0 → EachAnnounced (drop o.bytes o.batch) (split_packets colour start ws)

-- Rule 10.4: the promise on pairs of 16-bit numbers.
abbrev pub SplitNumbers : ℕ → ℕ → List ℕ → List ℕ → SplitOut → Type 0
SplitNumbers colour start pairs batch o = SplitRight 2 colour start pairs pairs batch o

-- Rules 1.3 and 10.4: of an even number of bytes all that is promised on numbers, of the numbers that the bytes hold.
pub record SplitBytes (colour start : ℕ) (pairs batch : List ℕ) (o : SplitOut) : Type 0 where
  pub right : SplitRight 4 colour start pairs (words pairs) batch o
  pub numbers : length pairs % 2 ≡ 0 → SplitNumbers colour start (words pairs) batch o
