-- Rule 10.3: the packets of some pairs, for a colour and a start.
use Rattle.std.specs.Prelude.{ℕ, zero, suc, ◌+◌, List, [], ◌∷◌, take}
use Rattle.upload.specs.Plan.{joined}
use Rattle.batch.specs.Pairs.{pairs_packet}

-- Rule 10.3: the words of a packet that is not the last; behind the pair that a packet begins with, so many pairs go with it.
abbrev pub packet_words : ℕ
packet_words = 250

abbrev pub more_pairs : ℕ
more_pairs = 124

-- Rule 10.3, from a start on, with k pairs more in the packet last begun: a pair moves the start by its run.
unfoldable pub split_from : ℕ → ℕ → ℕ → List ℕ → List (List ℕ)
split_from colour start k [] = []
split_from colour start k (run ∷ []) = []
split_from colour start (suc k) (run ∷ gain ∷ rest) = split_from colour (start + run) k rest
split_from colour start zero (run ∷ gain ∷ rest) =
    pairs_packet colour start (take packet_words (run ∷ gain ∷ rest)) ∷ split_from colour (start + run) more_pairs rest

-- Rule 10.3: the packets, and the same one behind the other.
abbrev pub split_packets : ℕ → ℕ → List ℕ → List (List ℕ)
split_packets colour start ws = split_from colour start 0 ws

unfoldable pub split_batch : ℕ → ℕ → List ℕ → List ℕ
split_batch colour start ws = joined (split_packets colour start ws)
