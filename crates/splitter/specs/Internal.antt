-- What contracts inside the crate need, and no rule: what is answered where nothing is refused.
use Rattle.std.specs.Prelude.{ℕ, List, length}
use Rattle.wire.specs.Buffers.{over}
use Rattle.splitter.specs.Split.{split_packets, split_batch}
use Rattle.splitter.specs.Splitting.{split_out}
use Rattle.splitter.specs.Plain.{SplitOut}

-- The packets over the start of a batch.
abbrev pub split_done : ℕ → ℕ → List ℕ → List ℕ → SplitOut
split_done colour start ws batch =
    split_out 0 (length (split_packets colour start ws)) (length (split_batch colour start ws)) (over (split_batch colour start ws) batch)
