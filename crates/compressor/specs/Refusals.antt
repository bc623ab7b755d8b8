-- Rule 10.2: what the compressor answers, by its numbers.
use Rattle.std.specs.Prelude.{ℕ, Result, Ok, Err}
use Rattle.compressor.specs.declared.Refusal.{Refusal}
use Rattle.compressor.specs.declared.Refusal.TheVariants.{GainsWrong, LentWrong}

abbrev pub number_of : Refusal → ℕ
number_of GainsWrong = 10
number_of LentWrong = 1

-- The number of a refusal, 0 for none; and how many pairs, none where they are refused.
abbrev pub status_of : {A : Type 0} → Result A Refusal → ℕ
status_of (Ok done) = 0
status_of (Err why) = number_of why

abbrev pub pairs_of : Result ℕ Refusal → ℕ
pairs_of (Ok pairs) = pairs
pairs_of (Err why) = 0
