-- Rule 10.4: what the splitter answers, by its numbers.
use Rattle.std.specs.Prelude.{ℕ, Result, Ok, Err}
use Rattle.splitter.specs.declared.Refusal.{Refusal}
use Rattle.splitter.specs.declared.Refusal.TheVariants.{WordOver, ValueWrong, RunsPast, LentWrong}

abbrev pub number_of : Refusal → ℕ
number_of WordOver = 9
number_of ValueWrong = 10
number_of RunsPast = 12
number_of LentWrong = 1

-- The number of a refusal, 0 for none.
abbrev pub status_of : {A : Type 0} → Result A Refusal → ℕ
status_of (Ok done) = 0
status_of (Err why) = number_of why
