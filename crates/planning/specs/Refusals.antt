-- Rule 6.4: what planning answers, by its numbers.
use Rattle.std.specs.Prelude.{ℕ, Result, Ok, Err}
use Rattle.planning.specs.declared.refusal.Refusal.{Refusal}
use Rattle.planning.specs.declared.refusal.Refusal.TheVariants.{PointsWrong, LentWrong}

-- 10 for a number of points that no map has, 1 for a list of a wrong length.
abbrev pub number_of : Refusal → ℕ
number_of PointsWrong = 10
number_of LentWrong = 1

-- The number of a refusal, 0 for none.
abbrev pub status_of : {A : Type 0} → Result A Refusal → ℕ
status_of (Ok made) = 0
status_of (Err why) = number_of why
