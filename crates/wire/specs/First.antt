-- Rule 4.1: tests are tried in order, and the first that holds gives the number.
use Rattle.std.specs.Prelude.{ℕ, Bool, cond, List, [], ◌∷◌}

-- Rule 4.1: the number of the first test that holds, 0 where none does.
abbrev pub first : List (ℕ × Bool) → ℕ
first [] = 0
first (t ∷ ts) = cond t.1 t.0 (first ts)
