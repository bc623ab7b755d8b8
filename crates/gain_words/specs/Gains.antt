-- Rule 5.8: gains as words.
use Rattle.std.specs.Prelude.{ℕ, suc, cond, List, [], ◌∷◌, leb}

-- Rule 5.8: the highest gain.
abbrev pub most_gain : ℕ
most_gain = 8191

-- Rule 5.8: the index of the first gain above the highest, the list's length for none.
unfoldable pub first_large : List ℕ → ℕ
first_large [] = 0
first_large (w ∷ ws) = cond (leb w most_gain) (suc (first_large ws)) 0
