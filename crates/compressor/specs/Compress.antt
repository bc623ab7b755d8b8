-- Rule 10.1: the pairs of some gains.
use Rattle.std.specs.Prelude.{ℕ, suc, cond, List, [], ◌∷◌, eqb}

-- Rule 10.1: one gain more in front of pairs. It lengthens the first run if that is a run of it, and opens one if not.
unfoldable pub push : ℕ → List ℕ → List ℕ
push gain [] = 1 ∷ gain ∷ []
push gain (run ∷ []) = 1 ∷ gain ∷ []
push gain (run ∷ next ∷ rest) = cond (eqb gain next) (suc run ∷ next ∷ rest) (1 ∷ gain ∷ run ∷ next ∷ rest)

-- Rule 10.1: the pairs of gains, from the last gain back.
unfoldable pub compressed : List ℕ → List ℕ
compressed [] = []
compressed (gain ∷ gains) = push gain (compressed gains)
