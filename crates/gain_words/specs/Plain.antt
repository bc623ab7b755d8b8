-- Rule 5.11: what pairs may be, what they stand for and what their runs add up to, with the numbers
-- themselves.
use Rattle.std.specs.Prelude.{ℕ, ◌+◌, ◌≤◌, ◌≡◌, List, [], ◌∷◌, ◌++◌, replicate}
use Rattle.gain_words.specs.Pairs.{expand, sum_runs}

-- Rule 5.11: what pairs may be: each run 1 to 2,016, each gain at most 8,191.
pub data Pairs : List ℕ → Type 0 where
  none : Pairs []
  pair : {run gain : ℕ} {rest : List ℕ} → 1 ≤ run → run ≤ 2016 → gain ≤ 8191 → Pairs rest → Pairs (run ∷ gain ∷ rest)

-- What the names mean, clause by clause.
pub record Pinned : Type 0 where
  pub expand-0 : expand [] ≡ []
  pub expand-1 : (run : ℕ) → expand (run ∷ []) ≡ []
  pub expand-2 : (run gain : ℕ) (rest : List ℕ) → expand (run ∷ gain ∷ rest) ≡ replicate run gain ++ expand rest
  pub runs-0 : sum_runs [] ≡ 0
  pub runs-1 : (run : ℕ) → sum_runs (run ∷ []) ≡ 0
  pub runs-2 : (run gain : ℕ) (rest : List ℕ) → sum_runs (run ∷ gain ∷ rest) ≡ run + sum_runs rest
