-- What pairs stand for: as many gains as their runs add up to, pair behind pair.
use Prim.Native.Nat.{ℕ, ◌+◌, ◌%◌}
use mathlib.Core.Path.{◌≡◌, refl}
use mathlib.Core.List.{List, [], ◌∷◌, ◌++◌, append_assoc}
use native.Mathlib.Omega.{arith}
use lib.ListN.{length, length-append, length-replicate}
use Rattle.gain_words.specs.Pairs.{expand, sum_runs}
use Rattle.gain_words.specs.Plain.{Pairs, none, pair}

pub length-expand : (ws : List ℕ) → length (expand ws) ≡ sum_runs ws
unfolding expand sum_runs
length-expand [] = refl
length-expand (run ∷ []) = refl
length-expand (run ∷ gain ∷ rest) = rw (length-append, length-replicate, length-expand rest)

pub expand-append : (vs ws : List ℕ) → length vs % 2 ≡ 0 → expand (vs ++ ws) ≡ expand vs ++ expand ws
unfolding expand
expand-append [] ws e = refl
expand-append (run ∷ []) ws e = absurd (omega arith)
expand-append (run ∷ gain ∷ rest) ws e = rw (expand-append rest ws (omega arith), append_assoc)

pub sum-append : (vs ws : List ℕ) → length vs % 2 ≡ 0 → sum_runs (vs ++ ws) ≡ sum_runs vs + sum_runs ws
unfolding sum_runs
sum-append [] ws e = omega arith
sum-append (run ∷ []) ws e = absurd (omega arith)
sum-append (run ∷ gain ∷ rest) ws e = omega (arith, sum-append rest ws (omega arith))

pub pairs-both : (vs ws : List ℕ) → length vs % 2 ≡ 0 → Pairs (vs ++ ws) → Pairs vs × Pairs ws
pairs-both [] ws e p = (none, p)
pairs-both (run ∷ []) ws e p = absurd (omega arith)
pairs-both (run ∷ gain ∷ rest) ws e (pair h k l p) =
    let both = pairs-both rest ws (omega arith) p in
    (pair h k l both.0, both.1)
