-- A test that is computed along a list holds at each of its places: the rule of a table, whatever stands in it.
use Prim.Native.Nat.{ℕ, zero, suc, ◌+◌, ◌<◌}
use mathlib.Core.Path.{◌≡◌}
use mathlib.Core.Bool.{Bool, true, false, ◌&&◌}
use mathlib.Core.List.{List, [], ◌∷◌}
use native.Mathlib.Omega.{arith}
use lib.Dec.{T}
use lib.ListN.{length, get_or}

pub and_left : (a b : Bool) → T (a && b) → T a
and_left true b t = tt
and_left false b t = t

pub and_right : (a b : Bool) → T (a && b) → T b
and_right true b t = t
and_right false b t = absurd t

module _ {A : Type 0} (test : ℕ → A → Bool) where
  -- The test holds at every element and its place, the first place being i.
  abbrev pub throughout : ℕ → List A → Bool
  throughout i [] = true
  throughout i (x ∷ xs) = test i x && throughout (suc i) xs

  pub there : (none : A) (xs : List A) (i k : ℕ) → T (throughout i xs) → k < length xs → T (test (i + k) (get_or xs k none))
  there none [] i k t h = absurd (omega arith)
  there none (x ∷ xs) i zero t h = let e : i + 0 ≡ i = omega arith in rw e (and_left (test i x) (throughout (suc i) xs) t)
  there none (x ∷ xs) i (suc k) t h =
      let e : i + suc k ≡ suc i + k = omega arith in
      rw e (there none xs (suc i) k (and_right (test i x) (throughout (suc i) xs) t) (omega arith))

  pub everywhere : (none : A) (xs : List A) → T (throughout 0 xs) → (k : ℕ) → k < length xs → T (test k (get_or xs k none))
  everywhere none xs t k h = let e : 0 + k ≡ k = omega arith in rw e at (there none xs 0 k t h)
