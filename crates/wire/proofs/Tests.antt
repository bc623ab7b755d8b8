-- Tests joined by `&&` and `||`, and lists of (number, test): no test of a list holds exactly if the number given is 0.
use Prim.Native.Nat.{ℕ, ◌≤◌, ◌<◌}
use mathlib.Core.Path.{◌≡◌, refl}
use mathlib.Core.Logic.{◌↔◌, ◌⊎◌, inl, inr, ⊎_elim}
use mathlib.Core.Bool.{Bool, true, false, cond, not, ◌&&◌, ◌||◌}
use mathlib.Core.List.{List, [], ◌∷◌, ◌++◌}
use native.Mathlib.Omega.{arith}
use borrow.Author.Tests.{not-true, not-false, ltb-true, ltb-false, leb-true, leb-false, eqb-true, ne_eqb}
use lib.Dec.{eqb}
use Rattle.wire.specs.First.{first}

pub and_left : (a b : Bool) → a && b ≡ true → a ≡ true
and_left true b e = refl
and_left false b e = e

pub and_right : (a b : Bool) → a && b ≡ true → b ≡ true
and_right true b e = e
and_right false b e = cc

pub or_left : (a b : Bool) → a || b ≡ false → a ≡ false
or_left true b e = e
or_left false b e = refl

pub or_right : (a b : Bool) → a || b ≡ false → b ≡ false
or_right true b e = cc
or_right false b e = e

-- A test that holds only where an option is set and two numbers differ.
pub option-true : (a b : Bool) → (a && not b) ≡ false → a ≡ true → b ≡ true
option-true true b h e = not-false b h
option-true false b h e = cc

pub option-false : (a b : Bool) → (a ≡ true → b ≡ true) → (a && not b) ≡ false
option-false true b h = rw h refl
option-false false b h = refl

-- What a joined test tells of its parts, and a part of its numbers: `search told` finds it.
pub ruleset told = (not-true, not-false, and_left, and_right, or_left, or_right, ltb-true, ltb-false, leb-true, leb-false, eqb-true)

-- No test holds.
abbrev pub Silent : List (ℕ × Bool) → Type 0
Silent [] = Unit
Silent (t ∷ ts) = (t.1 ≡ false) × Silent ts

-- No number is 0.
abbrev pub Numbered : List (ℕ × Bool) → Type 0
Numbered [] = Unit
Numbered (t ∷ ts) = (0 < t.0) × Numbered ts

pub silent-first : (ts : List (ℕ × Bool)) → Silent ts → first ts ≡ 0
silent-first [] s = refl
silent-first (t ∷ ts) s = rw s.0 (silent-first ts s.1)

pub first-silent : (ts : List (ℕ × Bool)) → Numbered ts → first ts ≡ 0 → Silent ts
first-silent [] n e = tt
first-silent ((k, true) ∷ ts) n e = absurd (omega arith)
first-silent ((k, false) ∷ ts) n e = (refl, first-silent ts n.1 e)

-- Two lists, one behind the other: the first one's number, or if it has none the other's.
pub first-left : (ts us : List (ℕ × Bool)) → (first ts ≡ 0 → ⊥) → first (ts ++ us) ≡ first ts
first-left [] us h = absurd (h refl)
first-left ((k, true) ∷ ts) us h = refl
first-left ((k, false) ∷ ts) us h = first-left ts us h

pub first-right : (ts us : List (ℕ × Bool)) → Silent ts → first (ts ++ us) ≡ first us
first-right [] us s = refl
first-right (t ∷ ts) us s = rw s.0 (first-right ts us s.1)

pub first-after : (ts us : List (ℕ × Bool)) → Numbered ts → first (ts ++ us) ≡ cond (eqb (first ts) 0) (first us) (first ts)
first-after [] us n = refl
first-after ((k, true) ∷ ts) us n = rw (ne_eqb k 0 (λ e. omega arith))
first-after ((k, false) ∷ ts) us n = first-after ts us n.1

pub none_both : (ts us : List (ℕ × Bool)) → Numbered ts → (first (ts ++ us) ≡ 0) ↔ ((first ts ≡ 0) × (first us ≡ 0))
none_both [] us n = (λ e. (refl, e), λ h. h.1)
none_both ((k, true) ∷ ts) us n = (λ e. absurd (omega arith), λ h. absurd (omega arith))
none_both ((k, false) ∷ ts) us n = none_both ts us n.1

-- A number that stands behind a list is given only if no test of the list holds.
abbrev pub Others : ℕ → List (ℕ × Bool) → Type 0
Others k [] = Unit
Others k (t ∷ ts) = (t.0 ≡ k → ⊥) × Others k ts

pub first-behind : (k : ℕ) (ts us : List (ℕ × Bool)) → Others k ts → first (ts ++ us) ≡ k → Silent ts × (first us ≡ k)
first-behind k [] us o e = (tt, e)
first-behind k ((j, true) ∷ ts) us o e = absurd (o.0 e)
first-behind k ((j, false) ∷ ts) us o e = let h = first-behind k ts us o.1 e in ((refl, h.0), h.1)

-- Every number of a list is at most k, and none is 0; or every number is above k.
abbrev pub Among : ℕ → List (ℕ × Bool) → Type 0
Among k [] = Unit
Among k (t ∷ ts) = (0 < t.0) × (t.0 ≤ k) × Among k ts

abbrev pub Above : ℕ → List (ℕ × Bool) → Type 0
Above k [] = Unit
Above k (t ∷ ts) = (k < t.0) × Above k ts

above_more : (k n : ℕ) (ts : List (ℕ × Bool)) → k ≤ n → Above n ts → Above k ts
above_more k n [] h a = tt
above_more k n (t ∷ ts) h a = (omega arith, above_more k n ts h a.1)

above-left : (k : ℕ) (ts us : List (ℕ × Bool)) → Above k (ts ++ us) → Above k ts
above-left k [] us a = tt
above-left k (t ∷ ts) us a = (a.0, above-left k ts us a.1)

pub first_past : (k : ℕ) (ts : List (ℕ × Bool)) → Above k ts → (first ts ≡ 0) ⊎ (k < first ts)
first_past k [] a = inl refl
first_past k ((j, true) ∷ ts) a = inr a.0
first_past k ((j, false) ∷ ts) a = first_past k ts a.1

above-first : (k : ℕ) (ts : List (ℕ × Bool)) → Above k ts → 0 < k → first ts ≡ k → ⊥
above-first k [] a h e = omega arith
above-first k ((j, true) ∷ ts) a h e = omega arith
above-first k ((j, false) ∷ ts) a h e = above-first k ts a.1 h e

-- What the number n that tests gave tells of test k: given, it holds; passed, as a later number is given or none, it does not.
pub record TestTold (n k : ℕ) (b : Bool) : Type 0 where
  pub given : n ≡ k → b ≡ true
  pub passed : (n ≡ 0) ⊎ (k < n) → b ≡ false

abbrev pub TestsTold : ℕ → List (ℕ × Bool) → Type 0
TestsTold n [] = Unit
TestsTold n (t ∷ ts) = TestTold n t.0 t.1 × TestsTold n ts

pub past-less : {j k n : ℕ} → j ≤ k → (n ≡ 0) ⊎ (k < n) → (n ≡ 0) ⊎ (j < n)
past-less h (inl e) = inl e
past-less h (inr l) = inr (omega arith)

not-past : {k n : ℕ} → 0 < n → n ≤ k → (n ≡ 0) ⊎ (k < n) → ⊥
not-past h l p = ⊎_elim (λ e. omega arith) (λ m. omega arith) p

-- An earlier number tells nothing.
told-above : (n : ℕ) (ts : List (ℕ × Bool)) → 0 < n → Above n ts → TestsTold n ts
told-above n [] h a = tt
told-above n (t ∷ ts) h a =
    (record { given = λ e. absurd (omega arith); passed = λ p. absurd (not-past h (omega arith) p) }, told-above n ts h a.1)

-- Numbers that rise from above k, and others above them all.
abbrev pub Rise : ℕ → List (ℕ × Bool) → List (ℕ × Bool) → Type 0
Rise k [] us = Above k us
Rise k (t ∷ ts) us = (k < t.0) × Rise t.0 ts us

rise-above : (k : ℕ) (ts us : List (ℕ × Bool)) → Rise k ts us → Above k (ts ++ us)
rise-above k [] us r = r
rise-above k (t ∷ ts) us r = (r.0, above_more k t.0 (ts ++ us) (omega arith) (rise-above t.0 ts us r.1))

rise-rows : (k : ℕ) (ts us : List (ℕ × Bool)) → Rise k ts us → TestsTold (first (ts ++ us)) ts
rise-rows k [] us r = tt
rise-rows k ((j, true) ∷ ts) us r = (
  record { given = λ e. refl; passed = λ p. absurd (not-past (omega arith) (omega arith) p) },
  told-above j ts (omega arith) (above-left j ts us (rise-above j ts us r.1)),
)
rise-rows k ((j, false) ∷ ts) us r = (
  record { given = λ e. absurd (above-first j (ts ++ us) (rise-above j ts us r.1) (omega arith) e); passed = λ p. refl },
  rise-rows j ts us r.1,
)

-- Of tests with earlier ones before them and later ones behind them, the number given tells of each.
pub first-told : (k : ℕ) (fs ts us : List (ℕ × Bool)) → Among k fs → Rise k ts us → TestsTold (first (fs ++ (ts ++ us))) ts
first-told k [] ts us a r = rise-rows k ts us r
first-told k ((j, true) ∷ fs) ts us a r =
    told-above j ts a.0 (above_more j k ts a.1 (above-left k ts us (rise-above k ts us r)))
first-told k ((j, false) ∷ fs) ts us a r = first-told k fs ts us a.2 r
