-- A row looked at point by point, in both maps at once, up to the first that differs.
use Prim.Native.Nat.{ℕ, zero, suc, ◌+◌, ◌-◌, ◌*◌, ◌≤◌, ◌<◌}
use mathlib.Core.Path.{◌≡◌, refl, sym, subst, ◌∙◌}
use mathlib.Core.Bool.{true, false, not, ◌||◌, or_assoc, true≢false}
use mathlib.Core.List.{List, [], ◌∷◌, ◌++◌}
use native.Mathlib.Decide.{ℕ_discrete}
use native.Mathlib.Omega.{arith}
use borrow.Author.Tests.{eq-eqb, ne_eqb}
use lib.ListN.{length, take, drop, get_or, length-take, length-drop}
use lib.Seq.{drop-cons, take-add, drop-drop}
use lib.Dec.{eqb}
use Rattle.wire.proofs.Tests.{told}
use Rattle.row_mark.specs.Rows.{differ, points_differ}

-- What is left of two rows: so many numbers from a place on.
abbrev rest : List ℕ → ℕ → ℕ → List ℕ
rest a at n = take n (drop at a)

-- Two numbers further.
two-on : (a : List ℕ) (at n : ℕ) → at + 1 < length a → rest a at (suc (suc n)) ≡ get_or a at 0 ∷ get_or a (at + 1) 0 ∷ rest a (at + 2) n
two-on a at n h =
    let e : at + 1 ≡ suc at = omega arith in
    let f : at + 2 ≡ suc (suc at) = omega arith in
    rw (drop-cons a at 0 (omega arith), drop-cons a (suc at) 0 (omega arith), e, f)

-- The rows' points from a point on differ exactly if those behind the first i do.
pub record Alike (a b : List ℕ) (start columns i : ℕ) : Type 0 where
  pub same : differ (take (2 * columns) (drop (2 * start) a)) (take (2 * columns) (drop (2 * start) b))
      ≡ differ (take (2 * (columns - i)) (drop (2 * (start + i)) a)) (take (2 * (columns - i)) (drop (2 * (start + i)) b))

-- Before the first point.
pub alike-start : (a b : List ℕ) (start columns : ℕ) → Alike a b start columns 0
alike-start a b start columns =
    let e : start + 0 ≡ start = omega arith in
    let f : columns - 0 ≡ columns = omega arith in
    record { same = rw (e, f) }

-- Where a point's numbers stand.
abbrev place : ℕ → ℕ → ℕ
place start i = 2 * (start + i)

module _ (a b : List ℕ) (start columns i : ℕ) (inside : i < columns) (la : 2 * (start + columns) ≤ length a) (lb : 2 * (start + columns) ≤ length b) where
  -- One point further.
  opened : (c : List ℕ) → 2 * (start + columns) ≤ length c
      → take (2 * (columns - i)) (drop (place start i) c) ≡ get_or c (place start i) 0 ∷ get_or c (place start i + 1) 0 ∷ take (2 * (columns - (i + 1))) (drop (2 * (start + (i + 1))) c)
  opened c l =
      let n : 2 * (columns - i) ≡ suc (suc (2 * (columns - (i + 1)))) = omega arith in
      let p : 2 * (start + (i + 1)) ≡ place start i + 2 = omega arith in
      rw (n, p) (two-on c (place start i) (2 * (columns - (i + 1))) (omega arith))

  pub alike-on : Alike a b start columns i → get_or a (place start i) 0 ≡ get_or b (place start i) 0 → get_or a (place start i + 1) 0 ≡ get_or b (place start i + 1) 0 → Alike a b start columns (i + 1)
  unfolding differ
  alike-on w x y =
      record { same = w.same ∙ rw (opened a la, opened b lb, eq-eqb (get_or a (place start i) 0) (get_or b (place start i) 0) x, eq-eqb (get_or a (place start i + 1) 0) (get_or b (place start i + 1) 0) y) }

  pub alike-differs : Alike a b start columns i → (get_or a (place start i) 0 ≡ get_or b (place start i) 0 → get_or a (place start i + 1) 0 ≡ get_or b (place start i + 1) 0 → ⊥)
      → differ (take (2 * columns) (drop (2 * start) a)) (take (2 * columns) (drop (2 * start) b)) ≡ true
  unfolding differ
  alike-differs w other =
      w.same
      ∙ rw (opened a la, opened b lb)
      (elim (ℕ_discrete (get_or a (place start i) 0) (get_or b (place start i) 0)) [
        | no x ↦ rw (ne_eqb (get_or a (place start i) 0) (get_or b (place start i) 0) x)
        | yes x ↦ rw (eq-eqb (get_or a (place start i) 0) (get_or b (place start i) 0) x, ne_eqb (get_or a (place start i + 1) 0) (get_or b (place start i + 1) 0) (other x))
      ])

pub alike_end : {a b : List ℕ} {start columns i : ℕ} → columns ≤ i → Alike a b start columns i
    → differ (take (2 * columns) (drop (2 * start) a)) (take (2 * columns) (drop (2 * start) b)) ≡ false
unfolding differ
alike_end {columns = columns} {i = i} h w = let none : 2 * (columns - i) ≡ 0 = omega arith in w.same ∙ rw none

-- The test of a point's two numbers.
pub either-differs : (x y u v : ℕ) → (not (eqb x y) || not (eqb u v)) ≡ true → x ≡ y → u ≡ v → ⊥
either-differs x y u v t e f = true≢false (sym t ∙ rw (eq-eqb x y e, eq-eqb u v f))

pub neither-differs : (x y u v : ℕ) → (not (eqb x y) || not (eqb u v)) ≡ false → (x ≡ y) × (u ≡ v)
neither-differs x y u v t = (search (told, t), search (told, t))

-- ---- Several points at a time.

-- A point's numbers are alike.
abbrev pub PointSame : List ℕ → List ℕ → ℕ → Type 0
PointSame a b k = (get_or a (2 * k) 0 ≡ get_or b (2 * k) 0) × (get_or a (2 * k + 1) 0 ≡ get_or b (2 * k + 1) 0)

module _ (a b : List ℕ) (start columns : ℕ) (la : 2 * (start + columns) ≤ length a) (lb : 2 * (start + columns) ≤ length b) where
  -- t points further.
  pub alike-many : (t i : ℕ) → i + t ≤ columns → Alike a b start columns i → ((k : ℕ) → k < t → PointSame a b (start + (i + k))) → Alike a b start columns (i + t)
  alike-many zero i h w same = let e : i + 0 ≡ i = omega arith in subst (Alike a b start columns) (sym e) w
  alike-many (suc t) i h w same =
      let e : i + 1 + t ≡ i + suc t = omega arith in
      let z : start + (i + 0) ≡ start + i = omega arith in
      let first : PointSame a b (start + i) = subst (PointSame a b) z (same 0 (omega arith)) in
      let on = alike-on a b start columns i (omega arith) la lb w first.0 first.1 in
      subst (Alike a b start columns) e
      (alike-many t (i + 1) (omega arith) on
      (λ k l. let f : start + (i + suc k) ≡ start + (i + 1 + k) = omega arith in subst (PointSame a b) f (same (suc k) (omega arith))))

  -- Not all of them are alike.
  pub many-differ : (t i : ℕ) → i + t ≤ columns → Alike a b start columns i → (((k : ℕ) → k < t → PointSame a b (start + (i + k))) → ⊥)
      → points_differ start columns a b ≡ true
  many-differ zero i h w other = absurd (other (λ k l. absurd (omega arith)))
  many-differ (suc t) i h w other =
      go (λ on rest. many-differ t (i + 1) (omega arith) on rest) (ℕ_discrete (get_or a (2 * (start + i)) 0) (get_or b (2 * (start + i)) 0))
      (ℕ_discrete (get_or a (2 * (start + i) + 1) 0) (get_or b (2 * (start + i) + 1) 0))
    where
      here : (get_or a (2 * (start + i)) 0 ≡ get_or b (2 * (start + i)) 0 → get_or a (2 * (start + i) + 1) 0 ≡ get_or b (2 * (start + i) + 1) 0 → ⊥)
          → points_differ start columns a b ≡ true
      here = alike-differs a b start columns i (omega arith) la lb w

      all : PointSame a b (start + i) → ((k : ℕ) → k < t → PointSame a b (start + (i + 1 + k))) → (k : ℕ) → k < suc t → PointSame a b (start + (i + k))
      all first rest zero l = let z : start + i ≡ start + (i + 0) = omega arith in subst (PointSame a b) z first
      all first rest (suc k) l = let f : start + (i + 1 + k) ≡ start + (i + suc k) = omega arith in subst (PointSame a b) f (rest k (omega arith))

      go : (Alike a b start columns (i + 1) → (((k : ℕ) → k < t → PointSame a b (start + (i + 1 + k))) → ⊥) → points_differ start columns a b ≡ true)
          → Dec (get_or a (2 * (start + i)) 0 ≡ get_or b (2 * (start + i)) 0) → Dec (get_or a (2 * (start + i) + 1) 0 ≡ get_or b (2 * (start + i) + 1) 0)
          → points_differ start columns a b ≡ true
      go rest (no x) y = here (λ e f. x e)
      go rest (yes x) (no y) = here (λ e f. y f)
      go rest (yes x) (yes y) = rest (alike-on a b start columns i (omega arith) la lb w x y) (λ same. other (all (x, y) same))

-- ---- Rows in two parts.

differ-append : (a b c d : List ℕ) → length a ≡ length c → differ (a ++ b) (c ++ d) ≡ (differ a c || differ b d)
unfolding differ
differ-append [] b [] d e = refl
differ-append [] b (y ∷ c) d e = absurd (omega arith)
differ-append (x ∷ a) b [] d e = absurd (omega arith)
differ-append (x ∷ a) b (y ∷ c) d e = rw (differ-append a b c d (omega arith)) (sym (or_assoc (not (eqb x y)) (differ a c) (differ b d)))

pub two-parts : (a b : List ℕ) (start m n : ℕ) → 2 * (start + m) ≤ length a → 2 * (start + m) ≤ length b
    → points_differ start (m + n) a b ≡ (points_differ start m a b || points_differ (start + m) n a b)
two-parts a b start m n la lb =
    let e : 2 * (m + n) ≡ 2 * m + 2 * n = omega arith in
    let f : 2 * (start + m) ≡ 2 * start + 2 * m = omega arith in
    let long : (c : List ℕ) → 2 * (start + m) ≤ length c → length (take (2 * m) (drop (2 * start) c)) ≡ 2 * m = λ c l. simp (length-take, length-drop) (omega arith) in
    rw (e, f, take-add (2 * m) (2 * n) (drop (2 * start) a), take-add (2 * m) (2 * n) (drop (2 * start) b), drop-drop (2 * m) (2 * start) a, drop-drop (2 * m) (2 * start) b)
    (differ-append _ _ _ _ (long a la ∙ sym (long b lb)))
