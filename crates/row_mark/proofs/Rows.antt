-- Marks row by row: what is worked out afresh is right, what is not stays, and the two ways to say that a mark is right.
use Prim.Native.Nat.{ℕ, zero, suc, ◌+◌, ◌-◌, ◌*◌, ◌≤◌, ◌<◌}
use mathlib.Core.Path.{◌≡◌, refl, sym, ap, ◌∙◌}
use mathlib.Core.Bool.{Bool, false}
use mathlib.Core.List.{List}
use native.Mathlib.Decide.{ℕ_discrete}
use native.Mathlib.Nat.{mul-le-mul_left}
use native.Mathlib.Numerals.{add-one}
use native.Mathlib.Omega.{arith}
use lib.ListN.{length, take, drop, get_or, set, length-set}
use lib.Seq.{get_or-set_same, get_or-set_other, ext_get_or}
use Rattle.row_mark.specs.Rows.{each_from, refreshed}

-- The numbers of a row.
abbrev pub row_of : ℕ → ℕ → List ℕ → List ℕ
row_of columns r map = take (2 * columns) (drop (2 * (columns * r)) map)

pub length-refreshed : (f : ℕ → Bool) (r n : ℕ) (mark : List Bool) → length (refreshed f r n mark) ≡ length mark
unfolding refreshed
length-refreshed f r zero mark = refl
length-refreshed f r (suc n) mark = length-refreshed f (suc r) n (set mark r (f r)) ∙ length-set mark r (f r)

-- A row outside of those worked out, and one of them.
pub refreshed-before : (f : ℕ → Bool) (r n : ℕ) (mark : List Bool) (k : ℕ) → k < r → get_or (refreshed f r n mark) k false ≡ get_or mark k false
unfolding refreshed
refreshed-before f r zero mark k h = refl
refreshed-before f r (suc n) mark k h =
    refreshed-before f (suc r) n (set mark r (f r)) k (omega arith) ∙ get_or-set_other mark r k (f r) false (λ e. omega arith)

pub refreshed-behind : (f : ℕ → Bool) (r n : ℕ) (mark : List Bool) (k : ℕ) → r + n ≤ k → get_or (refreshed f r n mark) k false ≡ get_or mark k false
unfolding refreshed
refreshed-behind f r zero mark k h = refl
refreshed-behind f r (suc n) mark k h =
    refreshed-behind f (suc r) n (set mark r (f r)) k (omega arith) ∙ get_or-set_other mark r k (f r) false (λ e. omega arith)

pub refreshed-in : (f : ℕ → Bool) (r n : ℕ) (mark : List Bool) (k : ℕ) → r ≤ k → k < r + n → k < length mark
    → get_or (refreshed f r n mark) k false ≡ f k
unfolding refreshed
refreshed-in f r zero mark k h l m = absurd (omega arith)
refreshed-in f r (suc n) mark k h l m =
    elim (ℕ_discrete k r) [
      | yes e ↦ rw e (refreshed-before f (suc r) n (set mark r (f r)) r (omega arith) ∙ get_or-set_same mark r (f r) false (omega arith))
      | no e ↦ refreshed-in f (suc r) n (set mark r (f r)) k (omega arith) (omega arith) (rw length-set m)
    ]

-- Tests that agree on the rows that are worked out.
pub refreshed-same : (f g : ℕ → Bool) (r n : ℕ) (mark : List Bool) → ((k : ℕ) → r ≤ k → k < r + n → f k ≡ g k)
    → refreshed f r n mark ≡ refreshed g r n mark
unfolding refreshed
refreshed-same f g r zero mark same = refl
refreshed-same f g r (suc n) mark same =
    rw (same r (omega arith) (omega arith)) (refreshed-same f g (suc r) n (set mark r (g r)) (λ k h l. same k (omega arith) (omega arith)))

-- ---- Each of the rows.

pub length-each : (f : ℕ → Bool) (r n : ℕ) → length (each_from f r n) ≡ n
unfolding each_from
length-each f r zero = refl
length-each f r (suc n) = ap suc (length-each f (suc r) n)

pub each_at : (f : ℕ → Bool) (r n k : ℕ) → k < n → get_or (each_from f r n) k false ≡ f (r + k)
unfolding each_from
each_at f r zero k h = absurd (omega arith)
each_at f r (suc n) zero h = let e : r + 0 ≡ r = omega arith in rw e
each_at f r (suc n) (suc k) h = let e : r + suc k ≡ suc r + k = omega arith in rw e (each_at f (suc r) n k (omega arith))

-- A mark of which each bit is the test's is that of all rows.
pub each_right : (f : ℕ → Bool) (n : ℕ) (mark : List Bool) → length mark ≡ n → ((k : ℕ) → k < n → get_or mark k false ≡ f k) → mark ≡ each_from f 0 n
each_right f n mark long right =
    ext_get_or false mark (each_from f 0 n) (rw length-each long)
    (λ k h.
    let e : 0 + k ≡ k = omega arith in
    right k (omega arith) ∙ sym (rw e at (each_at f 0 n k (omega arith))))

-- ---- Rows worked out one after another: what is left to do gives the whole.

pub record Refreshing (f : ℕ → Bool) (first end : ℕ) (mark : List Bool) (row : ℕ) (fresh : List Bool) : Type 0 where
  pub left : refreshed f row (end - row) fresh ≡ refreshed f first (end - first) mark

pub refreshing-turn : {f : ℕ → Bool} {first end : ℕ} {mark : List Bool} {row : ℕ} {fresh next : List Bool} → row < end → next ≡ set fresh row (f row)
    → Refreshing f first end mark row fresh → Refreshing f first end mark (row + 1) next
unfolding refreshed
refreshing-turn {f} {first} {end} {mark} {row} {fresh} {next} h e w =
    let n : end - row ≡ suc (end - suc row) = omega arith in
    record { left = rw (e, add-one row) (rw n at w.left) }

pub refreshing-done : {f : ℕ → Bool} {first end : ℕ} {mark : List Bool} {row : ℕ} {fresh : List Bool} → end ≤ row → Refreshing f first end mark row fresh
    → fresh ≡ refreshed f first (end - first) mark
unfolding refreshed
refreshing-done {end = end} {row = row} h w = let n : end - row ≡ 0 = omega arith in rw n at w.left

-- A row before the end ends there.
pub row_room : (columns row end : ℕ) → row < end → columns * row + columns ≤ columns * end
row_room columns row end h = let e : columns * row + columns ≡ columns * suc row = omega arith in rw e (mul-le-mul_left columns h)
