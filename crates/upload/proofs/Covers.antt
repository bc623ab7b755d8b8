-- Lists of parts that cover what differs. The plan is one; none costs less; and of those that cost as much, each is the plan or has
-- lexicographically greater counts.
use Prim.Native.Nat.{ℕ, zero, suc, ◌+◌, ◌*◌, ◌≤◌, ◌<◌}
use mathlib.Core.Path.{◌≡◌, refl, ap}
use mathlib.Core.Bool.{Bool, true, false}
use mathlib.Core.List.{List, [], ◌∷◌}
use mathlib.Core.Logic.{◌⊎◌, inl, inr}
use native.Mathlib.Omega.{arith}
use borrow.Author.Tests.{leb-true, leb-false, le-leb}
use lib.ListN.{length}
use lib.Dec.{leb}
use Rattle.upload.specs.Cost.{best, least, rooms, more}
use Rattle.upload.specs.Plan.{Part, plan_from, cost}
use Rattle.upload.specs.Parts.{part, InOrder, none, next, counts, Less, here, later}
use Rattle.upload.proofs.Least.{least-count}
use Rattle.upload.proofs.Best.{best-falls, best-opens}

-- From point i on, of which ds says which differ: the open packet takes k points more, and then come the parts.
pub data Covers : ℕ → ℕ → List Bool → List Part → Type 0 where
  done : {i : ℕ} → Covers i 0 [] []
  inside : {i k : ℕ} {d : Bool} {ds : List Bool} {ps : List Part} → Covers (suc i) k ds ps → Covers i (suc k) (d ∷ ds) ps
  skip : {i : ℕ} {ds : List Bool} {ps : List Part} → Covers (suc i) 0 ds ps → Covers i 0 (false ∷ ds) ps
  begin : {i c : ℕ} {d : Bool} {ds : List Bool} {ps : List Part} → c ≤ 125 → Covers (suc i) c ds ps
      → Covers i 0 (d ∷ ds) (part i (suc c) ∷ ps)

-- None costs less than the least.
pub covers-least : {i k : ℕ} {ds : List Bool} {ps : List Part} → k ≤ 125 → Covers i k ds ps → best k (rooms ds) ≤ 4 * k + cost ps
unfolding best rooms cost
covers-least h done = omega arith
covers-least h (inside c) = omega (arith, covers-least (omega arith) c)
covers-least h (skip c) = omega (arith, covers-least (omega arith) c)
covers-least h (begin {c = k} {d = true} {ds} l c) = omega (arith, covers-least l c, best-falls k 125 (rooms ds) l)
covers-least h (begin {c = k} {d = false} {ds} l c) = omega (arith, covers-least l c, best-opens k ds (omega arith))

-- What the open packet takes more: nothing if no packet open is as cheap, else one and what it takes after that.
more-stops : (k x : ℕ) (r : List ℕ) → x ≤ best k (x ∷ r) → more k (x ∷ r) ≡ 0
unfolding best more
more-stops zero x r h = refl
more-stops (suc k) x r h = rw (le-leb x (4 + best k r) (omega arith))

-- The plan covers, and costs the least.
pub record Planned (ds : List Bool) (i k : ℕ) : Type 0 where
  pub covers : Covers i (more k (rooms ds)) ds (plan_from i (more k (rooms ds)) ds)
  pub costs : 4 * more k (rooms ds) + cost (plan_from i (more k (rooms ds)) ds) ≡ best k (rooms ds)

-- At a point with no packet open.
closed : (d : Bool) (ds : List Bool) (i : ℕ) → ((k : ℕ) → Planned ds (suc i) k) → Planned (d ∷ ds) i 0
unfolding best rooms more plan_from cost
closed false ds i p = let q = p 0 in record { covers = skip q.covers; costs = q.costs }
closed true ds i p =
    let q = p 125 in
    record { covers = begin (least-count ds 125).most q.covers; costs = omega (arith, q.costs) }

-- With a packet open that may take k points more.
opened : (d : Bool) (ds : List Bool) (i k : ℕ) → Planned (d ∷ ds) i 0 → Planned ds (suc i) k → (b : Bool)
    → leb (least d (rooms ds)) (4 + best k (rooms ds)) ≡ b → Planned (d ∷ ds) i (suc k)
unfolding best rooms more plan_from cost
opened d ds i k z s true e =
    record { covers = rw e z.covers; costs = rw e (omega (arith, leb-true)) }
opened d ds i k z s false e =
    record { covers = rw e (inside s.covers); costs = rw e (omega (arith, leb-false)) }

pub planned : (ds : List Bool) (i k : ℕ) → Planned ds i k
unfolding best rooms more plan_from cost
planned [] i zero = record { covers = done; costs = refl }
planned [] i (suc k) = record { covers = done; costs = refl }
planned (d ∷ ds) i zero = closed d ds i (λ k. planned ds (suc i) k)
planned (d ∷ ds) i (suc k) = opened d ds i k (closed d ds i (λ k. planned ds (suc i) k)) (planned ds (suc i) k) _ refl

-- A list is another, or its counts come before.
abbrev pub First : List Part → List Part → Type 0
First ps qs = (ps ≡ qs) ⊎ Less (counts ps) (counts qs)

-- The same, with a packet open that takes m points more, and another that takes c.
data Ahead (m c : ℕ) (ps qs : List Part) : Type 0 where
  fewer : m < c → Ahead m c ps qs
  alike : m ≡ c → First ps qs → Ahead m c ps qs

begun : (i m c : ℕ) (ps qs : List Part) → Ahead m c ps qs → First (part i (suc m) ∷ ps) (part i (suc c) ∷ qs)
unfolding counts
begun i m c ps qs (fewer h) = inr (here {a = suc m} {b = suc c} (omega arith))
begun i m c ps qs (alike e (inl f)) = inl (rw (e, f))
begun i m c ps qs (alike e (inr l)) = inr (rw e (later l))

more-end : (k : ℕ) → more k (rooms []) ≡ 0
unfolding best rooms more
more-end zero = refl
more-end (suc k) = refl

-- Where nothing is open and nothing is to gain, the open packet of the plan ends too.
more-none : {i : ℕ} (k : ℕ) {d : Bool} {ds : List Bool} {qs : List Part} → Covers i 0 (d ∷ ds) qs → cost qs ≤ best k (rooms (d ∷ ds))
    → more k (rooms (d ∷ ds)) ≡ 0
unfolding best rooms
more-none k {d} {ds} v h = more-stops k (least d (rooms ds)) (rooms ds) (omega (arith, covers-least (omega arith) v))

-- One point further in both packets.
further : (b : Bool) (i : ℕ) {c : ℕ} (k : ℕ) (d : Bool) (ds : List Bool) {qs : List Part} → leb (least d (rooms ds)) (4 + best k (rooms ds)) ≡ b
    → Ahead (more k (rooms ds)) c (plan_from (suc i) (more k (rooms ds)) ds) qs
    → Ahead (more (suc k) (rooms (d ∷ ds))) (suc c) (plan_from i (more (suc k) (rooms (d ∷ ds))) (d ∷ ds)) qs
unfolding best rooms more plan_from
further true i k d ds e a = rw e (fewer (omega arith))
further false i k d ds e (fewer h) = rw e (fewer (omega arith))
further false i k d ds e (alike f g) = rw e (alike (ap suc f) g)

ahead : {i c : ℕ} {ds : List Bool} {qs : List Part} → Covers i c ds qs → (k : ℕ) → c ≤ k → k ≤ 125 → 4 * c + cost qs ≤ best k (rooms ds)
    → Ahead (more k (rooms ds)) c (plan_from i (more k (rooms ds)) ds) qs
unfolding best rooms more plan_from cost
ahead done k l u h = rw (more-end k) (alike refl (inl refl))
ahead (inside v) zero l u h = absurd (omega arith)
ahead (inside {i = i} {d = d} {ds = ds} v) (suc k) l u h =
    further _ i k d ds refl (ahead v k (omega arith) (omega arith) (omega arith))
ahead (skip {ds = ds} v) k l u h =
    rw (more-none k {d = false} {ds = ds} (skip v) (omega arith)) (ahead v 0 (omega arith) (omega arith) (omega (arith, best-falls 0 k (rooms (false ∷ ds)) (omega arith))))
ahead (begin {i = i} {c = c} {d = true} {ds = ds} {ps = qs} w v) k l u h =
    rw (more-none k {d = true} {ds = ds} (begin w v) (omega arith))
    (alike refl (begun i _ c _ qs (ahead v 125 w (omega arith) (omega (arith, best-falls 0 k (rooms (true ∷ ds)) (omega arith))))))
ahead (begin {c = c} {d = false} {ds = ds} w v) k l u h =
    absurd (omega (arith, best-falls 0 k (rooms (false ∷ ds)) (omega arith), covers-least w v, best-opens c ds (omega arith)))

-- A cheapest list that covers is the plan, or its counts come later.
pub first : {ds : List Bool} {qs : List Part} → Covers 0 0 ds qs → cost qs ≤ cost (plan_from 0 0 ds) → First (plan_from 0 0 ds) qs
unfolding more
first {ds} {qs} v h = go (ahead v 0 (omega arith) (omega arith) (omega (arith, (planned ds 0 0).costs)))
  where
    go : Ahead 0 0 (plan_from 0 0 ds) qs → First (plan_from 0 0 ds) qs
    go (fewer l) = absurd (omega arith)
    go (alike e f) = f

-- Lists that cover are lists of parts in order.
pub covers-inside : {i k : ℕ} {ds : List Bool} {ps : List Part} → Covers i k ds ps → k ≤ length ds
covers-inside done = omega arith
covers-inside (inside v) = omega (arith, covers-inside v)
covers-inside (skip v) = omega arith
covers-inside (begin l v) = omega arith

pub in-order-from : {n j : ℕ} {ps : List Part} (i : ℕ) → i ≤ j → InOrder n j ps → InOrder n i ps
in-order-from i h none = none
in-order-from i h (next {p = p} l f r) = next {i = i} {p = p} (omega arith) f r

pub covers-in-order : (n : ℕ) {i k : ℕ} {ds : List Bool} {ps : List Part} → i + length ds ≤ n → Covers i k ds ps → InOrder n (i + k) ps
covers-in-order n h done = none
covers-in-order n {i} h (inside {k = k} v) = in-order-from (i + suc k) (omega arith) (covers-in-order n (omega arith) v)
covers-in-order n {i} h (skip v) = in-order-from (i + 0) (omega arith) (covers-in-order n (omega arith) v)
covers-in-order n {i} h (begin {c = c} l v) =
    next {i = i + 0} {p = part i (suc c)} (omega arith) (record { some = omega arith; few = omega arith; within = omega (arith, covers-inside v) })
    (in-order-from (i + suc c) (omega arith) (covers-in-order n (omega arith) v))
