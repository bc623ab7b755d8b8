-- Demand 3, about whole lists of packets. What a map costs, `best 0 (rooms (differs map wanted))`, falls with each packet by at most the packet's
-- length, and wanted costs nothing; the plan's packets cost just that.
use Prim.Native.Nat.{ℕ, zero, suc, ◌+◌, ◌*◌, ◌/◌, ◌≤◌}
use mathlib.Core.Path.{◌≡◌, refl, ap, ◌∙◌}
use mathlib.Core.Bool.{Bool, true, false}
use mathlib.Core.List.{List, [], ◌∷◌, ◌++◌, append_assoc, append-nil, map}
use native.Mathlib.Omega.{arith}
use lib.ListN.{length, take, drop, replicate, length-append, length-take, length-drop, length-replicate, replicate-append-replicate}
use lib.Seq.{length-paste, drop-drop, take_at, drop_at}
use Rattle.packet.specs.Frame.{data_of}
use Rattle.packet.specs.Points.{start_of, points_of, count_of, accepted_at, write_points, map_after}
use Rattle.upload.specs.Cost.{differs, best, rooms, more}
use Rattle.upload.specs.Plan.{Part, plan_from, plan_of, cost, packet_for, packets_of, joined, batch_of}
use Rattle.upload.specs.Judge.{maps_after, Turns, total_bytes, AllAccepted, MapOf}
use Rattle.upload.specs.Parts.{part, Fits, InOrder}
use Rattle.upload.proofs.Best.{one-packet, best-bound}
use Rattle.upload.proofs.Covers.{Covers, done, inside, skip, begin, covers-inside, covers-in-order, planned}
use Rattle.upload.proofs.Differs.{differs-long, differs-self, differs_none, cut, differs-write}
use Rattle.upload.proofs.Reading.{sound, meant}

-- What the points that differ cost.
abbrev owed : List ℕ → List ℕ → ℕ
owed m w = best 0 (rooms (differs m w))

owed_none : (n : ℕ) → best 0 (rooms (replicate n false)) ≡ 0
unfolding best rooms
owed_none zero = refl
owed_none (suc n) = owed_none n

-- Points written into a map of n points.
module _ (n : ℕ) (m w pts : List ℕ) (s c : ℕ) (long : length m ≡ 2 * n) (wide : length w ≡ 2 * n) (whole : length pts ≡ 2 * c) (within : s + c ≤ n) where
  length-write : length (write_points s pts m) ≡ 2 * n
  length-write = length-paste m (2 * s) pts (length pts) (omega arith) (omega arith) ∙ long

  owed-write : c ≤ 126 → owed m w ≤ 6 + 4 * c + owed (write_points s pts m) w
  owed-write few =
      let ds : List Bool = differs m w in
      let new : List Bool = differs pts (take (2 * c) (drop (2 * s) w)) in
      let old : List Bool = take c (drop s ds) in
      let all : length ds ≡ n = differs-long n m w long wide in
      let old-long : length old ≡ c = simp (length-take, length-drop) (omega arith) in
      let part-long : length (take (2 * c) (drop (2 * s) w)) ≡ 2 * c = simp (length-take, length-drop) (omega arith) in
      let new-long : length new ≡ c = differs-long c pts (take (2 * c) (drop (2 * s) w)) whole part-long in
      omega (
        arith,
        one-packet (take s ds) old new (drop (s + c) ds) 0 (omega arith) (omega arith) (omega arith),
        ap (λ (l : List Bool). best 0 (rooms l)) (cut s c ds),
        ap (λ (l : List Bool). best 0 (rooms l)) (differs-write m w pts s c (omega arith) whole (omega arith)),
      )

-- Any packet: the map keeps its length, and what it costs falls by at most the packet's length.
pub record After (n : ℕ) (p m w : List ℕ) : Type 0 where
  pub long : length (map_after n p m) ≡ 2 * n
  pub owes : owed m w ≤ length p + owed (map_after n p m) w

pub after : (n : ℕ) (p m w : List ℕ) → length m ≡ 2 * n → length w ≡ 2 * n → After n p m w
unfolding map_after
after n p m w long wide = go (accepted_at n p) refl
  where
    go : (b : Bool) → accepted_at n p ≡ b → After n p m w
    go false e = record { long = rw e long; owes = rw e (omega arith) }
    go true e =
        let d : List ℕ = data_of p in
        let f = sound n p e in
        record {
          long = rw e (length-write n m w (points_of d) (start_of d) (count_of d) long wide f.long f.within);
          owes = rw e (omega (arith, owed-write n m w (points_of d) (start_of d) (count_of d) long wide f.long f.within f.few));
        }

pub owed-least : (n : ℕ) (w : List ℕ) → length w ≡ 2 * n → (ps : List (List ℕ)) (m : List ℕ) → length m ≡ 2 * n → maps_after n ps m ≡ w
    → owed m w ≤ total_bytes ps
unfolding maps_after total_bytes
owed-least n w wide [] m long e =
    rw (e, differs-self n w wide, owed_none n) (omega arith)
owed-least n w wide (p ∷ ps) m long e =
    let a = after n p m w long wide in
    omega (arith, owed-least n w wide ps (map_after n p m) a.long e)

-- A part's packet.
pub record PartAfter (n : ℕ) (w m : List ℕ) (p : Part) : Type 0 where
  pub long : length (map_after n (packet_for w p) m) ≡ 2 * n
  pub differ : differs (map_after n (packet_for w p) m) w
      ≡ take p.start (differs m w) ++ (replicate p.count false ++ drop (p.start + p.count) (differs m w))

pub part-after : (n : ℕ) (w m : List ℕ) (p : Part) → length w ≡ 2 * n → length m ≡ 2 * n → Fits n p → PartAfter n w m p
unfolding map_after
part-after n w m p wide long f =
    let r = meant n w p wide f in
    let pts : List ℕ = take (2 * p.count) (drop (2 * p.start) w) in
    let whole : length pts ≡ 2 * p.count = simp (length-take, length-drop) (omega arith) in
    record {
      long = rw (r.taken, r.starts, r.points) (length-write n m w pts p.start p.count long wide whole f.within);
      differ =
          rw (r.taken, r.starts, r.points)
          (differs-write m w pts p.start p.count (omega arith) whole (omega arith)
          ∙ rw (differs-self p.count pts whole));
    }

-- Parts in order: their packets are accepted, and cost what the parts do.
pub all-accepted : {n i : ℕ} {ps : List Part} (w : List ℕ) → length w ≡ 2 * n → InOrder n i ps → AllAccepted n (map (packet_for w) ps)
all-accepted w wide InOrder.none = AllAccepted.none
all-accepted {n} w wide (InOrder.next {p = p} l f r) = AllAccepted.next (meant n w p wide f).taken (all-accepted w wide r)

pub bytes-cost : {n i : ℕ} {ps : List Part} (w : List ℕ) → length w ≡ 2 * n → InOrder n i ps → total_bytes (map (packet_for w) ps) ≡ cost ps
unfolding total_bytes cost
bytes-cost w wide InOrder.none = refl
bytes-cost {n} w wide (InOrder.next {p = p} l f r) = omega (arith, bytes-cost w wide r, (meant n w p wide f).size)

pub length-joined : (ps : List (List ℕ)) → length (joined ps) ≡ total_bytes ps
unfolding joined total_bytes
length-joined [] = refl
length-joined (p ∷ ps) = rw length-append (omega (arith, length-joined ps))

-- The packets of parts that cover all that differs turn a map into wanted: all before the point and the open packet is as wanted.
skipped : (n : ℕ) (ds : List Bool) → replicate n false ++ (false ∷ ds) ≡ replicate (suc n) false ++ ds
skipped zero ds = refl
skipped (suc n) ds = rw (skipped n ds)

cleared : (i c : ℕ) (d : Bool) (ds all : List Bool) → all ≡ replicate i false ++ (d ∷ ds)
    → take i all ++ (replicate (suc c) false ++ drop (i + suc c) all) ≡ replicate (i + suc c) false ++ drop c ds
cleared i c d ds all e =
    let before : take i all ≡ replicate i false = rw e (take_at (replicate i false) (d ∷ ds) i (length-replicate i false)) in
    let rest : drop (i + suc c) all ≡ drop c ds = rw (e, ← drop-drop (suc c) i (replicate i false ++ (d ∷ ds)), drop_at (replicate i false) (d ∷ ds) i (length-replicate i false)) in
    rw (before, rest, ← append_assoc (replicate i false) (replicate (suc c) false) (drop c ds), replicate-append-replicate i (suc c) false)

pub covers-turn : (n : ℕ) (w : List ℕ) → length w ≡ 2 * n → {i k : ℕ} {ds : List Bool} {ps : List Part} → Covers i k ds ps → i + length ds ≡ n
    → (m : List ℕ) → length m ≡ 2 * n → differs m w ≡ replicate (i + k) false ++ drop k ds → maps_after n (map (packet_for w) ps) m ≡ w
unfolding maps_after
covers-turn n w wide (done {i = i}) e m long h =
    let all : i + 0 ≡ n = omega arith in
    differs_none n m w long wide (h ∙ append-nil (replicate (i + 0) false) ∙ rw all)
covers-turn n w wide (inside {i = i} {k = k} v) e m long h =
    let same : i + suc k ≡ suc i + k = omega arith in
    covers-turn n w wide v (omega arith) m long (h ∙ rw same)
covers-turn n w wide (skip {i = i} {ds = ds} v) e m long h =
    let same : suc (i + 0) ≡ suc i + 0 = omega arith in
    covers-turn n w wide v (omega arith) m long (h ∙ skipped (i + 0) ds ∙ ap (λ (j : ℕ). replicate j false ++ ds) same)
covers-turn n w wide (begin {i = i} {c = c} {d = d} {ds = ds} l v) e m long h =
    let none : i + 0 ≡ i = omega arith in
    let same : i + suc c ≡ suc i + c = omega arith in
    let a = part-after n w m (part i (suc c)) wide long (record { some = omega arith; few = omega arith; within = omega (arith, covers-inside v) }) in
    covers-turn n w wide v (omega arith) _ a.long (a.differ ∙ cleared i c d ds (differs m w) (h ∙ rw none) ∙ rw same)

-- Demand 3.
module _ (n : ℕ) (held wanted : List ℕ) (long : length held ≡ 2 * n) (wide : length wanted ≡ 2 * n) where
  pub plan-covers : Covers 0 0 (differs held wanted) (plan_of held wanted)
  unfolding plan_of more
  plan-covers = (planned (differs held wanted) 0 0).covers

  pub plan-in-order : InOrder n 0 (plan_of held wanted)
  plan-in-order = covers-in-order n (omega (arith, differs-long n held wanted long wide)) plan-covers

  pub plan-cost : cost (plan_of held wanted) ≡ owed held wanted
  unfolding plan_of more
  plan-cost = omega (arith, (planned (differs held wanted) 0 0).costs)

  pub batch-cost : length (batch_of held wanted) ≡ cost (plan_of held wanted)
  unfolding batch_of packets_of
  batch-cost = length-joined (packets_of held wanted) ∙ bytes-cost wanted wide plan-in-order

-- For every N, of which rule 6.1 takes 1 to 1,984.
-- Demand 3 (rule 7.3) of the batch that the definitions give.
pub record Demand3 (n : ℕ) (held wanted : List ℕ) : Type 0 where
  pub turns : Turns n held wanted (packets_of held wanted)
  pub accepted : AllAccepted n (packets_of held wanted)
  pub bytes : length (batch_of held wanted) ≡ total_bytes (packets_of held wanted)
  pub fewest : (ps : List (List ℕ)) → Turns n held wanted ps → length (batch_of held wanted) ≤ total_bytes ps

pub demand3 : (n : ℕ) (held wanted : List ℕ) → MapOf n held → MapOf n wanted → Demand3 n held wanted
unfolding packets_of batch_of
demand3 n held wanted h w =
    record {
      turns = covers-turn n wanted w.long (plan-covers n held wanted h.long w.long) (omega (arith, differs-long n held wanted h.long w.long)) held h.long refl;
      accepted = all-accepted wanted w.long (plan-in-order n held wanted h.long w.long);
      bytes = length-joined (packets_of held wanted);
      fewest = λ ps e.
          omega (
            arith,
            batch-cost n held wanted h.long w.long,
            plan-cost n held wanted h.long w.long,
            owed-least n wanted w.long ps held h.long e,
          );
    }

-- Rule 6.2: the bound on the bytes of a plan.
pub plan-bound : (n : ℕ) (held wanted : List ℕ) → MapOf n held → MapOf n wanted → cost (plan_of held wanted) ≤ 4 * n + 6 * ((n + 125) / 126)
plan-bound n held wanted h w =
    let all = differs-long n held wanted h.long w.long in
    omega (arith, plan-cost n held wanted h.long w.long, best-bound 0 ((n + 125) / 126) (differs held wanted) (omega arith))

pub batch-bound : (n : ℕ) (held wanted : List ℕ) → MapOf n held → MapOf n wanted → length (batch_of held wanted) ≤ 4 * n + 6 * ((n + 125) / 126)
batch-bound n held wanted h w = omega (arith, batch-cost n held wanted h.long w.long, plan-bound n held wanted h w)

-- Equal maps give no packet.
plan-none : (n i : ℕ) → plan_from i 0 (replicate n false) ≡ []
unfolding plan_from
plan-none zero i = refl
plan-none (suc n) i = plan-none n (suc i)

pub plan-equal : (n : ℕ) (m : List ℕ) → MapOf n m → plan_of m m ≡ []
unfolding plan_of
plan-equal n m h = rw (differs-self n m h.long) (plan-none n 0)
