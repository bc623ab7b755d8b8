-- The loop that follows choices and writes plan and batch: where the choice is 0 a point is passed, elsewhere a packet begins. What is
-- written are the parts so far, and the parts from the point on are still to come.
use Prim.Native.Nat.{ℕ, zero, suc, ◌+◌, ◌-◌, ◌*◌, ◌≤◌, ◌<◌}
use mathlib.Core.Path.{◌≡◌, refl, sym, ap, ◌∙◌}
use mathlib.Core.Bool.{Bool, true, false}
use mathlib.Core.List.{List, [], ◌∷◌, ◌++◌, append_assoc, append-nil, map}
use native.Mathlib.Nat.{add-zero}
use native.Mathlib.Numerals.{add-one}
use native.Mathlib.Omega.{arith}
use lib.ListN.{length, drop, get_or, length-append, drop_of_length-le}
use lib.Seq.{drop-cons, drop-drop, sets, length-sets}
use Rattle.packet.proofs.Stores.{sets-sets, sets_over}
use Rattle.upload.specs.Cost.{rooms, more, choices}
use Rattle.upload.specs.Plan.{Part, plan_from, followed, plan_numbers, cost, packet_for, joined}
use Rattle.upload.specs.Parts.{part, Fits, InOrder, next}
use Rattle.upload.specs.Planning.{Followable, PlanWritten}
use Rattle.upload.proofs.Reading.{meant}

-- Following the choices is the plan.
pub followed-plan : (i k : ℕ) (ds : List Bool) → followed i k (choices ds) ≡ plan_from i k ds
unfolding followed choices plan_from
followed-plan i k [] = refl
followed-plan i (suc k) (d ∷ ds) = followed-plan (suc i) k ds
followed-plan i zero (false ∷ ds) = followed-plan (suc i) zero ds
followed-plan i zero (true ∷ ds) = rw (followed-plan (suc i) (more 125 (rooms ds)) ds)

-- The parts from a point on.
followed-inside : (k i : ℕ) (cs : List ℕ) → followed i k cs ≡ followed (i + k) 0 (drop k cs)
unfolding followed
followed-inside zero i cs = rw (add-zero i)
followed-inside (suc k) i [] = refl
followed-inside (suc k) i (c ∷ cs) = let e : i + suc k ≡ suc i + k = omega arith in rw e (followed-inside k (suc i) cs)

module _ (cs : List ℕ) (i : ℕ) (inside : i < length cs) where
  followed-skip : get_or cs i 0 ≡ 0 → followed i 0 (drop i cs) ≡ followed (i + 1) 0 (drop (i + 1) cs)
  unfolding followed
  followed-skip e = rw (drop-cons cs i 0 inside, e, add-one)

  followed-part : (count : ℕ) → get_or cs i 0 ≡ suc count → followed i 0 (drop i cs) ≡ part i (suc count) ∷ followed (i + suc count) 0 (drop (i + suc count) cs)
  unfolding followed
  followed-part count e =
      let behind : i + suc count ≡ suc i + count = omega arith in
      rw (drop-cons cs i 0 inside, e, behind, ← drop-drop count (suc i) cs, ← followed-inside count (suc i) (drop (suc i) cs))

-- A part of a list in order fits.
part-fits : {n i : ℕ} (ps : List Part) (p : Part) (qs : List Part) → InOrder n i (ps ++ (p ∷ qs)) → Fits n p
part-fits [] p qs (next l f r) = f
part-fits (q ∷ ps) p qs (next l f r) = part-fits {i = q.start + q.count} ps p qs r

-- One part more.
numbers-next : (ps : List Part) (p : Part) → plan_numbers (ps ++ (p ∷ [])) ≡ plan_numbers ps ++ (p.start ∷ p.count ∷ [])
unfolding plan_numbers
numbers-next [] p = refl
numbers-next (q ∷ ps) p = rw (numbers-next ps p)

pub length-numbers : (ps : List Part) → length (plan_numbers ps) ≡ 2 * length ps
unfolding plan_numbers
length-numbers [] = refl
length-numbers (p ∷ ps) = omega (arith, length-numbers ps)

batch-next : (w : List ℕ) (ps : List Part) (p : Part)
    → joined (map (packet_for w) (ps ++ (p ∷ []))) ≡ joined (map (packet_for w) ps) ++ packet_for w p
unfolding joined
batch-next w [] p = append-nil (packet_for w p)
batch-next w (q ∷ ps) p = rw (batch-next w ps p, append_assoc)

cost-append : (ps qs : List Part) → cost (ps ++ qs) ≡ cost ps + cost qs
unfolding cost
cost-append [] qs = omega arith
cost-append (p ∷ ps) qs = omega (arith, cost-append ps qs)

-- What writing is lent: a map of as many points as there are choices, which can be followed, and a plan and a batch that are long
-- enough.
pub record Site (wanted cs plan batch : List ℕ) : Type 0 where
  pub can : Followable cs
  pub wanted-long : length wanted ≡ 2 * length cs
  pub plan-long : length plan ≡ 3968
  pub batch-long : 8032 ≤ length batch

-- What stands in plan and batch at point i.
pub record Walking (w cs plan₀ batch₀ plan batch : List ℕ) (packets size i : ℕ) : Type 0 where
  pub parts : List Part
  pub rest : followed 0 0 cs ≡ parts ++ followed i 0 (drop i cs)
  pub many : packets ≡ length parts
  pub few : packets ≤ i
  pub within : i ≤ length cs
  pub costs : size ≡ cost parts
  pub long : size ≡ length (joined (map (packet_for w) parts))
  pub planned : plan ≡ sets plan₀ 0 (plan_numbers parts)
  pub batched : batch ≡ sets batch₀ 0 (joined (map (packet_for w) parts))

pub walk_start : (w cs plan batch : List ℕ) → Walking w cs plan batch plan batch 0 0 0
unfolding cost plan_numbers joined
walk_start w cs plan batch =
    record {
      parts = [];
      rest = refl;
      many = refl;
      few = omega arith;
      within = omega arith;
      costs = refl;
      long = refl;
      planned = refl;
      batched = refl;
    }

-- Where a packet goes.
pub record Place (points packets size i count : ℕ) (plan batch : List ℕ) : Type 0 where
  pub in-plan : 2 * packets + 1 < length plan
  pub in-batch : size + (6 + 4 * count) ≤ length batch
  pub count-few : count ≤ 126
  pub within : i + count ≤ points

module _ {w cs plan₀ batch₀ : List ℕ} (s : Site w cs plan₀ batch₀) where
  -- A point at which so much stands in plan and batch.
  module _ {plan batch : List ℕ} {packets size i : ℕ} (inside : i < length cs) (t : Walking w cs plan₀ batch₀ plan batch packets size i) where
    pub walk-skip : get_or cs i 0 ≡ 0 → Walking w cs plan₀ batch₀ plan batch packets size (i + 1)
    walk-skip e =
        record {
          parts = t.parts;
          rest = t.rest ∙ rw (followed-skip cs i inside e);
          many = t.many;
          few = omega (arith, t.few);
          within = omega arith;
          costs = t.costs;
          long = t.long;
          planned = t.planned;
          batched = t.batched;
        }

    -- The packet that begins there.
    module _ {count : ℕ} (e : count ≡ get_or cs i 0) (some : 0 < count) where
      here : followed 0 0 cs ≡ t.parts ++ (part i count ∷ followed (i + count) 0 (drop (i + count) cs))
      here =
          let m : count ≡ suc (count - 1) = omega arith in
          t.rest ∙ rw (followed-part cs i inside (count - 1) (sym e ∙ m), ← m)

      fits : Fits (length cs) (part i count)
      fits = part-fits t.parts (part i count) _ (rw here at s.can.in_order)

      pub walk-place : Place (length cs) packets size i count plan batch
      unfolding cost
      walk-place =
          record {
            in-plan = omega (arith, s.can.few, s.plan-long, t.few, simp length-sets at (ap length t.planned));
            in-batch =
                omega (
                  arith,
                  s.can.small,
                  s.batch-long,
                  t.costs,
                  ap cost here,
                  cost-append t.parts (part i count ∷ followed (i + count) 0 (drop (i + count) cs)),
                  simp length-sets at (ap length t.batched),
                );
            count-few = fits.few;
            within = fits.within;
          }

      -- The packet is in the plan and behind what was filled of the batch.
      pub walk_turn : {plan' batch' : List ℕ} {filled : ℕ} → plan' ≡ sets plan (2 * packets) (i ∷ count ∷ [])
          → (filled ≡ size + length (packet_for w (part i count))) × (batch' ≡ sets batch size (packet_for w (part i count)))
          → Walking w cs plan₀ batch₀ plan' batch' (packets + 1) filled (i + count)
      unfolding cost
      walk_turn {plan'} {batch'} f (g, h) =
          let new = part i count in
          let wide = (meant (length cs) w new s.wanted-long fits).size in
          record {
            parts = t.parts ++ (new ∷ []);
            rest = here ∙ sym (append_assoc t.parts (new ∷ []) _);
            many = rw length-append (omega (arith, t.many));
            few = omega (arith, t.few);
            within = fits.within;
            costs = rw cost-append (omega (arith, t.costs, wide));
            long = rw (batch-next, length-append) (omega (arith, t.long));
            planned = f ∙ rw (t.planned, numbers-next) (sets-sets plan₀ 0 (2 * packets) (plan_numbers t.parts) (i ∷ count ∷ []) (omega (arith, t.many, length-numbers t.parts)));
            batched = h ∙ rw (t.batched, batch-next) (sets-sets batch₀ 0 size (joined (map (packet_for w) t.parts)) (packet_for w new) (omega (arith, t.long)));
          }

  -- At the end plan and batch are whole.
  pub walk-done : {plan batch : List ℕ} {packets size i : ℕ} → length cs ≤ i → Walking w cs plan₀ batch₀ plan batch packets size i
      → PlanWritten w (followed 0 0 cs) plan₀ batch₀ plan batch packets size
  unfolding followed
  walk-done {i = i} end t =
      let whole : followed 0 0 cs ≡ t.parts = rw (drop_of_length-le cs {i = i} end) at t.rest ∙ append-nil t.parts in
      rw whole
      (record {
        packets-are = t.many;
        bytes-are = t.long;
        plan-is =
            t.planned
            ∙ sets_over (plan_numbers t.parts) plan₀ (omega (arith, s.can.few, s.plan-long, length-numbers t.parts, t.many, t.few, t.within));
        batch-is =
            t.batched
            ∙ sets_over (joined (map (packet_for w) t.parts)) batch₀ (omega (arith, s.can.small, s.batch-long, t.costs, t.long, ap cost whole));
      })
