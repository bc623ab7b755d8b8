-- Rule 6.2 at work: the counts of the plan for points that differ or not, and its bytes.
use Rattle.std.specs.Prelude.{ℕ, ◌≡◌, Bool, true, false, List, [], ◌∷◌, ◌++◌, replicate}
use Rattle.upload.specs.Plan.{plan_from, cost}
use Rattle.upload.specs.Parts.{part, counts}

pub record PlanExample (ds : List Bool) (packets : List ℕ) (bytes : ℕ) : Type 0 where
  pub split : counts (plan_from 0 0 ds) ≡ packets
  pub total : cost (plan_from 0 0 ds) ≡ bytes

pub record Examples : Type 0 where
  -- Rule 8.1: points 0 and 2, in one packet; points 0 and 3, in two.
  pub near : PlanExample (true ∷ false ∷ true ∷ []) (3 ∷ []) 18
  pub apart : PlanExample (true ∷ false ∷ false ∷ true ∷ []) (1 ∷ 1 ∷ []) 20
  -- All of 128 points differ but one: 63 and 64 points, and not 126 of them filled from the left.
  pub gap : PlanExample (replicate 63 true ++ (false ∷ replicate 64 true)) (63 ∷ 64 ∷ []) 520
  pub filled-left : cost (part 0 126 ∷ part 126 2 ∷ []) ≡ 524
