-- The answer's numbers are small: a plan has no more packets than bytes, and its batch is no longer than the buffer.
use Prim.Native.Nat.{ℕ, ◌≤◌}
use mathlib.Core.List.{List, [], ◌∷◌}
use native.Mathlib.Decide.{ℕ_discrete}
use native.Mathlib.Omega.{arith}
use lib.ListN.{length}
use Rattle.upload.specs.Plan.{Part, cost}
use Rattle.upload.specs.Plain.{PlanLists, PlanOut}
use Rattle.upload.specs.Planning.{PlannedBytes}

few-parts : (ps : List Part) → length ps ≤ cost ps
unfolding cost
few-parts [] = omega arith
few-parts (p ∷ ps) = let rest = few-parts ps in omega arith

pub answer-small : {n : ℕ} {held wanted : List ℕ} {s : PlanLists} {o : PlanOut} → PlannedBytes n held wanted s o → (o.packets ≤ 8032) × (o.bytes ≤ 8032)
answer-small {o = o} t =
    elim (ℕ_discrete o.status 0) [
      | no w ↦ let none = t.plain.refusals.refused w in (omega (arith, none.packets), omega (arith, none.bytes))
      | yes z ↦
          let right = t.plain.refusals.exactly.0 z in
          let p = (t.plain.numbers z).plan in
          let few = right.0.few in
          (omega (arith, few-parts p.parts, p.as_many, p.total, p.bound), omega (arith, p.bound))
    ]
