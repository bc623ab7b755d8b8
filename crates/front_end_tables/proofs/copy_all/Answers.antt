-- The first i are copied.
use Rattle.std.proofs.Common.{ℕ, suc, ◌+◌, ◌<◌, ◌≡◌, refl, sym, ap, subst, ◌∙◌, List, [], ◌∷◌, ◌++◌, length, take, slice_index_or, slice_set, arith}
use Rattle.std.proofs.Math.Seq.{take-suc, take-suc-set, take_all}
use Rattle.std.proofs.lemmas.List.{length-set}
use Rattle.front_end_tables.proofs.copy_all.Goals as goal

next : {X : Type 0} (to from : List X) (i : ℕ) (x : X) → i < length to → i < length from → x ≡ slice_index_or from i x → take i to ≡ take i from
    → take (i + 1) (slice_set to i x) ≡ take (i + 1) from
next to from i x a b e same =
    let on : suc i ≡ i + 1 = omega arith in
    subst (λ k. take k (slice_set to i x) ≡ take k from) on
    (take-suc-set to i x a ∙ ap (λ front. front ++ (x ∷ [])) same ∙ ap (λ y. take i from ++ (y ∷ [])) e ∙ sym (take-suc from i x b))

pub loop-i-init : goal.loop-i-init
loop-i-init g c = (refl, c.requires)

pub loop-i-preserved : goal.loop-i-preserved
loop-i-preserved g c =
    let inv = c.loop-i.invariant in (
      next c.loop-i.to c.args.from.now c.loop-i.i c.index-from-i.result (omega (arith, inv.1)) c.loop-i-test.true c.index-from-i.is inv.0,
      length-set c.loop-i.to c.loop-i.i c.index-from-i.result ∙ inv.1,
    )

pub returns : goal.returns
returns g c =
    let inv = c.loop-i.invariant in
    sym (take_all c.loop-i.i c.loop-i.to (omega (arith, inv.1))) ∙ inv.0 ∙ take_all c.loop-i.i c.args.from.now c.loop-i-test.false
