-- The loop passes whole pairs, none of which has a fault.
use Rattle.std.proofs.Common.{◌%◌, ◌≡◌, sym, ◌∙◌, arith}
use Rattle.splitter.proofs.Faults.{part_wrong, part_right, part_even, none_behind}
use Rattle.splitter.proofs.some_fault.Given.{Over}
use Rattle.splitter.proofs.some_fault.Goals.{After-min-n}
use Rattle.splitter.proofs.some_fault.Goals as goal

-- The part has whole pairs, as what is left has.
whole : (g : Over) (c : After-min-n g) → c.min-n.result % 2 ≡ 0
whole g c = omega (arith, c.requires, c.count-words.ensures, c.min-n.ensures, c.loop-i.invariant.1)

pub fault_in-requires : goal.fault_in-requires
fault_in-requires g c =
    let w = whole g (goal.at.fault_in-requires g c).After-min-n in
    rw c.part.ensures (part_even (g.T.Element.numbers c.args.pairs.now) c.loop-i.i c.min-n.result w (omega (arith, c.count-words.ensures, c.min-n.ensures)))

pub returns-then-fault_in : goal.returns-then-fault_in
returns-then-fault_in g c =
    let w = whole g (goal.at.returns-then-fault_in g c).After-min-n in
    let wrong = rw c.part.ensures at (sym c.fault_in.ensures ∙ c.if-fault_in.true) in
    sym (part_wrong (g.T.Element.numbers c.args.pairs.now) c.loop-i.i c.min-n.result w wrong) ∙ c.loop-i.invariant.0

pub loop-i-preserved : goal.loop-i-preserved
loop-i-preserved g c =
    let w = whole g (goal.at.loop-i-preserved g c).After-min-n in
    let right = rw c.part.ensures at (sym c.fault_in.ensures ∙ c.if-fault_in.false) in (
      sym (part_right (g.T.Element.numbers c.args.pairs.now) c.loop-i.i c.min-n.result w right) ∙ c.loop-i.invariant.0,
      omega (arith, w, c.loop-i.invariant.1),
    )

pub returns : goal.returns
returns g c =
    sym (none_behind (g.T.Element.numbers c.args.pairs.now) c.loop-i.i (omega (arith, c.count-words.ensures))) ∙ c.loop-i.invariant.0
