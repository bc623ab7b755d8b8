use Rattle.std.proofs.Common.{refl, sym, ◌∙◌, arith, replicate}
use lib.ListN.{get_or-replicate, length-replicate}
use Rattle.wire.proofs.Laws.{start, turn, done}
use Rattle.wire.proofs.Copies.{sets-paste}
use Rattle.tables.proofs.fill.Goals as goal

pub overflow_add-at : goal.overflow_add-at
overflow_add-at g c = omega (arith, g.T.Element.laws.short c.args.table.now)

pub put-requires : goal.put-requires
put-requires g c = omega (arith, c.loop-i.invariant.0.long, g.T.Element.laws.short c.args.table.now)

pub loop-i-init : goal.loop-i-init
loop-i-init g c = (start (g.T.Element.numbers c.args.table.now) c.args.at (replicate c.args.n c.args.v) c.args.n, refl)

pub loop-i-preserved : goal.loop-i-preserved
loop-i-preserved g c = let args = c.args in
    let here = get_or-replicate args.n c.loop-i.i args.v 0 (omega arith) in (
      rw c.put.ensures.numbers (turn c.requires (omega (arith, length-replicate args.n args.v)) (omega arith) (sym here) c.loop-i.invariant.0),
      c.put.ensures.behind ∙ c.loop-i.invariant.1,
    )

pub returns-clause-numbers : goal.returns-clause-numbers
returns-clause-numbers g c = let args = c.args in
    let numbers = g.T.Element.numbers args.table.now in
    let many = length-replicate args.n args.v in
    done (omega arith) c.loop-i.invariant.0 ∙ sym (rw many at (sets-paste numbers args.at (replicate args.n args.v) (omega arith)))
