-- The loop keeps that what is left makes the goal.
use Rattle.std.proofs.Common.{refl, ap, ◌∙◌, arith}
use Rattle.splitter.proofs.Writing.{NextFits, begun, placed, turned, ended, part-long}
use Rattle.splitter.proofs.cut.Given.{Over}
use Rattle.splitter.proofs.cut.Goals.{After-part-part}
use Rattle.splitter.proofs.cut.Goals as goal

-- The next packet has its place.
place : (g : Over) (c : After-part-part g)
    → (let loop = c.loop-i in
    NextFits c.args.colour c.args.start (g.T.Element.numbers c.args.pairs.now) c.args.batch.now.buffer.now loop.at loop.packets loop.batch.filled loop.i c.min-n.result loop.batch.buffer.now)
place g c =
    placed _ _ _ _ c.requires.0 c.requires.1 c.loop-i.invariant.0 c.count-words.ensures c.loop-i-test.true c.min-n.ensures

pub loop-i-init : goal.loop-i-init
loop-i-init g c = let pre = c.requires in
    (rw pre.2 (begun _ _ _ _ pre.0 pre.1), refl)

pub put_pairs-requires : goal.put_pairs-requires
put_pairs-requires g c =
    let p = place g (goal.at.put_pairs-requires g c).After-part-part in
    let long = part-long _ c.loop-i.i c.min-n.result p.within in
    rw (c.part-part.ensures, long) (p.room-left, p.size_fits, p.colour-fits, p.start_fits)

pub runs_sum-at-requires : goal.runs_sum-at-requires
runs_sum-at-requires g c =
    let p = place g (goal.at.runs_sum-at-requires g c).After-part-part in
    rw c.part-part.ensures (omega (arith, p.runs_fit))

pub overflow_add-at : goal.overflow_add-at
overflow_add-at g c =
    let p = place g (goal.at.overflow_add-at g c).After-part-part in
    omega (arith, p.runs_fit, rw c.part-part.ensures at c.runs_sum-at.ensures)

pub overflow_add-packets : goal.overflow_add-packets
overflow_add-packets g c =
    let p = place g (goal.at.overflow_add-packets g c).After-part-part in
    omega (arith, p.few)

pub loop-i-preserved : goal.loop-i-preserved
loop-i-preserved g c =
    let inv = c.loop-i.invariant in
    let put = rw c.part-part.ensures at c.put_pairs.ensures in (
      turned _ _ _ _ c.requires.0 c.requires.1 inv.0 c.count-words.ensures c.loop-i-test.true c.min-n.ensures
          (ap (λ b. b.filled) put, ap (λ b. b.buffer.now) put) (rw c.part-part.ensures at c.runs_sum-at.ensures),
      ap (λ b. b.buffer.ghost_name) put ∙ inv.1,
    )

pub returns-clause-written : goal.returns-clause-written
returns-clause-written g c =
    ended _ _ _ _ c.requires.0 c.requires.1 c.loop-i.invariant.0 (omega (arith, c.count-words.ensures))
