-- The loop keeps that the numbers up to the i-th rise; a stretch has the first fault, or is passed.
use native.Mathlib.Omega.{arith}
use Rattle.opcode.specs.Internal.{stretch_steps}
use Rattle.opcode.proofs.Laws.{risen-here, risen-past}
use Rattle.opcode.proofs.lists.rise.Goals as goal

pub returns-then-risen-le-STRETCH : goal.returns-then-risen-le-STRETCH
returns-then-risen-le-STRETCH c = let args = c.args in
    let inside = c.within-inside.ensures in
    let e = c.stretch-risen.ensures.0 in
    omega (arith, risen-here args.s.now args.at args.count c.loop-i.i c.loop-i.invariant stretch_steps (omega arith) (omega arith))

pub loop-i-preserved : goal.loop-i-preserved
loop-i-preserved c = let args = c.args in
    let inside = c.within-inside.ensures in
    let e = c.stretch-risen.ensures.0 in
    let past = risen-past args.s.now args.at args.count c.loop-i.i c.loop-i.invariant stretch_steps (omega arith) (omega arith) in
    (omega arith, omega arith)
