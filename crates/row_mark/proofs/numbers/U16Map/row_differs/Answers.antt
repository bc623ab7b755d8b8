-- One point after another; the row differs at the first that does.
use Prim.Native.Nat.{◌*◌}
use mathlib.Core.Path.{sym}
use native.Mathlib.Omega.{arith}
use Rattle.row_mark.proofs.Walk.{alike-on, alike-differs, alike_end, either-differs, neither-differs}
use Rattle.row_mark.proofs.numbers.U16Map.row_differs.Goals as goal

pub returns-then-staged-j : goal.returns-then-staged-j
returns-then-staged-j c = let args = c.args in
    sym (alike-differs args.staged.now args.live.now (args.columns * args.row) args.columns c.loop-i.i (omega arith) (omega arith) (omega arith) c.loop-i.invariant (either-differs _ _ _ _ c.if-staged-j.true))

pub loop-i-preserved : goal.loop-i-preserved
loop-i-preserved c = let args = c.args in
    let same = neither-differs _ _ _ _ c.if-staged-j.false in
    alike-on args.staged.now args.live.now (args.columns * args.row) args.columns c.loop-i.i (omega arith) (omega arith) (omega arith) c.loop-i.invariant same.0 same.1

pub returns : goal.returns
returns c = sym (alike_end c.loop-i-test.false c.loop-i.invariant)
