-- The loop keeps what the law on copying says. What it reads lies before the place that it copies to, and so is as it was.
use Prim.Native.Nat.{◌+◌, ◌≤◌}
use mathlib.Core.Path.{◌≡◌}
use native.Mathlib.Omega.{arith}
use lib.ListN.{length, drop, get_or, length-drop}
use lib.Seq.{get_or-drop}
use Rattle.wire.proofs.Laws.{turn}
use Rattle.wire.proofs.Copies.{before-paste}
use Rattle.front_end.proofs.copy_within.Goals as goal

pub loop-k-preserved : goal.loop-k-preserved
loop-k-preserved c = let now = c.loop-k in
    let args = c.args in
    let block = args.block.now in
    let enough : args.n ≤ length (drop args.from block) = rw length-drop (omega arith) in
    let same : get_or now.block (args.from + now.k) 0 ≡ get_or (drop args.from block) now.k 0 =
    rw (now.invariant.copied, get_or-drop args.from block now.k 0)
    (before-paste block (drop args.from block) args.at now.k (omega arith) (omega arith) (args.from + now.k) (omega arith)) in
    turn c.requires.1 enough c.loop-k-test.true same now.invariant
