-- The loop keeps what the law on copying says: the first k bytes stand in their place.
use mathlib.Core.Path.{sym}
use native.Mathlib.Omega.{arith}
use lib.ListN.{length-drop}
use lib.Seq.{get_or-drop}
use Rattle.wire.proofs.Laws.{turn}
use Rattle.wire.proofs.copy.Goals as goal

pub loop-k-preserved : goal.loop-k-preserved
loop-k-preserved c = let args = c.args in
    turn c.requires.0 (rw length-drop (omega arith)) c.loop-k-test.true
    (sym (get_or-drop args.from args.src.now c.loop-k.k 0)) c.loop-k.invariant
