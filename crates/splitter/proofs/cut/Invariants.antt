-- The loop keeps that what is left makes the goal.
use Prim.Native.Nat.{◌-◌}
use mathlib.Core.Path.{◌≡◌}
use Rattle.splitter.proofs.Writing.{Cutting}
use Rattle.splitter.proofs.cut.Given as goal

abbrev pub invariant-loop-i : goal.invariant-loop-i
invariant-loop-i g l =
    Cutting l.colour l.start (g.T.Element.numbers l.pairs) l.fn.batch.buffer.now l.at l.packets l.batch.filled l.i l.batch.buffer.now
    × (l.batch.buffer.ghost_name ≡ l.fn.batch.buffer.ghost_name)

abbrev pub decreases-loop-i : goal.decreases-loop-i
decreases-loop-i g l = l.words - l.i
