-- The loop keeps what the law on the walk says of plan and batch.
use Prim.Native.Nat.{◌-◌}
use mathlib.Core.Path.{◌≡◌}
use lib.ListN.{length}
use Rattle.upload.proofs.Walk.{Site, Walking}
use Rattle.planning.proofs.follow.Given as goal

abbrev pub invariant-loop-i : goal.invariant-loop-i
invariant-loop-i g l =
    let numbers = g.T.Element.numbers in
    Site (numbers l.wanted) l.choices (numbers l.fn.plan) l.fn.batch.buffer.now
    × Walking (numbers l.wanted) l.choices (numbers l.fn.plan) l.fn.batch.buffer.now (numbers l.plan) l.batch.buffer.now l.packets l.batch.filled l.i
    × (l.batch.buffer.ghost_name ≡ l.fn.batch.buffer.ghost_name)

abbrev pub decreases-loop-i : goal.decreases-loop-i
decreases-loop-i g l = length l.choices - l.i
