-- The loop keeps what the law on copying says. What it reads lies before the place that it copies to, and so is as it was.
use lib.ListN.{drop}
use Rattle.wire.proofs.Laws.{Copying}
use Rattle.front_end.proofs.copy_within.Given as goal

abbrev pub invariant-loop-k : goal.invariant-loop-k
invariant-loop-k l = Copying l.initial.block l.at (drop l.from l.initial.block) l.n l.block l.k
