-- The loop keeps what the law on copying says: the first k bytes stand in their place.
use lib.ListN.{drop}
use Rattle.wire.proofs.Laws.{Copying}
use Rattle.wire.proofs.copy.Given as goal

abbrev pub invariant-loop-k : goal.invariant-loop-k
invariant-loop-k l = Copying l.initial.dst l.at (drop l.from l.src) l.n l.dst l.k
