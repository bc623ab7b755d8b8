-- The loop passes whole pairs, none of which has a fault.
use Rattle.std.proofs.Common.{◌-◌, ◌%◌, ◌≡◌, drop}
use Rattle.splitter.proofs.Faults.{faulty}
use Rattle.splitter.proofs.some_fault.Given as goal

abbrev pub invariant-loop-i : goal.invariant-loop-i
invariant-loop-i g l =
    let ws = g.T.Element.numbers l.pairs in
    (faulty (drop l.i ws) ≡ faulty ws) × (l.i % 2 ≡ 0)

abbrev pub decreases-loop-i : goal.decreases-loop-i
decreases-loop-i g l = l.words - l.i
