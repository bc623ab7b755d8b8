-- Each packet announces two bytes or more, so the walk ends; it stays within the batch by its own test.
use Rattle.std.proofs.Common.{◌-◌}
use Rattle.bench.proofs.show_packets.Given as goal

abbrev pub invariant-loop-at : goal.invariant-loop-at
invariant-loop-at g l = Unit

abbrev pub decreases-loop-at : goal.decreases-loop-at
decreases-loop-at g l = l.n - l.at
