-- The loop keeps that a fault so far, or one behind, is one of all.
use Rattle.std.proofs.Common.{◌≡◌, ◌||◌, ◌*◌, drop}
use Rattle.splitter.proofs.Faults.{faulty}
use Rattle.splitter.proofs.fault_in.Given as goal

abbrev pub invariant-loop-k : goal.invariant-loop-k
invariant-loop-k g l =
    let ws = g.T.Element.numbers l.part in
    (l.wrong || faulty (drop (2 * l.k) ws)) ≡ faulty ws
