-- The loop keeps what the law on writing says: what is left of the pairs makes the goal. A turn
-- writes one run's.
use Prim.Native.Nat.{◌-◌}
use Rattle.compressor.proofs.Writing.{Writing}
use Rattle.compressor.proofs.write.Given as goal

abbrev pub invariant-loop-i : goal.invariant-loop-i
invariant-loop-i g l =
    let numbers = g.T.Element.numbers in
    Writing 2 (λ ws. ws) (numbers l.gains) (numbers l.fn.pairs) (numbers l.pairs) l.i l.k

abbrev pub decreases-loop-i : goal.decreases-loop-i
decreases-loop-i g l = l.n - l.i
