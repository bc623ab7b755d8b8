-- Four points a turn, as two numbers of 64 bits in each map.
use Prim.Native.Nat.{◌*◌}
use Rattle.wire.specs.Tables.{words}
use Rattle.row_mark.proofs.Walk.{Alike}
use Rattle.row_mark.proofs.bytes.fours_differ.Given as goal

abbrev pub invariant-loop-i : goal.invariant-loop-i
invariant-loop-i l = Alike (words l.staged) (words l.live) l.start (4 * l.n) (4 * l.i)
