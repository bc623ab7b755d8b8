-- The loop keeps what it carries, that room and choices are filled from i on, and what lies behind
-- the room's numbers.
use Prim.Native.Nat.{◌*◌}
use mathlib.Core.Path.{◌≡◌}
use lib.ListN.{length, drop}
use Rattle.upload.specs.Cost.{differs}
use Rattle.upload.proofs.Rooms.{Measuring}
use Rattle.planning.specs.Internal.{cost_in}
use Rattle.planning.proofs.measure.Given as goal

abbrev pub invariant-loop-i : goal.invariant-loop-i
invariant-loop-i g l =
    Measuring (differs (g.T.Element.numbers l.maps.held.now) (g.T.Element.numbers l.maps.wanted.now))
    (length (g.R.Room.longs l.fn.room)) (length l.fn.choices) (cost_in l.p) (g.R.Room.longs l.room) l.choices l.i
    × (length l.choices ≡ length l.fn.choices)
    × (drop (g.R.Room.WIDTH * length (g.R.Room.longs l.fn.room)) l.room ≡ drop (g.R.Room.WIDTH * length (g.R.Room.longs l.fn.room)) l.fn.room)
