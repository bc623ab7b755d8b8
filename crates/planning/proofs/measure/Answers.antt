-- The loop keeps what it carries, that room and choices are filled from i on, and what lies behind
-- the room's numbers.
use Rattle.std.proofs.Common.{rules, ◌≡◌, ◌∙◌, arith, length, replicate, ℕ, ap}
use lib.ListN.{length-replicate}
use Rattle.upload.proofs.Differs.{lent-long}
use Rattle.upload.proofs.Rooms.{measure-start, measure-small, measure-long, measure-turn, measure-done}
use Rattle.upload.proofs.Outcome.{measured}
use Rattle.planning.proofs.measure.Goals as goal

pub loop-i-init : goal.loop-i-init
loop-i-init g c =
    let args = c.args in
    let longs = g.R.Room.longs in
    let room : length (longs c.clear.new.room) ≡ length (longs args.room.now) =
    ap length c.clear.ensures.cleared ∙ length-replicate (length (longs args.room.now)) 0 in
    let choices : length c.fill.new.self ≡ length args.choices.now = omega arith in
    let zeros : c.fill.new.self ≡ replicate {A = ℕ} (length args.choices.now) 0 = search rules in (
      rw (← room, ← choices)
          (measure-start _ _ (length (longs args.room.now)) (length args.choices.now) (lent-long c.requires) c.at_end-p.ensures c.clear.ensures.cleared zeros),
      choices,
      c.clear.ensures.behind,
    )

pub choose-p-requires : goal.choose-p-requires
choose-p-requires g c =
    let maps = c.requires in
    let all = lent-long maps in
    measure-small (omega (arith, maps.few)) c.loop-i.invariant.0

pub loop-i-preserved : goal.loop-i-preserved
loop-i-preserved g c =
    let inv = c.loop-i.invariant in (
      measure-turn _ (omega arith) c.differs_at.ensures c.choose-p.ensures c.keep.ensures.kept inv.0,
      omega arith,
      rw (measure-long inv.0) at c.keep.ensures.behind ∙ inv.2,
    )

pub returns-clause-measured : goal.returns-clause-measured
returns-clause-measured g c =
    let args = c.args in
    let maps = args.maps.now in
    let numbers = g.T.Element.numbers in
    measured args.n (numbers maps.held.now) (numbers maps.wanted.now)
    (record { long = c.requires.held-long; words = maps.held_small })
    (record { long = c.requires.wanted-long; words = maps.wanted_small })
    (omega arith)
    (omega arith)
    (measure-done (omega arith) c.loop-i.invariant.0)

pub returns-clause-behind : goal.returns-clause-behind
returns-clause-behind g c = c.loop-i.invariant.2
