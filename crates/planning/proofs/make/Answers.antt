-- Room and choices are measured, and plan and batch are written by the choices.
use Rattle.std.proofs.Common.{ℕ, ◌++◌, sym, ap, ◌∙◌, arith, List, length, drop}
use lib.Seq.{length-take-le}
use Rattle.upload.specs.Planning.{lengths, choices_of, choices_for}
use Rattle.upload.proofs.Rooms.{length-firsts}
use Rattle.upload.proofs.Outcome.{over-part, Ready, ready}
use Rattle.planning.specs.Lengths.{asked}
use Rattle.planning.proofs.Fit.{agree, few-points, map-long, map-of, room-cut}
use Rattle.planning.proofs.make.Goals as goal

pub slice_bounds-measure-end-4 : goal.slice_bounds-measure-end-4
slice_bounds-measure-end-4 g c =
    let args = c.args in
    let a = agree
    (lengths (length args.maps.now.held.now) (length args.maps.now.wanted.now) (length args.plan.now) (length args.room.now) (length args.choices.now) (length args.batch.now))
    (asked g.T.Element.WIDTH g.R.Room.WIDTH args.n) c.requires.lent in
    sym (length-take-le 1984 args.choices.now a.choices)

pub measure-requires : goal.measure-requires
measure-requires g c =
    let args = c.args in
    let a = agree
    (lengths (length args.maps.now.held.now) (length args.maps.now.wanted.now) (length args.plan.now) (length args.room.now) (length args.choices.now) (length args.batch.now))
    (asked g.T.Element.WIDTH g.R.Room.WIDTH args.n) c.requires.lent in
    record {
      few = few-points c.requires.points;
      held-long = map-long g.T.Element.laws args.n args.maps.now.held.now a.held;
      wanted-long = map-long g.T.Element.laws args.n args.maps.now.wanted.now a.wanted;
    }

pub write-requires : goal.write-requires
write-requires g c =
    let args = c.args in
    let a = agree
    (lengths (length args.maps.now.held.now) (length args.maps.now.wanted.now) (length args.plan.now) (length args.room.now) (length args.choices.now) (length args.batch.now))
    (asked g.T.Element.WIDTH g.R.Room.WIDTH args.n) c.requires.lent in
    let held : List ℕ = g.T.Element.numbers args.maps.now.held.now in
    let wanted : List ℕ = g.T.Element.numbers args.maps.now.wanted.now in
    let wide = map-long g.T.Element.laws args.n args.maps.now.wanted.now a.wanted in
    -- what writing asks of the choices, which are measured now
    let r : Ready args.n (c.measure.new.choices ++ drop 1984 args.choices.now) =
    ready args.n held wanted args.choices.now (few-points c.requires.points)
    (map-of (map-long g.T.Element.laws args.n args.maps.now.held.now a.held) args.maps.now.held_small)
    (map-of wide args.maps.now.wanted_small)
    (c.measure.ensures.measured.choices-are ∙ ap (λ (many : ℕ). choices_for many held wanted) (length-take-le 1984 args.choices.now a.choices)) in
    (r.can, omega (arith, wide, r.all), g.T.Element.laws.counted args.plan.now 3968 a.plan, a.batch)

pub returns-clause-made : goal.returns-clause-made
returns-clause-made g c =
    let args = c.args in
    let a = agree
    (lengths (length args.maps.now.held.now) (length args.maps.now.wanted.now) (length args.plan.now) (length args.room.now) (length args.choices.now) (length args.batch.now))
    (asked g.T.Element.WIDTH g.R.Room.WIDTH args.n) c.requires.lent in
    let held : List ℕ = g.T.Element.numbers args.maps.now.held.now in
    let wanted : List ℕ = g.T.Element.numbers args.maps.now.wanted.now in
    record {
      room-is = room-cut g.R.Room.laws held wanted c.measure.new.room args.room.now c.WIDTH.result c.WIDTH.ensures a.room c.measure.auto.room c.measure.ensures.measured.room-is;
      choices-is =
          over-part 1984 (choices_of held wanted) args.choices.now (length-firsts 1984 _)
          (c.measure.ensures.measured.choices-are ∙ ap (λ (many : ℕ). choices_for many held wanted) (length-take-le 1984 args.choices.now a.choices));
      written = c.write.ensures;
    }
