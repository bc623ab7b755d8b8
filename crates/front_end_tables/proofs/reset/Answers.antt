-- A wrong length changes nothing; else every byte and number is written.
use Rattle.std.proofs.Common.{sym, ◌∙◌, true≢false, arith, refl}
use Rattle.settings.specs.Reset.{map_size, gains_size, reset_map, reset_gains}
use Rattle.front_end_tables.specs.Lent.{lent}
use Rattle.front_end_tables.proofs.Lengths.{Counted, long, counted}
use Rattle.front_end_tables.proofs.Returned.{filled}
use Rattle.front_end_tables.proofs.reset.Given.{Over}
use Rattle.front_end_tables.proofs.reset.Goals.{Else-not-lengths_right}
use Rattle.front_end_tables.proofs.reset.Goals as goal

-- Past the test the lengths are right.
right : (g : Over) (c : Else-not-lengths_right g) → Counted g.T.Element.numbers (lent c.args.block.now c.args.staged.now c.args.live.now c.args.gains.now)
right g c =
    let l = lent c.args.block.now c.args.staged.now c.args.live.now c.args.gains.now in
    counted g.T.Element.laws l (long g.T.Element.WIDTH l (sym c.lengths_right.ensures ∙ c.if-not-lengths_right.false))

pub fill-requires : goal.fill-requires
fill-requires g c = omega (arith, (right g (goal.at.fill-requires g c).Else-not-lengths_right).staged)

pub fill-requires-2 : goal.fill-requires-2
fill-requires-2 g c = omega (arith, (right g (goal.at.fill-requires-2 g c).Else-not-lengths_right).live)

pub fill-requires-3 : goal.fill-requires-3
fill-requires-3 g c = omega (arith, (right g (goal.at.fill-requires-3 g c).Else-not-lengths_right).gains)

pub returns : goal.returns
unfolding reset_map reset_gains
returns g c =
    let numbers = g.T.Element.numbers in
    let args = c.args in
    let many = right g (goal.at.returns g c).Else-not-lengths_right in
    record {
      wrong = λ e. absurd (true≢false (sym c.if-not-lengths_right.false ∙ c.lengths_right.ensures ∙ e));
      right = λ e. (
        refl,
        rw (
          c.reset_block.ensures.0,
          c.fill.ensures.numbers ∙ filled (numbers args.staged.now) map_size 0 many.staged,
          c.fill-2.ensures.numbers ∙ filled (numbers args.live.now) map_size 0 many.live,
          c.fill-3.ensures.numbers ∙ filled (numbers args.gains.now) gains_size 4096 many.gains,
        ) refl,
      );
    }
