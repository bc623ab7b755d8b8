-- Four points at a time, and then the rest.
use Prim.Native.Nat.{ℕ, ◌+◌, ◌-◌, ◌*◌, ◌/◌, ◌≤◌}
use mathlib.Core.Path.{◌≡◌, sym, ◌∙◌}
use mathlib.Core.Bool.{◌||◌}
use mathlib.Core.List.{List}
use native.Mathlib.Omega.{arith}
use lib.ListN.{length}
use Rattle.wire.specs.Tables.{words}
use Rattle.wire.proofs.Tables.{length_pairs}
use Rattle.row_mark.specs.Rows.{points_differ}
use Rattle.row_mark.proofs.Walk.{two-parts}
use Rattle.row_mark.proofs.bytes.U8Map.row_differs.Goals as goal

long : (s : List ℕ) → length (words s) ≡ length s / 2
long s = length_pairs 256 s

in-fours : (a b : List ℕ) (start columns : ℕ) → 4 * (start + columns) ≤ length a → 4 * (start + columns) ≤ length b
    → points_differ start columns (words a) (words b)
    ≡ (points_differ start (4 * (columns / 4)) (words a) (words b) || points_differ (start + 4 * (columns / 4)) (columns - 4 * (columns / 4)) (words a) (words b))
in-fours a b start columns la lb =
    let all : 4 * (columns / 4) + (columns - 4 * (columns / 4)) ≡ columns = omega arith in
    rw all at (two-parts (words a) (words b) start (4 * (columns / 4)) (columns - 4 * (columns / 4)) (rw length_pairs (omega arith)) (rw length_pairs (omega arith)))

pub overflow_mul-start : goal.overflow_mul-start
overflow_mul-start c = omega (arith, long c.args.staged.now, long c.args.live.now)

pub fours_differ-requires : goal.fours_differ-requires
fours_differ-requires c = (omega (arith, long c.args.staged.now), omega (arith, long c.args.live.now))

pub overflow_add-start : goal.overflow_add-start
overflow_add-start c = omega (arith, long c.args.staged.now)

pub points_differ-requires : goal.points_differ-requires
points_differ-requires c = (omega (arith, long c.args.staged.now), omega (arith, long c.args.live.now))

pub returns-then-fours_differ : goal.returns-then-fours_differ
returns-then-fours_differ c = let args = c.args in
    let parts = in-fours args.staged.now args.live.now (args.columns * args.row) args.columns (omega (arith, long args.staged.now)) (omega (arith, long args.live.now)) in
    sym (parts ∙ rw (sym c.fours_differ.ensures ∙ c.if-fours_differ.true) (sym c.if-fours_differ.true))

pub returns-else-fours_differ : goal.returns-else-fours_differ
returns-else-fours_differ c = let args = c.args in
    let parts = in-fours args.staged.now args.live.now (args.columns * args.row) args.columns (omega (arith, long args.staged.now)) (omega (arith, long args.live.now)) in
    sym (parts ∙ rw (sym c.fours_differ.ensures ∙ c.if-fours_differ.false) (sym c.points_differ.ensures))
