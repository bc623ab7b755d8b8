-- Four points a turn, as two numbers of 64 bits in each map.
use Prim.Native.Nat.{ℕ, ◌+◌, ◌*◌}
use mathlib.Core.Path.{◌≡◌, sym, subst, ◌∙◌}
use mathlib.Core.List.{List}
use native.Mathlib.Omega.{arith}
use Rattle.wire.specs.Tables.{words}
use Rattle.wire.proofs.Tables.{length_pairs}
use Rattle.row_mark.proofs.Walk.{Alike, PointSame, alike-many, many-differ, alike_end, either-differs, neither-differs}
use Rattle.row_mark.proofs.Points.{two_longs, four_same, four-other}
use Rattle.row_mark.proofs.bytes.fours_differ.Goals.{After-two_points-in-loop-i-3}
use Rattle.row_mark.proofs.bytes.fours_differ.Goals as goal

-- What a turn reads: four points of each map.
record Four (a b : List ℕ) (at w x y z : ℕ) : Type 0 where
  staged-low : w ≡ two_longs a at
  live-low : x ≡ two_longs b at
  staged-high : y ≡ two_longs a (at + 8)
  live-high : z ≡ two_longs b (at + 8)

four : (c : After-two_points-in-loop-i-3)
    → Four c.args.staged.now
    c.args.live.now
    (4 * (c.args.start + 4 * c.loop-i.i))
    c.two_points.result c.two_points-in-loop-i.result c.two_points-in-loop-i-2.result c.two_points-in-loop-i-3.result
four c =
    record {
      staged-low = c.two_points.ensures;
      live-low = c.two_points-in-loop-i.ensures;
      staged-high = c.two_points-in-loop-i-2.ensures;
      live-high = c.two_points-in-loop-i-3.ensures;
    }

pub returns-then-two_points : goal.returns-then-two_points
returns-then-two_points c = let args = c.args in
    let a = args.staged.now in
    let b = args.live.now in
    let start = args.start in
    let i = c.loop-i.i in
    let read = four (goal.at.returns-then-two_points c).After-two_points-in-loop-i-3 in
    let apart =
    four-other a b (start + 4 * i) (omega arith) (omega arith)
    (λ e f. either-differs _ _ _ _ c.if-two_points.true (read.staged-low ∙ e ∙ sym read.live-low) (read.staged-high ∙ f ∙ sym read.live-high)) in
    sym
    (many-differ (words a) (words b) start (4 * args.n) (rw length_pairs (omega arith)) (rw length_pairs (omega arith)) 4 (4 * i) (omega arith) c.loop-i.invariant
    (λ same. apart (λ t l. let e : start + (4 * i + t) ≡ start + 4 * i + t = omega arith in subst (PointSame (words a) (words b)) e (same t l))))

pub loop-i-preserved : goal.loop-i-preserved
loop-i-preserved c = let args = c.args in
    let a = args.staged.now in
    let b = args.live.now in
    let start = args.start in
    let i = c.loop-i.i in
    let none = neither-differs _ _ _ _ c.if-two_points.false in
    let read = four (goal.at.loop-i-preserved c).After-two_points-in-loop-i-3 in
    let same =
    four_same a b (start + 4 * i) (omega arith) (omega arith) (λ k. (c.type_inv.staged k).fits) (λ k. (c.type_inv.live k).fits)
    (sym read.staged-low ∙ none.0 ∙ read.live-low) (sym read.staged-high ∙ none.1 ∙ read.live-high) in
    let next : 4 * i + 4 ≡ 4 * (i + 1) = omega arith in
    subst (Alike (words a) (words b) start (4 * args.n)) next
    (alike-many (words a) (words b) start (4 * args.n) (rw length_pairs (omega arith)) (rw length_pairs (omega arith)) 4 (4 * i) (omega arith) c.loop-i.invariant
    (λ t l. let e : start + 4 * i + t ≡ start + (4 * i + t) = omega arith in subst (PointSame (words a) (words b)) e (same t l)))

pub returns : goal.returns
returns c = sym (alike_end (omega (arith, c.loop-i-test.false)) c.loop-i.invariant)
