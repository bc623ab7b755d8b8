-- One point after another, four bytes each.
use Prim.Native.Nat.{◌+◌}
use mathlib.Core.Path.{sym, ◌∙◌}
use native.Mathlib.Omega.{arith}
use Rattle.wire.proofs.Tables.{length_pairs}
use Rattle.row_mark.proofs.Points.{other-point, same_point}
use Rattle.wire.specs.Tables.{words}
use Rattle.row_mark.proofs.Walk.{alike-on, alike-differs, alike_end}
use Rattle.row_mark.proofs.bytes.points_differ.Goals as goal

pub returns-then-point : goal.returns-then-point
returns-then-point c = let args = c.args in
    let a = args.staged.now in
    let b = args.live.now in
    let start = args.start in
    let i = c.loop-i.i in
    let other = other-point a b (start + i) (omega arith) (omega arith) (λ e. c.if-point.true (c.point.ensures ∙ e ∙ sym c.point-in-loop-i.ensures)) in
    sym (alike-differs (words a) (words b) start args.n i (omega arith) (rw length_pairs (omega arith)) (rw length_pairs (omega arith)) c.loop-i.invariant other)

pub loop-i-preserved : goal.loop-i-preserved
loop-i-preserved c = let args = c.args in
    let a = args.staged.now in
    let b = args.live.now in
    let start = args.start in
    let i = c.loop-i.i in
    let same =
    same_point a b (start + i) (omega arith) (omega arith) (λ k. (c.type_inv.staged k).fits) (λ k. (c.type_inv.live k).fits)
    (sym c.point.ensures ∙ c.if-point.false ∙ c.point-in-loop-i.ensures) in
    alike-on (words a) (words b) start args.n i (omega arith) (rw length_pairs (omega arith)) (rw length_pairs (omega arith)) c.loop-i.invariant same.0 same.1

pub returns : goal.returns
returns c = sym (alike_end c.loop-i-test.false c.loop-i.invariant)
