-- The loop keeps that the numbers up to the i-th rise.
use mathlib.Core.Path.{◌≡◌, sym, ◌∙◌}
use mathlib.Core.Bool.{true, false}
use Prim.Native.Nat.{◌+◌, ◌*◌}
use native.Mathlib.Omega.{arith}
use borrow.Author.Tests.{ltb-true, ltb-false}
use Rattle.wire.specs.Numbers.{word_at}
use Rattle.wire.proofs.Tests.{told}
use Rattle.opcode.specs.Internal.{stretch_steps}
use Rattle.opcode.proofs.Laws.{risen-end, risen-down, risen-up}
use Rattle.opcode.proofs.lists.stretch.Goals as goal

pub returns-then-not-next_above : goal.returns-then-not-next_above
returns-then-not-next_above c = let args = c.args in
    let i = c.loop-i.i in
    let p = args.at + 2 * i in
    let no : c.next_above.result ≡ false = search told in
    let down = ltb-false (word_at args.s.now p) (word_at args.s.now (p + 2)) (sym c.next_above.ensures ∙ no) in
    omega (arith, risen-down args.s.now args.at (stretch_steps + 1) i c.loop-i.invariant (omega arith) down)

pub loop-i-preserved : goal.loop-i-preserved
loop-i-preserved c = let args = c.args in
    let i = c.loop-i.i in
    let p = args.at + 2 * i in
    let yes : c.next_above.result ≡ true = search told in
    let up = ltb-true (word_at args.s.now p) (word_at args.s.now (p + 2)) (sym c.next_above.ensures ∙ yes) in
    risen-up args.s.now args.at (stretch_steps + 1) i c.loop-i.invariant (omega arith) up

pub returns : goal.returns
returns c = let args = c.args in
    omega (arith, risen-end args.s.now args.at (stretch_steps + 1) c.loop-i.i c.loop-i.invariant (omega arith))
