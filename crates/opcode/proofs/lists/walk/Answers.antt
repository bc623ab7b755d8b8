-- The next number is the first fault, or is passed.
use Prim.Native.Nat.{◌+◌, ◌-◌}
use mathlib.Core.Path.{◌≡◌}
use native.Mathlib.Omega.{arith}
use Rattle.opcode.proofs.Laws.{risen-end, risen-down, risen-up}
use Rattle.opcode.proofs.lists.walk.Goals as goal

pub returns-then-word : goal.returns-then-word
returns-then-word c = let args = c.args in
    let next = c.word.ensures.0 in
    let this = c.word-in-loop-i.ensures.0 in
    omega (arith, risen-down args.s.now args.at args.count (c.loop-i.i - 1) c.loop-i.invariant.1 (omega arith) (omega arith))

pub loop-i-preserved : goal.loop-i-preserved
loop-i-preserved c = let args = c.args in
    let next = c.word.ensures.0 in
    let this = c.word-in-loop-i.ensures.0 in
    let i : c.loop-i.i + 1 - 1 ≡ c.loop-i.i - 1 + 1 = omega arith in
    (omega arith, rw i (risen-up args.s.now args.at args.count (c.loop-i.i - 1) c.loop-i.invariant.1 (omega arith) (omega arith)))

pub returns : goal.returns
returns c = let args = c.args in
    omega (arith, risen-end args.s.now args.at args.count (c.loop-i.i - 1) c.loop-i.invariant.1 (omega arith))
