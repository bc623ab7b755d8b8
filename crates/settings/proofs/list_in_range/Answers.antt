-- What the numbers passed come to is joined to what is still to be judged.
use Prim.Native.Nat.{◌+◌, ◌*◌}
use mathlib.Core.Path.{◌≡◌, sym, ◌∙◌}
use native.Mathlib.Omega.{arith}
use Rattle.settings.proofs.Lists.{rising-turn, rising-done}
use Rattle.settings.proofs.list_in_range.Goals as goal

pub loop-i-preserved : goal.loop-i-preserved
loop-i-preserved c = let args = c.args in
    let i = c.loop-i.i in
    let next : args.at + 2 * i + 2 ≡ args.at + 2 * (i + 1) = omega arith in
    let turn = rising-turn args.block.now c.loop-i.all i args.count (args.at + 2 * i) (omega arith) in
    rw (c.next_above-all.ensures, ← next) (c.loop-i.invariant ∙ turn)

pub returns : goal.returns
returns c = let args = c.args in
    let i = c.loop-i.i in
    sym (c.loop-i.invariant ∙ rising-done args.block.now c.loop-i.all i args.count (args.at + 2 * i) (omega arith) (omega arith))
