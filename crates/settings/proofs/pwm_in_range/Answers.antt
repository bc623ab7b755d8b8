-- What the ports passed come to is joined to what is still to be judged.
use Prim.Native.Nat.{◌+◌, ◌*◌}
use mathlib.Core.Path.{◌≡◌, sym, ◌∙◌}
use native.Mathlib.Omega.{arith}
use Rattle.opcode.specs.Commands.{command_of}
use Rattle.settings.specs.Ranges.{behind_port}
use Rattle.settings.proofs.Laws.{each_turn, each-done}
use Rattle.settings.specs.Layout.{pwm_count, pwm_place, pwm_size}
use Rattle.settings.proofs.pwm_in_range.Goals as goal

pub loop-i-preserved : goal.loop-i-preserved
unfolding command_of
loop-i-preserved c = let block = c.args.block.now in
    let i = c.loop-i.i in
    let next : pwm_place + pwm_size * i + 6 ≡ pwm_place + 6 * (i + 1) = omega arith in
    let turn = each_turn (behind_port 0x65) block c.loop-i.all i pwm_count (pwm_place + pwm_size * i) (omega arith) in
    rw (c.pwm_port_in_range-all.ensures, ← next) (c.loop-i.invariant ∙ turn)

pub returns : goal.returns
returns c = let block = c.args.block.now in
    let i = c.loop-i.i in
    sym (c.loop-i.invariant ∙ each-done (behind_port 0x65) block c.loop-i.all i pwm_count (pwm_place + pwm_size * i) (omega arith))
