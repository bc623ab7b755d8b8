-- What the ports passed come to is joined to what is still to be judged.
use Prim.Native.Nat.{◌+◌, ◌*◌, ◌-◌}
use mathlib.Core.Path.{◌≡◌}
use mathlib.Core.Bool.{◌&&◌}
use Rattle.settings.specs.Ranges.{right, behind_port, for_each}
use Rattle.settings.specs.Layout.{pwm_count, pwm_place, pwm_size}
use Rattle.settings.proofs.pwm_in_range.Given as goal

abbrev pub invariant-loop-i : goal.invariant-loop-i
invariant-loop-i l =
    right (for_each pwm_count (behind_port 0x65)) l.block pwm_place
    ≡ (l.all && right (for_each (pwm_count - l.i) (behind_port 0x65)) l.block (pwm_place + pwm_size * l.i))
