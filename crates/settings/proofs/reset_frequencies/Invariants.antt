-- The first ports have theirs.
use mathlib.Core.Path.{◌≡◌}
use Rattle.settings.specs.Internal.{spread_over}
use Rattle.settings.specs.Layout.{pwm_place, pwm_size}
use Rattle.settings.proofs.reset_frequencies.Given as goal

abbrev pub invariant-loop-port : goal.invariant-loop-port
invariant-loop-port l = l.block ≡ spread_over l.initial.block pwm_place pwm_size 20 l.port
