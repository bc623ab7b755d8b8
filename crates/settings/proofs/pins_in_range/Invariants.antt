-- The fields of 88 pins are 264 flags. What the flags passed come to is joined to what is still to be judged.
use Prim.Native.Nat.{◌+◌, ◌-◌}
use mathlib.Core.Path.{◌≡◌}
use mathlib.Core.Bool.{◌&&◌}
use mathlib.Core.List.{[], ◌∷◌}
use Rattle.opcode.specs.Commands.{flag}
use Rattle.settings.specs.Ranges.{right, for_each}
use Rattle.settings.specs.Layout.{pin_place}
use Rattle.settings.proofs.pins_in_range.Given as goal

abbrev pub invariant-loop-pin : goal.invariant-loop-pin
invariant-loop-pin l =
    right (for_each 264 (flag ∷ [])) l.block pin_place
    ≡ (l.all && right (for_each (264 - l.pin-index) (flag ∷ [])) l.block (pin_place + l.pin-index))
