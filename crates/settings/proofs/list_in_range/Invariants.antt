-- What the numbers passed come to is joined to what is still to be judged.
use Prim.Native.Nat.{◌+◌, ◌*◌, ◌-◌}
use mathlib.Core.Path.{◌≡◌}
use mathlib.Core.Bool.{◌&&◌}
use Rattle.settings.specs.Ranges.{rising}
use Rattle.settings.proofs.list_in_range.Given as goal

abbrev pub invariant-loop-i : goal.invariant-loop-i
invariant-loop-i l = rising l.block l.at l.count ≡ (l.all && rising l.block (l.at + 2 * l.i) (l.count - l.i))
