-- The first i numbers are stored.
use mathlib.Core.Path.{◌≡◌}
use lib.ListN.{length}
use lib.Seq.{sets}
use Rattle.wire.specs.Tables.{bytes}
use Rattle.settings.specs.Reset.{count_up}
use Rattle.settings.proofs.store_counting.Given as goal

abbrev pub invariant-loop-i : goal.invariant-loop-i
invariant-loop-i l = (l.block ≡ sets l.initial.block l.place (bytes (count_up 0 l.i))) × (length l.block ≡ length l.initial.block)
