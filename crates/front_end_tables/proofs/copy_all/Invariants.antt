-- The first i are copied.
use Rattle.std.proofs.Common.{◌≡◌, length, take}
use Rattle.front_end_tables.proofs.copy_all.Given as goal

abbrev pub invariant-loop-i : goal.invariant-loop-i
invariant-loop-i g l = (take l.i l.to ≡ take l.i l.from) × (length l.to ≡ length l.from)
