-- A bit set by `|`; and cleared by `&` with all others.
use Prim.Native.Nat.{ℕ, ◌*◌, ◌%◌, ◌^◌, ◌<◌}
use mathlib.Core.Path.{◌≡◌}
use native.Mathlib.Nat.{mod-eq_of_lt, one-mul}
use lib.Pow.{pow-lt}
use Rattle.row_mark.proofs.Bits.{bit-set, bit-masked}
use Rattle.row_mark.proofs.put_bit.Goals as goal

-- One, shifted.
shifted : (r : ℕ) → r < 32 → 1 * 2 ^ r % 4294967296 ≡ 2 ^ r
shifted r h = rw one-mul (mod-eq_of_lt (pow-lt h))

pub returns-then-moved : goal.returns-then-moved
returns-then-moved c = let a = c.args in rw (shifted a.row c.requires, c.if-moved.true) (bit-set 32 a.mark a.row c.requires)

pub returns-else-moved : goal.returns-else-moved
returns-else-moved c = let a = c.args in rw (shifted a.row c.requires, c.if-moved.false) (bit-masked 32 a.mark a.row c.requires)
