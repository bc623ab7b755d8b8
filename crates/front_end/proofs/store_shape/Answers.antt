-- In mode 1 four stores one behind the other, else one.
use mathlib.Core.Path.{◌≡◌, sym, ◌∙◌}
use borrow.Author.Tests.{ne_eqb}
use lib.ListN.{length}
use Rattle.wire.specs.Numbers.{byte_at}
use Rattle.front_end.specs.Commands.{write_shape, shape_bytes}
use Rattle.front_end.proofs.Blocks.{lists-stored}
use Rattle.settings.specs.Layout.{lists_size, shape_head}
use Prim.Native.Nat.{◌+◌}
use Rattle.front_end.proofs.store_shape.Goals.{Else-byte-eq1, Then-byte-eq1}
use Rattle.front_end.proofs.store_shape.Goals as goal

-- The size that goes with the mode.
mode : (c : Then-byte-eq1) → byte_at c.args.«data».now 0 ≡ 1
mode c = sym c.byte.ensures.0 ∙ c.if-byte-eq1.true

long : (c : Then-byte-eq1) → length c.args.«data».now ≡ 1 + lists_size
long c = rw (mode c) at c.requires.1

short : (c : Else-byte-eq1) → length c.args.«data».now ≡ shape_head
short c = rw (← c.byte.ensures.0, ne_eqb _ _ c.if-byte-eq1.false) at c.requires.1

pub returns-then-byte-eq1 : goal.returns-then-byte-eq1
returns-then-byte-eq1 c = rw (c.copy.ensures, c.put_word-then-byte-eq1.ensures, c.put_word.ensures, c.put_byte.ensures)
    (lists-stored c.args.block.now c.args.«data».now c.requires.0 (long (goal.at.returns-then-byte-eq1 c).Then-byte-eq1) (mode (goal.at.returns-then-byte-eq1 c).Then-byte-eq1))

pub returns : goal.returns
unfolding write_shape shape_bytes
returns c = rw (c.copy-2.ensures, ← c.byte.ensures.0, ne_eqb _ _ c.if-byte-eq1.false, short (goal.at.returns c).Else-byte-eq1)
