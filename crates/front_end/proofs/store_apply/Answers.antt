-- Enable is stored, and with 1 the staged shape copied, in the order that the definition has.
use mathlib.Core.Path.{◌≡◌, sym, ◌∙◌}
use mathlib.Core.List.{[], ◌∷◌}
use native.Mathlib.Omega.{arith}
use borrow.Author.Tests.{ne_eqb}
use Rattle.wire.specs.Numbers.{byte_at}
use Rattle.front_end.specs.Commands.{apply_block}
use Rattle.wire.proofs.Copies.{sets-paste}
use Rattle.front_end.proofs.Blocks.{shape-applied}
use Rattle.settings.specs.Layout.{enable}
use Rattle.front_end.proofs.store_apply.Goals as goal

pub returns-then-byte-eq1 : goal.returns-then-byte-eq1
unfolding apply_block
returns-then-byte-eq1 c = let one : byte_at c.args.«data».now 0 ≡ 1 = sym c.byte.ensures.0 ∙ c.if-byte-eq1.true in
    rw (one, c.copy_within.ensures, c.put_byte.ensures) (shape-applied c.args.block.now c.requires)

pub returns : goal.returns
unfolding apply_block
returns c = rw (← c.byte.ensures.0, ne_eqb _ _ c.if-byte-eq1.false, c.put_byte-2.ensures)
    (sets-paste c.args.block.now enable (0 ∷ []) (omega arith))
