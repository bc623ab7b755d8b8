-- In mode 1 the mode byte and the lists behind it are copied, else the first five bytes.
use Prim.Native.Nat.{◌≤◌}
use mathlib.Core.Path.{◌≡◌, sym, ◌∙◌}
use native.Mathlib.Omega.{arith}
use borrow.Author.Tests.{ne_eqb}
use lib.ListN.{length, drop, length-drop}
use Rattle.wire.specs.Numbers.{byte_at}
use Rattle.front_end.specs.Commands.{read_shape}
use Rattle.wire.proofs.Copies.{byte-over}
use Rattle.settings.specs.Layout.{lists_size, column_list, staged_shape}
use Rattle.front_end.proofs.fetch_shape.Goals as goal

pub returns-then-byte-eq1 : goal.returns-then-byte-eq1
unfolding read_shape
returns-then-byte-eq1 c = let args = c.args in
    let block = args.block.now in
    let mode : byte_at block staged_shape ≡ 1 = sym c.byte.ensures.0 ∙ c.if-byte-eq1.true in
    let enough : lists_size ≤ length (drop (column_list staged_shape) block) = rw length-drop (omega arith) in
    let written = byte-over args.out.now (drop (column_list staged_shape) block) 1 lists_size (omega arith) enough in
    rw mode (written.0, c.copy.ensures ∙ rw c.put_byte.ensures written.1)

pub returns : goal.returns
unfolding read_shape
returns c = rw (← c.byte.ensures.0, ne_eqb _ _ c.if-byte-eq1.false) c.fetch_part.ensures
