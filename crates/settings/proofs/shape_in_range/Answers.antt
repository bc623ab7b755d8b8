-- The parts of the shape rule, in its order.
use Prim.Native.Nat.{ℕ, ◌+◌}
use mathlib.Core.Path.{◌≡◌, sym}
use mathlib.Core.Bool.{◌&&◌, ◌||◌, and-true, and_assoc}
use mathlib.Core.List.{List}
use native.Mathlib.Omega.{arith}
use lib.Dec.{eqb, leb}
use Rattle.opcode.specs.Fields.{from_to, takes}
use Rattle.opcode.specs.Commands.{command_of}
use Rattle.settings.specs.Layout.{mode_at, columns_at, rows_at}
use Rattle.settings.specs.Ranges.{right, rising, shape_right}
use Rattle.settings.proofs.Laws.{takes-byte}
use Rattle.settings.proofs.Contains.{contained}
use Rattle.settings.proofs.shape_in_range.Goals as goal

parts : (d : List ℕ) (shape : ℕ)
    → shape_right d shape
    ≡ (leb (mode_at d shape) 1 && takes (from_to 1 2 62) (columns_at d shape) && takes (from_to 1 2 32) (rows_at d shape)
    && (eqb (mode_at d shape) 0 || (eqb (columns_at d shape) 62 && eqb (rows_at d shape) 32))
    && rising d (shape + 5) 62
    && rising d (shape + 129) 32)
unfolding shape_right right command_of
parts d shape =
    let rows : shape + 1 + 2 ≡ shape + 3 = omega arith in
    rw (rows, takes-byte 1 (mode_at d shape)) (simp (and_assoc, and-true))

pub returns : goal.returns
returns c = let args = c.args in
    let columns = c.new.ensures in
    let rows = c.new-2.ensures in
    rw (
      c.list_in_range.ensures,
      c.list_in_range-2.ensures,
      c.contains.ensures.value,
      c.contains-2.ensures.value,
      contained 1 2 62 c.word-columns.result c.new.result columns.start columns.end columns.exhausted,
      contained 1 2 32 c.word-rows.result c.new-2.result rows.start rows.end rows.exhausted,
      c.word-columns.ensures.0,
      c.word-rows.ensures.0,
    )
    (sym (parts args.block.now args.shape))
