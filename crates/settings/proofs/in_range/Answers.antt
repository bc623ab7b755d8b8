-- The six parts of the test, in its order.
use Prim.Native.Nat.{ℕ}
use mathlib.Core.Path.{◌≡◌, sym, ◌∙◌}
use mathlib.Core.Bool.{◌&&◌, and_assoc}
use mathlib.Core.List.{List}
use native.Mathlib.Omega.{arith}
use Rattle.std.proofs.lemmas.List.{take_all}
use lib.Dec.{leb}
use Rattle.wire.specs.Numbers.{byte_at}
use Rattle.opcode.specs.Commands.{command_of}
use Rattle.settings.specs.Ranges.{right, fields_of, picture_fields, device_fields, shape_right, settings_right}
use Rattle.settings.proofs.Laws.{right-byte}
use Rattle.settings.proofs.Allowed.{in-range}
use Rattle.settings.specs.Layout.{enable, live_shape, smooth_table, staged_shape, update_place}
use Rattle.settings.proofs.in_range.Goals as goal

parts : (d : List ℕ)
    → settings_right d
    ≡ (right picture_fields d 0 && shape_right d staged_shape && leb (byte_at d enable) 1 && shape_right d live_shape
    && right (fields_of 0x38) d smooth_table && right device_fields d update_place)
unfolding settings_right command_of
parts d = rw (right-byte 1 d enable) (simp and_assoc)

pub returns : goal.returns
returns c = let block = c.args.block.now in
    let chunk = rw c.unwrap-block.ensures at c.first_chunk.ensures.cases in
    let whole : c.unwrap-block.result.now ≡ block = chunk.same ∙ take_all 1024 block (omega arith) in
    in-range block c.requires _
    (rw (
      c.device_in_range.ensures,
      c.smooth_in_range.ensures,
      c.shape_in_range-2.ensures,
      c.shape_in_range.ensures,
      c.picture_in_range.ensures,
      whole,
    )
    (sym (parts block)))
