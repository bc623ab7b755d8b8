-- Two bytes, one behind the other.
use Prim.Native.Nat.{ℕ, ◌+◌}
use mathlib.Core.Path.{◌≡◌, sym}
use mathlib.Core.Bool.{◌&&◌, and-true}
use mathlib.Core.List.{List}
use Rattle.wire.specs.Numbers.{byte_at}
use Rattle.opcode.specs.Fields.{from_to, takes}
use Rattle.opcode.specs.Commands.{command_of}
use Rattle.settings.specs.Ranges.{right, fields_of}
use Rattle.settings.specs.Layout.{smooth_table}
use Rattle.settings.proofs.Contains.{contained}
use Rattle.settings.proofs.smooth_in_range.Goals as goal

smooth : (d : List ℕ) → right (fields_of 0x38) d smooth_table ≡ (takes (from_to 1 3 5) (byte_at d smooth_table) && takes (from_to 1 3 5) (byte_at d (smooth_table + 1)))
unfolding right command_of
smooth d = rw and-true

pub returns : goal.returns
returns c = let range = c.new-range.ensures in
    rw (
      c.contains.ensures.value,
      c.contains-2.ensures.value,
      contained 1 3 5 c.byte.result c.new-range.result range.start range.end range.exhausted,
      contained 1 3 5 c.byte-2.result c.new-range.result range.start range.end range.exhausted,
      c.byte.ensures.0,
      c.byte-2.ensures.0,
    )
    (sym (smooth c.args.block.now))
