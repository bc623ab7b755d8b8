-- The three fields, one behind the other.
use Prim.Native.Nat.{ℕ, ◌+◌}
use mathlib.Core.Path.{◌≡◌, sym}
use mathlib.Core.Bool.{◌&&◌, and-true, and_assoc}
use mathlib.Core.List.{List}
use native.Mathlib.Omega.{arith}
use lib.Dec.{leb}
use Rattle.wire.specs.Numbers.{byte_at, long_at}
use Rattle.opcode.specs.Fields.{from_to, takes}
use Rattle.opcode.specs.Commands.{command_of}
use Rattle.settings.specs.Ranges.{right, behind_port}
use Rattle.settings.proofs.Laws.{takes-byte}
use Rattle.settings.proofs.Contains.{contained}
use Rattle.settings.proofs.pwm_port_in_range.Goals as goal

parts : (d : List ℕ) (at : ℕ)
    → right (behind_port 0x65) d at
    ≡ (takes (from_to 1 20 10_390_000) (long_at d at) && leb (byte_at d (at + 4)) 100 && leb (byte_at d (at + 5)) 1)
unfolding right command_of
parts d at =
    let last : at + 4 + 1 ≡ at + 5 = omega arith in
    rw (last, takes-byte 100 (byte_at d (at + 4)), takes-byte 1 (byte_at d (at + 5))) (simp (and_assoc, and-true))

pub returns : goal.returns
returns c = let args = c.args in
    let range = c.new.ensures in
    rw (
      c.contains.ensures.value,
      contained 1 20 10_390_000 c.long.result c.new.result range.start range.end range.exhausted,
      c.long.ensures.0,
    )
    (sym (parts args.block.now args.at))
