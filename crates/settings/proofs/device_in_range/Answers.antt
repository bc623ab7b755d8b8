-- The parts of the fields from 39h's place on, in their order.
use Prim.Native.Nat.{ℕ, ◌+◌, ◌*◌}
use mathlib.Core.Path.{◌≡◌, sym}
use mathlib.Core.Bool.{Bool, true, ◌&&◌, and-true, and_assoc}
use mathlib.Core.List.{List}
use lib.Dec.{leb}
use Rattle.wire.specs.Numbers.{byte_at}
use Rattle.opcode.specs.declared.Field.{Field}
use Rattle.opcode.specs.Commands.{command_of}
use Rattle.opcode.specs.Fields.{span}
use Rattle.settings.specs.Ranges.{right, behind_port, for_each, update_mode, device_fields}
use Rattle.settings.proofs.Laws.{right-append, right-byte, device-runs}
use Rattle.settings.specs.Layout.{lock_place, pin_count, pin_place, pwm_count, pwm_place, uart_place, uart_size, update_place}
use Rattle.settings.proofs.device_in_range.Goals as goal

three : (fs : List Field) (d : List ℕ) (at : ℕ)
    → right (for_each 3 fs) d at ≡ (right fs d at && (right fs d (at + span fs) && (right fs d (at + span fs + span fs) && true)))
unfolding right
three fs d at = simp right-append

joined : (e f g h k l m : Bool) → (e && f && g && h && (k && (l && (m && true)))) ≡ (e && f && g && h && k && l && m)
joined e f g h k l m = simp (and_assoc, and-true)

parts : (d : List ℕ)
    → right device_fields d update_place
    ≡ (leb (byte_at d update_place) update_mode.high && right (for_each pin_count (behind_port 0x60)) d pin_place && right (for_each pwm_count (behind_port 0x65)) d pwm_place
    && leb (byte_at d lock_place) 1 && right (behind_port 0x6D) d uart_place && right (behind_port 0x6D) d 845 && right (behind_port 0x6D) d (uart_place + 2 * uart_size))
unfolding command_of
parts d =
    rw (
      device-runs d,
      three (behind_port 0x6D) d uart_place,
      right-byte update_mode.high d update_place,
      right-byte 1 d lock_place,
    )
    (joined (leb (byte_at d update_place) update_mode.high) (right (for_each pin_count (behind_port 0x60)) d pin_place) (right (for_each pwm_count (behind_port 0x65)) d pwm_place)
    (leb (byte_at d lock_place) 1) (right (behind_port 0x6D) d uart_place) (right (behind_port 0x6D) d (uart_place + uart_size)) (right (behind_port 0x6D) d (uart_place + 2 * uart_size)))

pub returns : goal.returns
returns c = rw (
  c.uart_port_in_range-3.ensures,
  c.uart_port_in_range-2.ensures,
  c.uart_port_in_range.ensures,
  c.pwm_in_range.ensures,
  c.pins_in_range.ensures,
)
    (sym (parts c.args.block.now))
