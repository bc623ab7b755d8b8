-- The stores of the packet's parts, one behind the other, put it over the buffer.
use mathlib.Core.Path.{refl}
use native.Mathlib.Omega.{arith}
use Rattle.packet.proofs.Stores.{length-packet, stores}
use Rattle.packet.proofs.write_packet.Goals as goal

pub returns : goal.returns
returns c = let d = c.args.«data».now in (
  omega (arith, length-packet c.args.opcode c.args.options.bits d),
  stores c.args.opcode c.args.options.bits d c.args.buffer.now (omega arith)
      c.put_byte.ensures c.put_byte-2.ensures c.put_high-at.ensures.1 c.put_high-at.ensures.0 c.put_length-place.ensures.1
      c.put_length-place.ensures.0 (omega arith) c.copy.ensures refl c.put_checksum.ensures.1,
)
