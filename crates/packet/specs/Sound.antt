-- When a packet's frame is sound, said as rules 2.1 to 2.5 say it and not by way of the refusals.
use Rattle.std.specs.Prelude.{ℕ, ◌-◌, ◌≤◌, ◌≡◌, List, length, take}
use Rattle.wire.specs.Numbers.{byte_at, word_at}
use Rattle.wire.specs.Checksum.{checksum}
use Rattle.opcode.specs.Options.{has_length, has_checksum, destination, options_in}
use Rattle.opcode.specs.Allowed.{Allowed}
use Rattle.packet.specs.Frame.{header_of, opcode_of, length_place, fields, data_size, data_of}

pub record Sound (p : List ℕ) : Type 0 where
  -- Rule 2.1: the fields that its header announces are there.
  pub whole : fields (header_of p) ≤ length p
  -- Rule 2.1: 512 bytes at most.
  pub short : length p ≤ 512
  -- Rule 2.4: a length field counts data bytes alone.
  pub counted : has_length (header_of p) ≡ 1 → word_at p (length_place (header_of p)) ≡ data_size p
  -- Rule 2.5: the last byte is the checksum of those before it.
  pub summed : has_checksum (header_of p) ≡ 1 → byte_at p (length p - 1) ≡ checksum (take (length p - 1) p)

-- Rule 2.6: what reading takes: a sound frame, destination 4, and data that its command allows.
pub record Taken (p : List ℕ) : Type 0 where
  pub frame : Sound p
  pub here : destination (header_of p) ≡ 4
  pub allowed : Allowed (opcode_of p) (options_in (header_of p)) (data_of p)
