-- Packets that were accepted as a write, by what an entry answered.
use Rattle.std.specs.Prelude.{ℕ, ◌≡◌, List}
use Rattle.wire.specs.Numbers.{byte_at}
use Rattle.opcode.specs.Options.{is_read}
use Rattle.packet.specs.Frame.{header_of, opcode_of, data_of}
use Rattle.front_end.specs.Step.{Out}

-- A packet that is an accepted write of an opcode.
abbrev pub Writes : ℕ → List ℕ → Out → Type 0
Writes op p o = (o.status ≡ 0) × (opcode_of p ≡ op) × (is_read (header_of p) ≡ 0)

-- Rule 5.6: one that is an accepted 36h write of so much.
abbrev pub Sets36 : ℕ → List ℕ → Out → Type 0
Sets36 v p o = (o.status ≡ 0) × (opcode_of p ≡ 0x36) × (is_read (header_of p) ≡ 0) × (byte_at (data_of p) 0 ≡ v)

abbrev pub Applies : List ℕ → Out → Type 0
Applies = Sets36 1
