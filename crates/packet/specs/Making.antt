-- Rule 4.4: making a packet from an opcode, options and data. It refuses what reading would refuse, so that nothing is sent
-- that the front end does not read.
use Rattle.std.specs.Prelude.{ℕ, ◌+◌, Bool, cond, List, [], ◌∷◌, ◌++◌, length, eqb, ltb, Result, Ok, Err}
use Rattle.wire.specs.declared.refusal.Refusal.{Refusal}
use Rattle.wire.specs.Refusals.{status_of, fault_of}
use Rattle.wire.specs.Numbers.{word_bytes}
use Rattle.wire.specs.Checksum.{sealed}
use Rattle.wire.specs.First.{first}
use Rattle.wire.specs.Buffers.{over}
use Rattle.opcode.specs.Options.{two_byte, has_length, has_checksum, options_in}
use Rattle.opcode.specs.Judgement.{judgement, fault_place}
use Rattle.packet.specs.Frame.{fields}

-- Bytes that an option asks for.
abbrev pub present : ℕ → List ℕ → List ℕ
present option s = cond (eqb option 1) s []

-- Rule 4.4: header, opcode and length field of a packet with n bytes of data, for destination 4.
abbrev pub head_bytes : ℕ → ℕ → ℕ → List ℕ
head_bytes op o n = ((4 + o) ∷ op ∷ present (two_byte o) (0 ∷ [])) ++ present (has_length o) (word_bytes n)

-- Rule 2.1: the packet's fields, in their order.
unfoldable pub packet_of : ℕ → ℕ → List ℕ → List ℕ
packet_of op o d = sealed (eqb (has_checksum o) 1) (head_bytes op o (length d) ++ d)

-- Rule 4.4: the refusals of making, in order, for a buffer of so many bytes. An opcode over 255 is not carried, so it is 7.
abbrev pub make_refusals : ℕ → ℕ → List ℕ → ℕ → List (ℕ × Bool)
make_refusals op o d room = (1, ltb room 512) ∷ (3, ltb 512 (fields o + length d)) ∷ judgement op o d

-- Rule 4.4: what making answers, with the place of a refusal by 10 (rule 4.6), and the buffer as it is left.
pub record Made : Type 0 where
  pub status : ℕ
  pub fault-place : ℕ
  pub size : ℕ
  pub buffer : List ℕ

-- Rule 4.4: what is made leaves the buffer behind it; a refusal has length 0 and leaves the whole buffer.
abbrev pub made_by : ℕ → ℕ → ℕ → List ℕ → List ℕ → Made
made_by n op o d buffer =
    cond (eqb n 0)
    (record { status = 0; fault-place = 0; size = length (packet_of op o d); buffer = over (packet_of op o d) buffer })
    (record { status = n; fault-place = fault_place n op o d; size = 0; buffer = buffer })

-- Rule 2.2: of the options only bits 3 to 7 are looked at.
unfoldable pub made : ℕ → ℕ → List ℕ → List ℕ → Made
made op options d buffer =
    made_by (first (make_refusals op (options_in options) d (length buffer))) op (options_in options) d buffer

-- The code's answer, and the buffer as it is left, as such a record: a refusal has the size 0.
abbrev pub size_of : Result ℕ Refusal → ℕ
size_of (Ok size) = size
size_of (Err why) = 0

abbrev pub made_told : Result ℕ Refusal → List ℕ → Made
made_told r buffer = record { status = status_of r; fault-place = fault_of r; size = size_of r; buffer = buffer }
