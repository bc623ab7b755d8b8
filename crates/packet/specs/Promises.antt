-- What reading and making promise, beside their equations: rules 2.6, 4.4 and 4.5. Both stand in the contracts of the functions
-- and of their C entries.
use Rattle.std.specs.Prelude.{ℕ, ◌≤◌, ◌≡◌, ◌↔◌, List, length, take, drop}
use Rattle.wire.specs.Buffers.{over}
use Rattle.opcode.specs.Options.{options_in}
use Rattle.packet.specs.Frame.{place, data_of}
use Rattle.packet.specs.Reading.{command_at, Answer, reading}
use Rattle.packet.specs.Sound.{Taken}
use Rattle.packet.specs.Making.{packet_of, Made, made}
use Rattle.packet.specs.Plain.{ReadPlain, MakePlain}

-- The data that an answer points at.
abbrev pub data_read : Answer → List ℕ → List ℕ
data_read a p = take a.size (drop a.place p)

-- Rule 4.5: an accepted packet, made again from its reading, has the same bytes.
abbrev pub MadeAgain : List ℕ → Answer → List ℕ → Type 0
MadeAgain p a buffer =
    made a.opcode a.options (data_read a p) buffer ≡ record { status = 0; fault-place = 0; size = length p; buffer = over p buffer }

-- Rule 2.6: reading, of its answer to a packet.
pub record PacketRead (p : List ℕ) (a : Answer) : Type 0 where
  pub outcome : a ≡ reading p
  -- The answer, apart from the tests that find it: this alone determines it.
  pub plain : ReadPlain p a
  -- Taken exactly if the frame is sound and meant for us, and the data is allowed.
  pub exactly : (a.number ≡ 0) ↔ Taken p
  pub again : a.number ≡ 0 → (buffer : List ℕ) → 512 ≤ length buffer → MadeAgain p a buffer

-- Rule 4.5: what was made reads back as the command and the options that it was made from, and its data byte for byte.
pub record ReadsAsMade (op options : ℕ) (d : List ℕ) (m : Made) : Type 0 where
  pub command : reading (take m.size m.buffer)
      ≡ command_at op (options_in options) (place (options_in options)) (length d)
  pub content : data_of (take m.size m.buffer) ≡ d

-- Rule 4.4: making, of its answer and the buffer that it leaves.
pub record PacketMade (op options : ℕ) (d buffer : List ℕ) (m : Made) : Type 0 where
  pub outcome : m ≡ made op options d buffer
  -- The answer and the buffer, apart from the tests: this alone determines both.
  pub plain : MakePlain op options d buffer m
  pub reads-back : m.status ≡ 0 → ReadsAsMade op options d m
  -- What reading says to the packet, and its place with it; an opcode over 255, of which there is no packet that could be sent, is 7.
  pub refusal : 512 ≤ length buffer → (m.status ≡ (reading (packet_of op (options_in options) d)).number)
      × (m.fault-place ≡ (reading (packet_of op (options_in options) d)).fault-place)
