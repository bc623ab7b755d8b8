-- Rules 2.1 to 2.6, 4.4 and 4.6: what reading and making a packet promise, how many bytes a packet
-- announces, and what a packet does to a map of N points; with the numbers themselves. Each promise
-- holds of one outcome at most (proofs/Determined).
use Rattle.std.specs.Prelude.{ℕ, ◌+◌, ◌-◌, ◌*◌, ◌/◌, ◌%◌, ◌≤◌, ◌<◌, ◌≡◌, ◌↔◌, true, List, [], ◌∷◌, ◌++◌, length, take, drop, get_or, replicate, Ok, Err}
use Rattle.std.proofs.Math.Seq.{paste}
use Rattle.wire.specs.declared.refusal.Refusal.{Refusal}
use Rattle.wire.specs.Refusals.{number_of, place_of}
use Rattle.wire.specs.Numbers.{byte_at, word_at}
use Rattle.wire.specs.Tables.{words}
use Rattle.wire.specs.Checksum.{checksum}
use Rattle.wire.specs.Plain.{Least, Bytes}
use Rattle.opcode.specs.Options.{has_length, has_checksum, is_read, destination, options_in}
use Rattle.opcode.specs.Faults.{FirstFault}
use Rattle.opcode.specs.Plain.{CommandRefuses}
use Rattle.packet.specs.Frame.{header_of, opcode_of, options_of, length_place, place, fields, data_of}
use Rattle.packet.specs.Reading.{Answer, reading, answer}
use Rattle.packet.specs.Making.{packet_of, Made, made_told}
use Rattle.packet.specs.Points.{accepted_at, map_after}

-- ---- Reading, rule 2.6.

-- Rule 4.1: when each of the refusals 2 to 11 applies to a packet, whatever the others do.
pub data Refuses (p : List ℕ) : ℕ → Type 0 where
  too_short : length p < fields (header_of p) → Refuses p 2
  too_long : 512 < length p → Refuses p 3
  other_length : has_length (header_of p) ≡ 1 → (word_at p (length_place (header_of p)) ≡ length p - fields (header_of p) → ⊥) → Refuses p 4
  other-sum : has_checksum (header_of p) ≡ 1 → (byte_at p (length p - 1) ≡ checksum (take (length p - 1) p) → ⊥) → Refuses p 5
  elsewhere : (destination (header_of p) ≡ 4 → ⊥) → Refuses p 6
  command : {n : ℕ} → CommandRefuses (opcode_of p) (options_of p) (data_of p) n → Refuses p n

pub record ReadPlain (p : List ℕ) (a : Answer) : Type 0 where
  -- The first refusal that applies; 0 where none does.
  pub number : Least (Refuses p) a.number
  -- Rule 4.6: 10 has the place of the first fault, nothing else has one.
  pub fault-place : a.number ≡ 10 → FirstFault (opcode_of p) (options_of p) (data_of p) a.fault-place
  pub no-fault : (a.number ≡ 10 → ⊥) → a.fault-place ≡ 0
  -- Rules 2.2 to 2.4: opcode, options, and where the data stands; of a refusal nothing.
  pub opcode : a.number ≡ 0 → a.opcode ≡ opcode_of p
  pub options : a.number ≡ 0 → a.options ≡ options_of p
  pub at : a.number ≡ 0 → a.place ≡ place (header_of p)
  pub size : a.number ≡ 0 → a.size ≡ length p - fields (header_of p)
  pub nothing-else : (a.number ≡ 0 → ⊥) → (a.opcode ≡ 0) × (a.options ≡ 0) × (a.place ≡ 0) × (a.size ≡ 0)

-- ---- Making, rule 4.4, from an opcode, options in place and data, in a buffer of so many bytes.

pub data MakeRefuses (op o : ℕ) (d : List ℕ) (room : ℕ) : ℕ → Type 0 where
  no_room : room < 512 → MakeRefuses op o d room 1
  too_long : 512 < fields o + length d → MakeRefuses op o d room 3
  command : {n : ℕ} → CommandRefuses op o d n → MakeRefuses op o d room n

pub record MakePlain (op options : ℕ) (d buffer : List ℕ) (m : Made) : Type 0 where
  pub number : Least (MakeRefuses op (options_in options) d (length buffer)) m.status
  pub fault-place : m.status ≡ 10 → FirstFault op (options_in options) d m.fault-place
  pub no-fault : (m.status ≡ 10 → ⊥) → m.fault-place ≡ 0
  -- The packet is written over the start of the buffer; what lies behind it stays. A refusal has no
  -- length and leaves all.
  pub size : m.status ≡ 0 → m.size ≡ length (packet_of op (options_in options) d)
  pub written : m.status ≡ 0
      → m.buffer ≡ packet_of op (options_in options) d ++ drop (length (packet_of op (options_in options) d)) buffer
  pub refused : (m.status ≡ 0 → ⊥) → (m.size ≡ 0) × (m.buffer ≡ buffer)

-- Rule 2.1: header, opcode (a high byte of 0 where it has two), the data's length where there is
-- one, data.
abbrev pub unsealed : ℕ → ℕ → List ℕ → List ℕ
unsealed op o d =
    ((4 + o) ∷ op ∷ replicate (o / 8 % 2) 0) ++ (take (2 * (o / 16 % 2)) (length d % 256 ∷ length d / 256 ∷ []) ++ d)

-- ---- How many bytes a packet at the start of some bytes announces, rule 2.4.

pub record AnnouncedPlain (p : List ℕ) (n : ℕ) : Type 0 where
  pub with-length : has_length (header_of p) ≡ 1 → n ≡ fields (header_of p) + word_at p (length_place (header_of p))
  pub without : has_length (header_of p) ≡ 0 → n ≡ fields (header_of p)
  pub some : 2 ≤ n
  pub few : n ≤ 65541

-- ---- What a packet does to a map of N points, rule 7.1.

pub record WritesAt (n : ℕ) (p : List ℕ) : Type 0 where
  pub taken : (reading p).number ≡ 0
  pub points : opcode_of p ≡ 0x34
  pub write : is_read (header_of p) ≡ 0
  pub within : word_at (data_of p) 0 + (length (data_of p) - 2) / 4 ≤ n

-- ---- What the names mean that are cited here and above.

pub record Pinned : Type 0 where
  pub header : (p : List ℕ) → header_of p ≡ get_or p 0 0
  pub opcode : (p : List ℕ) → opcode_of p ≡ get_or p 1 0 + 256 * (get_or p 0 0 / 8 % 2 * get_or p 2 0)
  pub options : (p : List ℕ) → options_of p ≡ get_or p 0 0 / 8 * 8
  pub length_at : (h : ℕ) → length_place h ≡ 2 + h / 8 % 2
  pub data-at : (h : ℕ) → place h ≡ 2 + h / 8 % 2 + 2 * (h / 16 % 2)
  pub besides-data : (h : ℕ) → fields h ≡ 2 + h / 8 % 2 + 2 * (h / 16 % 2) + h / 32 % 2
  pub content : (p : List ℕ) → data_of p ≡ take (length p - fields (header_of p)) (drop (place (header_of p)) p)
  -- Number and values of each case of the code's answers, of reading and of making.
  pub command-case : (op o at size : ℕ)
      → answer (Ok (record { opcode = op; options = o; at = at; size = size })) ≡ record { number = 0; fault-place = 0; opcode = op; options = o; place = at; size = size }
  pub refused-case : (why : Refusal)
      → answer (Err why) ≡ record { number = number_of why; fault-place = place_of why; opcode = 0; options = 0; place = 0; size = 0 }
  pub made-case : (size : ℕ) (buffer : List ℕ)
      → made_told (Ok size) buffer ≡ record { status = 0; fault-place = 0; size = size; buffer = buffer }
  pub unmade-case : (why : Refusal) (buffer : List ℕ)
      → made_told (Err why) buffer ≡ record { status = number_of why; fault-place = place_of why; size = 0; buffer = buffer }
  pub read : (p : List ℕ) → Bytes p → ReadPlain p (reading p)
  -- Rules 2.1 and 2.5: behind these the checksum of them all, where there is one.
  pub packet : (op o : ℕ) (d : List ℕ) → packet_of op o d ≡ unsealed op o d ++ take (o / 32 % 2) (checksum (unsealed op o d) ∷ [])
  -- Rules 5.4 and 7.1: a 34h write whose points lie within N writes them from its start on, two
  -- numbers a point; whatever else comes leaves the map.
  pub accepted-at : (n : ℕ) (p : List ℕ) → (accepted_at n p ≡ true) ↔ WritesAt n p
  pub map-written : (n : ℕ) (p map : List ℕ) → WritesAt n p
      → map_after n p map ≡ paste map (2 * word_at (data_of p) 0) (words (drop 2 (data_of p))) (length (words (drop 2 (data_of p))))
  pub map-kept : (n : ℕ) (p map : List ℕ) → (WritesAt n p → ⊥) → map_after n p map ≡ map
