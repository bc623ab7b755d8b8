-- Rule 2.6: reading looks at the packet alone, and gives a command with its options and the place of its data, or a refusal.
use Rattle.std.specs.Prelude.{ℕ, ◌-◌, Bool, cond, not, ◌&&◌, List, [], ◌∷◌, ◌++◌, length, take, eqb, ltb, Result, Ok, Err}
use Rattle.wire.specs.declared.refusal.Refusal.{Refusal}
use Rattle.wire.specs.Refusals.{number_of, place_of}
use Rattle.wire.specs.Numbers.{byte_at, word_at}
use Rattle.wire.specs.Checksum.{checksum}
use Rattle.wire.specs.First.{first}
use Rattle.opcode.specs.Options.{has_length, has_checksum, destination}
use Rattle.opcode.specs.Judgement.{judgement, fault_place}
use Rattle.packet.specs.Frame.{header_of, opcode_of, options_of, length_place, place, fields, data_size, data_of}
use Rattle.packet.specs.declared.Command.{Command}

-- Rule 4.1, 2: fewer bytes than the header announces; an empty packet has too few as well.
abbrev pub too_short : List ℕ → Bool
too_short p = ltb (length p) (fields (header_of p))

-- Rule 4.1, 3: more than 512 bytes.
abbrev pub too_long : List ℕ → Bool
too_long p = ltb 512 (length p)

-- Rule 4.1, 4: the length field is not the number of data bytes.
abbrev pub length_differs : List ℕ → Bool
length_differs p = eqb (has_length (header_of p)) 1 && not (eqb (word_at p (length_place (header_of p))) (data_size p))

-- Rule 4.1, 5: the last byte is not the checksum of those before it.
abbrev pub checksum_differs : List ℕ → Bool
checksum_differs p =
    eqb (has_checksum (header_of p)) 1 && not (eqb (byte_at p (length p - 1)) (checksum (take (length p - 1) p)))

-- Rule 4.1, 6: another destination than 4.
abbrev pub elsewhere : List ℕ → Bool
elsewhere p = not (eqb (destination (header_of p)) 4)

-- Rule 4.1: rows 2 to 6, in order.
abbrev pub frame_refusals : List ℕ → List (ℕ × Bool)
frame_refusals p =
    (2, too_short p)
    ∷ (3, too_long p)
    ∷ (4, length_differs p)
    ∷ (5, checksum_differs p)
    ∷ (6, elsewhere p)
    ∷ []

-- Rule 2.6: refusals 2 to 11 in order, those of the frame, and 7 to 11 of the command in it.
abbrev pub refusals : List ℕ → List (ℕ × Bool)
refusals p = frame_refusals p ++ judgement (opcode_of p) (options_of p) (data_of p)

-- Rule 4.6: the place that a refusal of a packet names, its offset in the data.
abbrev pub fault_of : ℕ → List ℕ → ℕ
fault_of n p = fault_place n (opcode_of p) (options_of p) (data_of p)

-- Rule 2.6: the refusal, 0 for none, and the place of its fault (rule 4.6); then opcode, options (header bits 3 to 7 in place; bit 7 says read or
-- write), the place of the data and its size, which are all 0 if refused.
pub record Answer : Type 0 where
  pub number : ℕ
  pub fault-place : ℕ
  pub opcode : ℕ
  pub options : ℕ
  pub place : ℕ
  pub size : ℕ

abbrev pub command_at : ℕ → ℕ → ℕ → ℕ → Answer
command_at opcode options at size = record { number = 0; fault-place = 0; opcode = opcode; options = options; place = at; size = size }

abbrev pub refused_by : ℕ → ℕ → Answer
refused_by n fault = record { number = n; fault-place = fault; opcode = 0; options = 0; place = 0; size = 0 }

abbrev pub answered : ℕ → List ℕ → Answer
answered n p =
    cond (eqb n 0) (command_at (opcode_of p) (options_of p) (place (header_of p)) (data_size p)) (refused_by n (fault_of n p))

-- Rule 2.6: the first refusal that applies, or the command.
unfoldable pub reading : List ℕ → Answer
reading p = answered (first (refusals p)) p

-- Number and values of each case of the code's answer.
abbrev pub answer : Result Command Refusal → Answer
answer (Ok c) = command_at c.opcode c.options c.at c.size
answer (Err why) = refused_by (number_of why) (place_of why)
