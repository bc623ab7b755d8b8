-- Rule 1.1: one packet on a state, and what it answers.
use Rattle.std.specs.Prelude.{ℕ, Bool, cond, not, ◌&&◌, ◌||◌, List, [], ◌∷◌, ◌++◌, length, eqb, ltb}
use Rattle.wire.specs.First.{first}
use Rattle.wire.specs.Buffers.{over}
use Rattle.wire.specs.Numbers.{word_bytes}
use Rattle.opcode.specs.Options.{has_checksum, asks_reply, is_read}
use Rattle.packet.specs.Frame.{header_of, opcode_of, data_of}
use Rattle.packet.specs.Reading.{Answer, refusals, fault_of, answered}
use Rattle.reply.specs.Reply.{reply_bytes}
use Rattle.front_end.specs.State.{State, stopped}
use Rattle.front_end.specs.Commands.{data_back, runs_past}
use Rattle.front_end.specs.Mark.{written_marked}

abbrev pub reads : List ℕ → Bool
reads p = eqb (is_read (header_of p)) 1

-- Rule 4.3: refusal 12 is tried when reading has found nothing.
abbrev pub read_and_placed : List ℕ → List ℕ → List (ℕ × Bool)
read_and_placed p block = refusals p ++ ((12, runs_past (opcode_of p) (reads p) (data_of p) block) ∷ [])

-- Rule 4.1: the decision on a packet that refusal 1 does not stop: refusals 2 to 12, or the command.
unfoldable pub decision : List ℕ → List ℕ → Answer
decision p block = answered (first (read_and_placed p block)) p

-- Rule 4.1: refusals 1 to 12, tried in this order.
abbrev pub step_refusals : List ℕ → State → List ℕ → List (ℕ × Bool)
step_refusals p s reply = (1, stopped s reply) ∷ read_and_placed p s.block

-- Rule 4.1: the first that applies.
unfoldable pub number_of : List ℕ → State → List ℕ → ℕ
number_of p s reply = first (step_refusals p s reply)

-- Rule 3.2: a reply needs a first byte in which bit 6 or bit 7 is set, and a number other than 1. For a read bit 6 changes nothing.
abbrev pub answers : ℕ → List ℕ → Bool
answers number p = ltb 0 (length p) && (reads p || eqb (asks_reply (header_of p)) 1) && not (eqb number 1)

-- Rules 3.3 and 4.6: the reply to a refusal by 10 has the place of the fault for data; to any other refusal, and to an accepted write, it has none.
abbrev pub place_data : ℕ → ℕ → List ℕ
place_data number fault = cond (eqb number 10) (word_bytes fault) []

-- Rule 3.3: an accepted read has the data that it returns.
abbrev pub reply_data : ℕ → ℕ → List ℕ → State → List ℕ
reply_data number fault p s = cond (eqb number 0 && reads p) (data_back (opcode_of p) (data_of p) s) (place_data number fault)

-- Rule 3.1: the reply of a refusal, from its number and place, or of a write that was accepted.
unfoldable pub status_reply : ℕ → ℕ → List ℕ → List ℕ
status_reply number fault p =
    cond (answers number p) (reply_bytes (eqb (has_checksum (header_of p)) 1) number (place_data number fault)) []

-- Rule 3.3: the reply of an accepted read, from its opcode, its options or header, and its data.
abbrev pub read_reply : ℕ → ℕ → List ℕ → State → List ℕ
read_reply op o d s = reply_bytes (eqb (has_checksum o) 1) 0 (data_back op d s)

-- Rule 3.1: the reply's bytes, none where none is written.
unfoldable pub reply_to : ℕ → List ℕ → State → List ℕ
reply_to number p s =
    cond (answers number p) (reply_bytes (eqb (has_checksum (header_of p)) 1) number (reply_data number (fault_of number p) p s)) []

-- Rule 4.2: a refusal changes neither settings nor tables; a read does not either.
abbrev pub state_after : ℕ → List ℕ → State → State
state_after number p s = cond (eqb number 0 && not (reads p)) (written_marked (opcode_of p) (data_of p) s) s

-- Rule 3.4: the status, the place of its fault (rule 4.6), and the length of the reply, 0 where there is none. Then all that was lent, as it is left.
pub record Out : Type 0 where
  pub status : ℕ
  pub fault-place : ℕ
  pub size : ℕ
  pub state : State
  pub reply : List ℕ

abbrev pub out : ℕ → ℕ → ℕ → State → List ℕ → Out
out status fault size s reply = record { status = status; fault-place = fault; size = size; state = s; reply = reply }

abbrev pub out_of : ℕ → List ℕ → State → List ℕ → Out
out_of number p s reply =
    record {
      status = number;
      fault-place = fault_of number p;
      size = length (reply_to number p s);
      state = state_after number p s;
      reply = over (reply_to number p s) reply;
    }

-- Rules 1.1, 3.4 and 4.2.
unfoldable pub step : List ℕ → State → List ℕ → Out
step p s reply = out_of (number_of p s reply) p s reply
