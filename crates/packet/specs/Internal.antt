-- What only private functions of this crate need, and no rule: the frame alone, before its command is judged.
use Rattle.std.specs.Prelude.{ℕ, List, Result, Ok, Err}
use Rattle.wire.specs.declared.refusal.Refusal.{Refusal}
use Rattle.wire.specs.Refusals.{number_of, place_of}
use Rattle.wire.specs.First.{first}
use Rattle.packet.specs.Reading.{Answer, frame_refusals, command_at, refused_by, answered}
use Rattle.packet.specs.declared.Frame.{Frame}

-- Rule 4.1, 2 to 6: these refusals, or what stands in the packet.
unfoldable pub framed : List ℕ → Answer
framed p = answered (first (frame_refusals p)) p

abbrev pub frame_answer : Result Frame Refusal → Answer
frame_answer (Ok f) = command_at f.opcode f.options.bits f.at f.size
frame_answer (Err why) = refused_by (number_of why) (place_of why)
