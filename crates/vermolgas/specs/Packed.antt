-- How the C entries pack an answer, status, lengths and place, into one number of 64 bits
-- (docs/INTERFACE.md has the table), and what they promise: the equation; the plain promise, which
-- alone determines answer and lists; and of the parts of the answer all that the entry beneath
-- promises.
use Rattle.std.specs.Prelude.{ℕ, ◌+◌, ◌*◌, ◌≡◌, Bool, List}
use Rattle.wire.specs.Tables.{words}
use Rattle.packet.specs.Reading.{Answer, reading}
use Rattle.packet.specs.Making.{Made, made}
use Rattle.packet.specs.Promises.{PacketRead, PacketMade}
use Rattle.reply.specs.Answer.{ReplyAnswer}
use Rattle.reply.specs.Reading.{reply_reading, ReplyRead}
use Rattle.front_end.specs.Mark.{RowsOut, rows_told}
use Rattle.front_end.specs.Demands.{RowsPromised}
use Rattle.front_end_bytes.specs.Bytes.{Lent, LentOut, step_bytes}
use Rattle.front_end_bytes.specs.Promises.{HandledBytes}
use Rattle.compressor.specs.Plain.{CompressOut}
use Rattle.compressor.specs.Compressing.{compressing_bytes, CompressedBytes}
use Rattle.splitter.specs.Plain.{SplitOut}
use Rattle.splitter.specs.Splitting.{splitting, SplitBytes}
use Rattle.upload.specs.Plain.{PlanLists, PlanOut}
use Rattle.upload.specs.Planning.{planned_bytes, PlannedBytes}
use Rattle.vermolgas.specs.Plain.{ReadC, MakeC, ReplyC, StepC, RowsC, CompressC, SplitC, PlanC}

-- ---- Reading, rule 2.6. An answer that is a refusal has 0 in all bits from 8 on, but in 32-47 the place of its fault.

abbrev pub packed_reading : Answer → ℕ
packed_reading a =
    a.number + 256 * a.opcode + 65536 * a.options + 16777216 * a.place + 4294967296 * (a.size + a.fault-place)

pub record PackedRead (p : List ℕ) (answer : ℕ) : Type 0 where
  pub packed : answer ≡ packed_reading (reading p)
  pub plain : ReadC p answer
  pub promise : PacketRead p plain.a

-- ---- Making, rule 4.4.

abbrev pub packed_made : Made → ℕ
packed_made m = m.status + 256 * m.size + 4294967296 * m.fault-place

pub record PackedMake (op options : ℕ) (d buffer : List ℕ) (answer : ℕ) (left : List ℕ) : Type 0 where
  pub packed : answer ≡ packed_made (made op options d buffer)
  pub plain : MakeC op options d buffer answer left
  pub promise : PacketMade op options d buffer (record { status = plain.status; fault-place = plain.fault-place; size = plain.size; buffer = left })

-- ---- Reading a reply, rule 3.5. The data of a reply is at offset 3.

abbrev pub packed_reply : ReplyAnswer → ℕ
packed_reply r = r.number + 256 * r.status + 65536 * r.size

pub record PackedReplyRead (r : List ℕ) (sum : Bool) (answer : ℕ) : Type 0 where
  pub packed : answer ≡ packed_reply (reply_reading r sum)
  pub plain : ReplyC r sum answer
  pub promise : ReplyRead r sum plain.a

-- ---- One packet on a state, rule 3.4.

abbrev pub packed_out : LentOut → ℕ
packed_out o = o.status + 256 * o.size + 4294967296 * o.fault-place

pub record PackedHandled (p : List ℕ) (l : Lent) (reply : List ℕ) (answer : ℕ) (left : Lent) (after : List ℕ) : Type 0 where
  pub packed : answer ≡ packed_out (step_bytes p l reply)
  pub plain : StepC p l reply answer left after
  pub promise : HandledBytes p l reply
      (record { status = plain.status; fault-place = plain.fault-place; size = plain.size; lent = left; reply = after })

-- ---- What is told of the row mark, rule 11.4.

abbrev pub packed_rows : RowsOut → ℕ
packed_rows o = o.status + 256 * o.count + 65536 * o.lowest

pub record PackedRows (block : List ℕ) (answer : ℕ) : Type 0 where
  pub packed : answer ≡ packed_rows (rows_told block)
  pub plain : RowsC block answer
  pub promise : RowsPromised block plain.status plain.count plain.lowest

-- ---- Compressing gains, rule 10.2.

abbrev pub packed_compress : CompressOut → ℕ
packed_compress o = o.status + 256 * o.pairs

pub record PackedCompress (gains room : List ℕ) (answer : ℕ) (left : List ℕ) : Type 0 where
  pub packed : answer ≡ packed_compress (compressing_bytes gains room)
  pub plain : CompressC gains room answer left
  pub promise : CompressedBytes gains room (record { status = plain.status; pairs = plain.pairs; room = left })

-- ---- Splitting pairs, rule 10.4.

abbrev pub packed_split : SplitOut → ℕ
packed_split o = o.status + 256 * o.packets + 4294967296 * o.bytes

pub record PackedSplit (colour start : ℕ) (pairs batch : List ℕ) (answer : ℕ) (left : List ℕ) : Type 0 where
  pub packed : answer ≡ packed_split (splitting 4 colour start pairs (words pairs) batch)
  pub plain : SplitC colour start pairs batch answer left
  pub promise : SplitBytes colour start pairs batch
      (record { status = plain.status; packets = plain.packets; bytes = plain.size; batch = left })

-- ---- Planning, rule 6.4.

abbrev pub packed_plan : PlanOut → ℕ
packed_plan o = o.status + 256 * o.packets + 4294967296 * o.bytes

pub record PackedPlan (n : ℕ) (held wanted : List ℕ) (before : PlanLists) (answer : ℕ) (left : PlanLists) : Type 0 where
  pub packed : answer ≡ packed_plan (planned_bytes n held wanted before)
  pub plain : PlanC n held wanted before answer left
  pub promise : PlannedBytes n held wanted before
      (record { status = plain.status; packets = plain.packets; bytes = plain.size; left = left })
