-- Rule 1.3: what the C entries answer, bit by bit, and that it is what is promised of the lists
-- lent. The parts of an answer are given with what they are promised to be; no part is larger than
-- its bits, so that taking the number apart by the bits gives them. Each promise holds of one
-- outcome at most (proofs/Determined).
use Rattle.std.specs.Prelude.{ℕ, ◌+◌, ◌*◌, ◌<◌, ◌≡◌, Bool, List}
use Rattle.packet.specs.Reading.{Answer}
use Rattle.packet.specs.Plain.{ReadPlain, MakePlain}
use Rattle.reply.specs.Answer.{ReplyAnswer}
use Rattle.reply.specs.Plain.{ReplyPlain}
use Rattle.front_end.specs.Rows.{RowsPlain}
use Rattle.front_end_bytes.specs.Bytes.{Lent}
use Rattle.front_end_bytes.specs.Plain.{StepBytesPlain, ResetBytesPlain}
use Rattle.compressor.specs.Plain.{CompressPlainBytes}
use Rattle.splitter.specs.Plain.{SplitPlainBytes}
use Rattle.upload.specs.Plain.{PlanLists, PlanBytesPlain}

-- vermolgas_read, rule 2.6: the refusal in bits 0-7, the opcode in 8-15, header bits 3-7 in place
-- in 16-23, the place of the data in 24-31; in 32-47 its size, or on a refusal the place of the
-- fault.
pub record ReadC (p : List ℕ) (answer : ℕ) : Type 0 where
  pub a : Answer
  pub bits : answer ≡ a.number + 256 * a.opcode + 65536 * a.options + 16777216 * a.place + 4294967296 * (a.size + a.fault-place)
  pub small : (a.number < 256) × (a.opcode < 256) × (a.options < 256) × (a.place < 256) × (a.size < 65536) × (a.fault-place < 65536)
  pub plain : ReadPlain p a

-- vermolgas_make, rule 4.4: the status in bits 0-7, the packet's length in 8-23, the place of the
-- fault in 32-47; and the buffer as it is left.
pub record MakeC (op options : ℕ) (d buffer : List ℕ) (answer : ℕ) (left : List ℕ) : Type 0 where
  pub status : ℕ
  pub size : ℕ
  pub fault-place : ℕ
  pub bits : answer ≡ status + 256 * size + 4294967296 * fault-place
  pub small : (status < 256) × (size < 65536) × (fault-place < 65536)
  pub plain : MakePlain op options d buffer (record { status = status; fault-place = fault-place; size = size; buffer = left })

-- vermolgas_read_reply, rule 3.5: the refusal in bits 0-7, the reply's status in 8-15, its data's
-- length in 16-31. Its data is at 3.
pub record ReplyC (r : List ℕ) (sum : Bool) (answer : ℕ) : Type 0 where
  pub a : ReplyAnswer
  pub bits : answer ≡ a.number + 256 * a.status + 65536 * a.size
  pub small : (a.number < 256) × (a.status < 256) × (a.size < 65536)
  pub plain : ReplyPlain r sum a

-- vermolgas_packet, rule 3.4: the status in bits 0-7, the reply's length in 8-23, the place of the
-- fault in 32-47; and every lent list as it is left.
pub record StepC (p : List ℕ) (l : Lent) (reply : List ℕ) (answer : ℕ) (left : Lent) (after : List ℕ) : Type 0 where
  pub status : ℕ
  pub size : ℕ
  pub fault-place : ℕ
  pub bits : answer ≡ status + 256 * size + 4294967296 * fault-place
  pub small : (status < 256) × (size < 65536) × (fault-place < 65536)
  pub plain : StepBytesPlain p l reply (record { status = status; fault-place = fault-place; size = size; lent = left; reply = after })

-- vermolgas_reset, rule 5.10: the status.
abbrev pub ResetC : Lent → ℕ → Lent → Type 0
ResetC l answer left = ResetBytesPlain l (record { status = answer; lent = left })

-- vermolgas_rows, rule 11.4: the status in bits 0-7, the number of marked rows in 8-15, the lowest
-- of them in 16-23.
pub record RowsC (block : List ℕ) (answer : ℕ) : Type 0 where
  pub status : ℕ
  pub count : ℕ
  pub lowest : ℕ
  pub bits : answer ≡ status + 256 * count + 65536 * lowest
  pub small : (status < 256) × (count < 256) × (lowest < 256)
  pub plain : RowsPlain block status count lowest

-- vermolgas_compress, rule 10.2: the status in bits 0-7, the number of pairs from 8 on; and the
-- room as it is left.
pub record CompressC (gains room : List ℕ) (answer : ℕ) (left : List ℕ) : Type 0 where
  pub status : ℕ
  pub pairs : ℕ
  pub bits : answer ≡ status + 256 * pairs
  pub small : status < 256
  pub plain : CompressPlainBytes gains room (record { status = status; pairs = pairs; room = left })

-- vermolgas_split, rule 10.4: the status in bits 0-7, the number of packets in 8-31, the batch's
-- bytes from 32 on; and the batch as it is left.
pub record SplitC (colour start : ℕ) (pairs batch : List ℕ) (answer : ℕ) (left : List ℕ) : Type 0 where
  pub status : ℕ
  pub packets : ℕ
  pub size : ℕ
  pub bits : answer ≡ status + 256 * packets + 4294967296 * size
  pub small : (status < 256) × (packets < 16777216) × (size < 4294967296)
  pub plain : SplitPlainBytes colour start pairs batch (record { status = status; packets = packets; bytes = size; batch = left })

-- vermolgas_plan, rule 6.4: the same bits; and every lent list as it is left.
pub record PlanC (n : ℕ) (held wanted : List ℕ) (before : PlanLists) (answer : ℕ) (left : PlanLists) : Type 0 where
  pub status : ℕ
  pub packets : ℕ
  pub size : ℕ
  pub bits : answer ≡ status + 256 * packets + 4294967296 * size
  pub small : (status < 256) × (packets < 16777216) × (size < 4294967296)
  pub plain : PlanBytesPlain n held wanted before (record { status = status; packets = packets; bytes = size; left = left })
