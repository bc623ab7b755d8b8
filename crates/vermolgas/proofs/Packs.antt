-- What the function beneath promises, of the parts that an answer was packed from.
use Prim.Native.Nat.{ℕ, ◌+◌, ◌*◌, ◌<◌}
use mathlib.Core.Path.{◌≡◌, sym, ap, subst, ◌∙◌}
use mathlib.Core.Bool.{Bool}
use mathlib.Core.List.{List}
use native.Mathlib.Omega.{arith}
use Rattle.packet.specs.Reading.{Answer}
use Rattle.packet.specs.Making.{Made}
use Rattle.packet.specs.Promises.{PacketRead, PacketMade}
use Rattle.reply.specs.Answer.{ReplyAnswer}
use Rattle.reply.specs.Reading.{ReplyRead}
use Rattle.front_end.specs.Mark.{rows_out}
use Rattle.front_end.specs.Demands.{RowsPromised}
use Rattle.front_end.proofs.Fresh.{FewRows, told-few}
use Rattle.front_end_bytes.specs.Bytes.{Lent, LentOut}
use Rattle.front_end_bytes.specs.Promises.{HandledBytes}
use Rattle.compressor.specs.Plain.{CompressOut}
use Rattle.compressor.specs.Compressing.{CompressedBytes}
use Rattle.splitter.specs.Plain.{SplitOut}
use Rattle.splitter.specs.Splitting.{SplitBytes}
use Rattle.upload.specs.Plain.{PlanLists, PlanOut}
use Rattle.upload.specs.Planning.{PlannedBytes}
use Rattle.upload.proofs.Small.{answer-small}
use Rattle.vermolgas.specs.Packed.{packed_reading, PackedRead, packed_made, PackedMake, packed_reply, PackedReplyRead}
use Rattle.vermolgas.specs.Packed.{packed_out, PackedHandled, packed_rows, PackedRows}
use Rattle.vermolgas.specs.Packed.{packed_compress, PackedCompress, packed_split, PackedSplit, packed_plan, PackedPlan}

pub read-packed : (p : List ℕ) (n : ℕ) (a : Answer) → n ≡ packed_reading a
    → (a.number < 256) × (a.opcode < 256) × (a.options < 256) × (a.place < 256) × (a.size < 65536) × (a.fault-place < 65536)
    → PacketRead p a → PackedRead p n
read-packed p n a e small r =
    record {
      packed = e ∙ ap packed_reading r.outcome;
      plain = record { a = a; bits = e; small = small; plain = r.plain };
      promise = r;
    }

pub make-packed : (op options : ℕ) (d buffer : List ℕ) (n : ℕ) (m : Made) → n ≡ packed_made m
    → (m.status < 256) × (m.size < 65536) × (m.fault-place < 65536) → PacketMade op options d buffer m → PackedMake op options d buffer n m.buffer
make-packed op options d buffer n m e small r =
    record {
      packed = e ∙ ap packed_made r.outcome;
      plain = record { status = m.status; size = m.size; fault-place = m.fault-place; bits = e; small = small; plain = r.plain };
      promise = r;
    }

pub reply-packed : (r : List ℕ) (sum : Bool) (n : ℕ) (a : ReplyAnswer) → n ≡ packed_reply a
    → (a.number < 256) × (a.status < 256) × (a.size < 65536) → ReplyRead r sum a → PackedReplyRead r sum n
reply-packed r sum n a e small read =
    record {
      packed = e ∙ ap packed_reply read.outcome;
      plain = record { a = a; bits = e; small = small; plain = read.plain };
      promise = read;
    }

pub out-packed : (p : List ℕ) (l : Lent) (reply : List ℕ) (n : ℕ) (o : LentOut) → n ≡ packed_out o
    → (o.status < 256) × (o.size < 65536) × (o.fault-place < 65536) → HandledBytes p l reply o → PackedHandled p l reply n o.lent o.reply
out-packed p l reply n o e small r =
    record {
      packed = e ∙ ap packed_out r.outcome;
      plain = record { status = o.status; size = o.size; fault-place = o.fault-place; bits = e; small = small; plain = r.plain };
      promise = r;
    }

-- What is told of the row mark.
pub rows-packed : (block : List ℕ) (n status count lowest : ℕ) → n ≡ status + 256 * count + 65536 * lowest → RowsPromised block status count lowest
    → PackedRows block n
rows-packed block n status count lowest e r =
    let few : FewRows (rows_out status count lowest) = subst FewRows (sym r.outcome) (told-few block) in
    record {
      packed = e ∙ ap packed_rows r.outcome;
      plain =
          record {
            status = status;
            count = count;
            lowest = lowest;
            bits = e;
            small = (omega (arith, few.status), omega (arith, few.count), omega (arith, few.lowest));
            plain = r.plain;
          };
      promise = r;
    }

-- Gains compressed and pairs split: there are few of each, so each is what its bits say.
pub compress-packed : (gains room : List ℕ) (n : ℕ) (o : CompressOut) → n ≡ packed_compress o → o.status < 256 → CompressedBytes gains room o
    → PackedCompress gains room n o.room
compress-packed gains room n o said small told =
    record {
      packed = said ∙ ap packed_compress told.outcome;
      plain = record { status = o.status; pairs = o.pairs; bits = said; small = small; plain = told.plain };
      promise = told;
    }

pub split-packed : (colour start : ℕ) (pairs batch : List ℕ) (n : ℕ) (o : SplitOut) → n ≡ packed_split o → o.status < 256
    → SplitBytes colour start pairs batch o → PackedSplit colour start pairs batch n o.batch
split-packed colour start pairs batch n o said small told =
    record {
      packed = said ∙ ap packed_split told.right.outcome;
      plain =
          record {
            status = o.status;
            packets = o.packets;
            size = o.bytes;
            bits = said;
            small = (small, omega (arith, told.right.few), omega (arith, told.right.few));
            plain = told.right.plain;
          };
      promise = told;
    }

-- An upload planned.
pub plan-packed : (points : ℕ) (held wanted : List ℕ) (before : PlanLists) (n : ℕ) (o : PlanOut) → n ≡ packed_plan o → o.status < 256
    → PlannedBytes points held wanted before o → PackedPlan points held wanted before n o.left
plan-packed points held wanted before n o said small told =
    let few = answer-small told in
    record {
      packed = said ∙ ap packed_plan told.outcome;
      plain =
          record {
            status = o.status;
            packets = o.packets;
            size = o.bytes;
            bits = said;
            small = (small, omega (arith, few), omega (arith, few));
            plain = told.plain;
          };
      promise = told;
    }
