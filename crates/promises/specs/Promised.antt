-- For each entry: what its contract says, by the record that the contract names, has the plain
-- promise in it. `tools/entries` holds the contracts to these records.
use Rattle.std.specs.Prelude.{ℕ, Bool, List, Result}
use Rattle.wire.specs.declared.refusal.Refusal.{Refusal}
use Rattle.packet.specs.Reading.{Answer}
use Rattle.packet.specs.Making.{Made}
use Rattle.packet.specs.Promises.{PacketRead, PacketMade}
use Rattle.packet.specs.Plain.{ReadPlain, MakePlain}
use Rattle.reply.specs.Answer.{ReplyAnswer}
use Rattle.reply.specs.Reading.{ReplyRead}
use Rattle.reply.specs.Plain.{ReplyPlain}
use Rattle.rising.specs.Alone.{RisingTold}
use Rattle.rising.specs.Plain.{RisingPlain}
use Rattle.front_end.specs.State.{State, ResetOut}
use Rattle.front_end.specs.Step.{Out}
use Rattle.front_end.specs.declared.mark.RowCount.{RowCount}
use Rattle.front_end.specs.Demands.{Handled, Resets, RowsPromised, RowsTold}
use Rattle.front_end.specs.Rows.{RowsPlain, RowsAnswerPlain}
use Rattle.front_end.specs.Plain.{StepPlain, ResetPlain}
use Rattle.front_end_bytes.specs.Bytes.{Lent, LentOut, LentReset}
use Rattle.front_end_bytes.specs.Promises.{HandledBytes, ResetsBytes}
use Rattle.front_end_bytes.specs.Plain.{StepBytesPlain, ResetBytesPlain}
use Rattle.compressor.specs.Compressing.{CompressedNumbers, CompressedBytes}
use Rattle.compressor.specs.Plain.{CompressOut, CompressPlainNumbers, CompressPlainBytes}
use Rattle.upload.specs.Planning.{Planned, PlannedBytes, Measured, MeasuredBytes}
use Rattle.upload.specs.Plain.{PlanLists, PlanOut, PlanPlain, PlanBytesPlain, MeasuredPlain, MeasuredBytesPlain}
use Rattle.splitter.specs.Splitting.{SplitNumbers, SplitBytes}
use Rattle.splitter.specs.Plain.{SplitOut, SplitPlainNumbers, SplitPlainBytes}
use Rattle.vermolgas.specs.Packed.{PackedRead, PackedMake, PackedReplyRead, PackedHandled, PackedRows, PackedCompress, PackedSplit, PackedPlan}
use Rattle.vermolgas.specs.Plain.{ReadC, MakeC, ReplyC, StepC, ResetC, RowsC, CompressC, SplitC, PlanC}

-- The contract of `announced` names its plain promise itself, and needs no line.
pub record Promised : Type 0 where
  -- On numbers, and of entries that are lent no table.
  pub read : (p : List ℕ) (a : Answer) → PacketRead p a → ReadPlain p a
  pub make : (op options : ℕ) (d buffer : List ℕ) (m : Made) → PacketMade op options d buffer m → MakePlain op options d buffer m
  pub reply : (r : List ℕ) (sum : Bool) (a : ReplyAnswer) → ReplyRead r sum a → ReplyPlain r sum a
  pub rising : (lists : List ℕ) (n : ℕ) → RisingTold lists n → RisingPlain lists n
  pub packet : (p : List ℕ) (s : State) (reply : List ℕ) (o : Out) → Handled p s reply o → StepPlain p s reply o
  pub reset : (s : State) (o : ResetOut) → Resets s o → ResetPlain s o
  pub rows : (block : List ℕ) (status count lowest : ℕ) → RowsPromised block status count lowest → RowsPlain block status count lowest
  pub rows-answer : (block : List ℕ) (r : Result RowCount Refusal) → RowsTold block r → RowsAnswerPlain block r
  pub compress : (gains room : List ℕ) (o : CompressOut) → CompressedNumbers gains room o → CompressPlainNumbers gains room o
  pub split : (colour start : ℕ) (pairs batch : List ℕ) (o : SplitOut) → SplitNumbers colour start pairs batch o
      → SplitPlainNumbers colour start pairs batch o
  pub plan : (n : ℕ) (held wanted : List ℕ) (before : PlanLists) (o : PlanOut) → Planned n held wanted before o → PlanPlain n held wanted before o
  pub measure : (n : ℕ) (held wanted : List ℕ) (numbers many size : ℕ) (room choices : List ℕ)
      → Measured n held wanted numbers many size room choices → MeasuredPlain n held wanted numbers many size room choices
  -- On bytes.
  pub packet-bytes : (p : List ℕ) (l : Lent) (reply : List ℕ) (o : LentOut) → HandledBytes p l reply o → StepBytesPlain p l reply o
  pub reset-bytes : (l : Lent) (o : LentReset) → ResetsBytes l o → ResetBytesPlain l o
  pub compress-bytes : (gains room : List ℕ) (o : CompressOut) → CompressedBytes gains room o → CompressPlainBytes gains room o
  pub split-bytes : (colour start : ℕ) (pairs batch : List ℕ) (o : SplitOut) → SplitBytes colour start pairs batch o
      → SplitPlainBytes colour start pairs batch o
  pub plan-bytes : (n : ℕ) (held wanted : List ℕ) (before : PlanLists) (o : PlanOut) → PlannedBytes n held wanted before o
      → PlanBytesPlain n held wanted before o
  pub measure-bytes : (n : ℕ) (held wanted room₀ choices₀ : List ℕ) (size : ℕ) (room choices : List ℕ)
      → MeasuredBytes n held wanted room₀ choices₀ size room choices → MeasuredBytesPlain n held wanted room₀ choices₀ size room choices
  -- For C.
  pub read-c : (p : List ℕ) (n : ℕ) → PackedRead p n → ReadC p n
  pub make-c : (op options : ℕ) (d buffer : List ℕ) (n : ℕ) (left : List ℕ) → PackedMake op options d buffer n left
      → MakeC op options d buffer n left
  pub reply-c : (r : List ℕ) (sum : Bool) (n : ℕ) → PackedReplyRead r sum n → ReplyC r sum n
  pub packet-c : (p : List ℕ) (l : Lent) (reply : List ℕ) (n : ℕ) (left : Lent) (after : List ℕ) → PackedHandled p l reply n left after
      → StepC p l reply n left after
  pub reset-c : (l : Lent) (n : ℕ) (left : Lent) → ResetsBytes l (record { status = n; lent = left }) → ResetC l n left
  pub rows-c : (block : List ℕ) (n : ℕ) → PackedRows block n → RowsC block n
  pub compress-c : (gains room : List ℕ) (n : ℕ) (left : List ℕ) → PackedCompress gains room n left → CompressC gains room n left
  pub split-c : (colour start : ℕ) (pairs batch : List ℕ) (n : ℕ) (left : List ℕ) → PackedSplit colour start pairs batch n left
      → SplitC colour start pairs batch n left
  pub plan-c : (n : ℕ) (held wanted : List ℕ) (before : PlanLists) (a : ℕ) (left : PlanLists) → PackedPlan n held wanted before a left
      → PlanC n held wanted before a left
