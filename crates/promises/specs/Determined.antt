-- For each entry: two outcomes (its answer, and every lent list at exit) that both meet its plain
-- promise are equal. So who believes the plain promises need not believe the definitions that the
-- code is proved to equal. Lists that are lent as bytes are bytes (`Bytes`, `AllBytes`, of a block
-- on numbers the four of the row mark, `MarkBytes`); nothing else is assumed.
use Rattle.std.specs.Prelude.{ℕ, ◌≡◌, Bool, List, Result}
use Rattle.wire.specs.declared.refusal.Refusal.{Refusal}
use Rattle.wire.specs.Plain.{Bytes, «Pinned» as BytesNamed}
use Rattle.gain_words.specs.Plain.{«Pinned» as PairsNamed}
use Rattle.opcode.specs.Plain.{«Pinned» as BitsNamed}
use Rattle.packet.specs.Reading.{Answer}
use Rattle.packet.specs.Making.{Made}
use Rattle.packet.specs.Plain.{ReadPlain, MakePlain, AnnouncedPlain, «Pinned» as PacketsNamed}
use Rattle.reply.specs.Answer.{ReplyAnswer}
use Rattle.reply.specs.Plain.{ReplyPlain, «Pinned» as RepliesNamed}
use Rattle.row_mark.specs.Plain.{«Pinned» as MarkNamed}
use Rattle.rising.specs.Plain.{RisingPlain}
use Rattle.front_end.specs.State.{State, ResetOut}
use Rattle.front_end.specs.Step.{Out}
use Rattle.front_end.specs.declared.mark.RowCount.{RowCount}
use Rattle.front_end.specs.Rows.{MarkBytes, RowsPlain, RowsAnswerPlain}
use Rattle.front_end.specs.Plain.{StepPlain, ResetPlain, «Pinned» as StateNamed}
use Rattle.front_end_bytes.specs.Bytes.{Lent, LentOut, LentReset}
use Rattle.front_end_bytes.specs.Plain.{AllBytes, StepBytesPlain, ResetBytesPlain, «Pinned» as LentNamed}
use Rattle.compressor.specs.Plain.{CompressOut, CompressPlainNumbers, CompressPlainBytes, «Pinned» as CompressNamed}
use Rattle.upload.specs.Plain.{PlanLists, PlanOut, PlanPlain, PlanBytesPlain, MeasuredPlain, MeasuredBytesPlain, «Pinned» as PlansNamed}
use Rattle.batch.specs.Plain.{«Pinned» as GainsNamed}
use Rattle.splitter.specs.Plain.{SplitOut, SplitPlainNumbers, SplitPlainBytes, «Pinned» as SplitNamed}
use Rattle.planning.specs.Plain.{«Pinned» as PlanNamed}
use Rattle.playback.specs.Plain.{«Pinned» as DeviceNamed}
use Rattle.vermolgas.specs.Plain.{ReadC, MakeC, ReplyC, StepC, ResetC, RowsC, CompressC, SplitC, PlanC}

-- What the names mean that plain promises and contracts cite, clause by clause and with the numbers
-- themselves.
pub record Named : Type 0 where
  pub bytes : BytesNamed
  pub bits : BitsNamed
  pub pairs : PairsNamed
  pub packets : PacketsNamed
  pub replies : RepliesNamed
  pub mark : MarkNamed
  pub state : StateNamed
  pub lent : LentNamed
  pub plans : PlansNamed
  pub gains : GainsNamed
  pub compressing : CompressNamed
  pub splitting : SplitNamed
  pub planning : PlanNamed
  pub device : DeviceNamed

-- The entries on numbers, and those that are lent no table.
pub record OnNumbers : Type 0 where
  -- Rules 2.6, 4.4, 2.4, 3.5 and 5.5.
  pub read : (p : List ℕ) (a b : Answer) → ReadPlain p a → ReadPlain p b → a ≡ b
  pub make : (op options : ℕ) (d buffer : List ℕ) (m k : Made) → MakePlain op options d buffer m → MakePlain op options d buffer k → m ≡ k
  pub announced : (p : List ℕ) (m n : ℕ) → AnnouncedPlain p m → AnnouncedPlain p n → m ≡ n
  pub reply : (r : List ℕ) (sum : Bool) (a b : ReplyAnswer) → ReplyPlain r sum a → ReplyPlain r sum b → a ≡ b
  pub rising : (lists : List ℕ) (m n : ℕ) → RisingPlain lists m → RisingPlain lists n → m ≡ n
  -- Rules 1.1 and 5.10, and 11.4.
  pub packet : (p : List ℕ) → Bytes p → (s : State) (reply : List ℕ) (o q : Out) → MarkBytes o.state.block → MarkBytes q.state.block
      → StepPlain p s reply o → StepPlain p s reply q → o ≡ q
  pub reset : (s : State) (o q : ResetOut) → ResetPlain s o → ResetPlain s q → o ≡ q
  pub rows : (block : List ℕ) (status count lowest status' count' lowest' : ℕ) → RowsPlain block status count lowest
      → RowsPlain block status' count' lowest' → (status ≡ status') × (count ≡ count') × (lowest ≡ lowest')
  pub rows-answer : (block : List ℕ) (r r' : Result RowCount Refusal) → RowsAnswerPlain block r → RowsAnswerPlain block r' → r ≡ r'
  -- Sections 10 and 6.
  pub compress : (gains room : List ℕ) (o q : CompressOut) → CompressPlainNumbers gains room o → CompressPlainNumbers gains room q → o ≡ q
  pub split : (colour start : ℕ) (pairs batch : List ℕ) (o q : SplitOut) → SplitPlainNumbers colour start pairs batch o
      → SplitPlainNumbers colour start pairs batch q → o ≡ q
  pub plan : (n : ℕ) (held wanted : List ℕ) (before : PlanLists) (o q : PlanOut) → PlanPlain n held wanted before o
      → PlanPlain n held wanted before q → o ≡ q
  pub measure : (n : ℕ) (held wanted : List ℕ) (numbers many size : ℕ) (room choices : List ℕ) (size' : ℕ) (room' choices' : List ℕ)
      → MeasuredPlain n held wanted numbers many size room choices → MeasuredPlain n held wanted numbers many size' room' choices'
      → (size ≡ size') × (room ≡ room') × (choices ≡ choices')

-- Rule 1.3: the entries on lists that are lent as bytes.
pub record OnBytes : Type 0 where
  pub packet : (p : List ℕ) → Bytes p → (l : Lent) (reply : List ℕ) (o q : LentOut) → AllBytes o.lent → AllBytes q.lent
      → StepBytesPlain p l reply o → StepBytesPlain p l reply q → o ≡ q
  pub reset : (l : Lent) (o q : LentReset) → AllBytes o.lent → AllBytes q.lent → ResetBytesPlain l o → ResetBytesPlain l q → o ≡ q
  pub compress : (gains room : List ℕ) (o q : CompressOut) → Bytes o.room → Bytes q.room → CompressPlainBytes gains room o
      → CompressPlainBytes gains room q → o ≡ q
  pub split : (colour start : ℕ) (pairs batch : List ℕ) (o q : SplitOut) → SplitPlainBytes colour start pairs batch o
      → SplitPlainBytes colour start pairs batch q → o ≡ q
  pub plan : (n : ℕ) (held wanted : List ℕ) (before : PlanLists) (o q : PlanOut) → Bytes o.left.plan → Bytes o.left.room
      → Bytes q.left.plan → Bytes q.left.room → PlanBytesPlain n held wanted before o → PlanBytesPlain n held wanted before q → o ≡ q
  -- A room of any length: it may end in a part of a number.
  pub measure : (n : ℕ) (held wanted room₀ choices₀ : List ℕ) (size : ℕ) (room choices : List ℕ) (size' : ℕ) (room' choices' : List ℕ)
      → Bytes room → Bytes room' → MeasuredBytesPlain n held wanted room₀ choices₀ size room choices
      → MeasuredBytesPlain n held wanted room₀ choices₀ size' room' choices' → (size ≡ size') × (room ≡ room') × (choices ≡ choices')

-- The entries of include/vermolgas.h: the number answered, and every list.
pub record ForC : Type 0 where
  pub read : (p : List ℕ) (m n : ℕ) → ReadC p m → ReadC p n → m ≡ n
  pub make : (op options : ℕ) (d buffer : List ℕ) (m n : ℕ) (left left' : List ℕ) → MakeC op options d buffer m left
      → MakeC op options d buffer n left' → (m ≡ n) × (left ≡ left')
  pub read-reply : (r : List ℕ) (sum : Bool) (m n : ℕ) → ReplyC r sum m → ReplyC r sum n → m ≡ n
  pub packet : (p : List ℕ) → Bytes p → (l : Lent) (reply : List ℕ) (m n : ℕ) (left left' : Lent) (after after' : List ℕ) → AllBytes left
      → AllBytes left' → StepC p l reply m left after → StepC p l reply n left' after' → (m ≡ n) × (left ≡ left') × (after ≡ after')
  pub reset : (l : Lent) (m n : ℕ) (left left' : Lent) → AllBytes left → AllBytes left' → ResetC l m left → ResetC l n left'
      → (m ≡ n) × (left ≡ left')
  pub rows : (block : List ℕ) (m n : ℕ) → RowsC block m → RowsC block n → m ≡ n
  pub compress : (gains room : List ℕ) (m n : ℕ) (left left' : List ℕ) → Bytes left → Bytes left' → CompressC gains room m left
      → CompressC gains room n left' → (m ≡ n) × (left ≡ left')
  pub split : (colour start : ℕ) (pairs batch : List ℕ) (m n : ℕ) (left left' : List ℕ) → SplitC colour start pairs batch m left
      → SplitC colour start pairs batch n left' → (m ≡ n) × (left ≡ left')
  pub plan : (n : ℕ) (held wanted : List ℕ) (before : PlanLists) (a b : ℕ) (left left' : PlanLists) → Bytes left.plan → Bytes left.room
      → Bytes left'.plan → Bytes left'.room → PlanC n held wanted before a left → PlanC n held wanted before b left'
      → (a ≡ b) × (left ≡ left')
