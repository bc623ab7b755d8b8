-- The plain promises of the C entries hold of one outcome at most: the parts of the answer are
-- determined by the entry beneath, and make one number.
use Prim.Native.Nat.{ℕ}
use mathlib.Core.Path.{◌≡◌, sym, ap, ◌∙◌}
use mathlib.Core.Bool.{Bool}
use mathlib.Core.List.{List}
use Rattle.wire.specs.Plain.{Bytes}
use Rattle.packet.specs.Making.{Made}
use Rattle.packet.proofs.Determined.{read-determined, make-determined}
use Rattle.reply.proofs.Determined.{«determined» as reply-determined}
use Rattle.front_end.proofs.Determined.{rows-determined}
use Rattle.front_end_bytes.specs.Bytes.{Lent, LentOut, LentReset}
use Rattle.front_end_bytes.specs.Plain.{AllBytes}
use Rattle.front_end_bytes.proofs.Determined.{step-determined-bytes, reset-determined-bytes}
use Rattle.compressor.specs.Plain.{CompressOut}
use Rattle.compressor.proofs.Determined.{«determined-bytes» as compress-determined}
use Rattle.splitter.specs.Plain.{SplitOut}
use Rattle.splitter.proofs.Determined.{«determined-bytes» as split-determined}
use Rattle.upload.specs.Plain.{PlanLists, PlanOut}
use Rattle.upload.proofs.Determined.{plan-determined-bytes}
use Rattle.vermolgas.specs.Plain.{ReadC, MakeC, ReplyC, StepC, ResetC, RowsC, CompressC, SplitC, PlanC}
use Rattle.vermolgas.specs.Packed.{packed_reading, packed_made, packed_reply, packed_out, packed_compress, packed_split, packed_plan}

pub read-c : (p : List ℕ) (m n : ℕ) → ReadC p m → ReadC p n → m ≡ n
read-c p m n f g = f.bits ∙ ap packed_reading (read-determined p f.a g.a f.plain g.plain) ∙ sym g.bits

pub make-c : (op options : ℕ) (d buffer : List ℕ) (m n : ℕ) (left left' : List ℕ) → MakeC op options d buffer m left → MakeC op options d buffer n left'
    → (m ≡ n) × (left ≡ left')
make-c op options d buffer m n left left' f g =
    let same = make-determined op options d buffer _ _ f.plain g.plain in
    (f.bits ∙ ap packed_made same ∙ sym g.bits, ap (λ (m : Made). m.buffer) same)

pub reply-c : (r : List ℕ) (sum : Bool) (m n : ℕ) → ReplyC r sum m → ReplyC r sum n → m ≡ n
reply-c r sum m n f g = f.bits ∙ ap packed_reply (reply-determined f.plain g.plain) ∙ sym g.bits

pub step-c : (p : List ℕ) → Bytes p → (l : Lent) (reply : List ℕ) (m n : ℕ) (left left' : Lent) (after after' : List ℕ) → AllBytes left → AllBytes left'
    → StepC p l reply m left after → StepC p l reply n left' after' → (m ≡ n) × (left ≡ left') × (after ≡ after')
step-c p bytes l reply m n left left' after after' small small' f g =
    let same = step-determined-bytes p bytes l reply _ _ small small' f.plain g.plain in
    (f.bits ∙ ap packed_out same ∙ sym g.bits, ap (λ (o : LentOut). o.lent) same, ap (λ (o : LentOut). o.reply) same)

pub reset-c : (l : Lent) (m n : ℕ) (left left' : Lent) → AllBytes left → AllBytes left' → ResetC l m left → ResetC l n left' → (m ≡ n) × (left ≡ left')
reset-c l m n left left' small small' f g =
    let same = reset-determined-bytes l _ _ small small' f g in
    (ap (λ (o : LentReset). o.status) same, ap (λ (o : LentReset). o.lent) same)

pub rows-c : (block : List ℕ) (m n : ℕ) → RowsC block m → RowsC block n → m ≡ n
rows-c block m n f g =
    let same = rows-determined block f.plain g.plain in
    let status = same.0 in
    let count = same.1 in
    let lowest = same.2 in
    f.bits ∙ rw (status, count, lowest) (sym g.bits)

pub compress-c : (gains room : List ℕ) (m n : ℕ) (left left' : List ℕ) → Bytes left → Bytes left' → CompressC gains room m left
    → CompressC gains room n left' → (m ≡ n) × (left ≡ left')
compress-c gains room m n left left' small small' f g =
    let same = compress-determined small small' f.plain g.plain in
    (f.bits ∙ ap packed_compress same ∙ sym g.bits, ap (λ (o : CompressOut). o.room) same)

pub split-c : (colour start : ℕ) (pairs batch : List ℕ) (m n : ℕ) (left left' : List ℕ) → SplitC colour start pairs batch m left
    → SplitC colour start pairs batch n left' → (m ≡ n) × (left ≡ left')
split-c colour start pairs batch m n left left' f g =
    let same = split-determined f.plain g.plain in
    (f.bits ∙ ap packed_split same ∙ sym g.bits, ap (λ (o : SplitOut). o.batch) same)

pub plan-c : (n : ℕ) (held wanted : List ℕ) (before : PlanLists) (a b : ℕ) (left left' : PlanLists) → Bytes left.plan → Bytes left.room
    → Bytes left'.plan → Bytes left'.room → PlanC n held wanted before a left → PlanC n held wanted before b left' → (a ≡ b) × (left ≡ left')
plan-c n held wanted before a b left left' plan room plan' room' f g =
    let same = plan-determined-bytes n held wanted before _ _ plan room plan' room' f.plain g.plain in
    (f.bits ∙ ap packed_plan same ∙ sym g.bits, ap (λ (o : PlanOut). o.left) same)
