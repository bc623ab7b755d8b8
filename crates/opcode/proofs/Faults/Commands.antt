-- The fields of a read's data and of a write's, command by command: before the fault each is within its range; at it stands one that is not.
use Prim.Native.Nat.{ℕ, suc, ◌+◌, ◌*◌, ◌≤◌, ◌<◌, min}
use mathlib.Core.Path.{◌≡◌, refl}
use mathlib.Core.Bool.{false}
use mathlib.Core.List.{List}
use native.Mathlib.Omega.{arith}
use lib.ListN.{length, get_or}
use Rattle.opcode.specs.Options.{is_read}
use Rattle.opcode.specs.Fields.{from_to}
use Rattle.opcode.specs.Commands.{command_of, fixed}
use Rattle.opcode.specs.Judgement.{unknown}
use Rattle.opcode.specs.Faults.{ReadField, WriteField, FieldOf}
use Rattle.wire.proofs.Tests.{told}
use Rattle.gain_words.proofs.Places.{run-range, gain-range}
use Rattle.opcode.proofs.Accepts.Fields.{All, Within}
use Rattle.opcode.proofs.Accepts.Commands.{◌&◌, of-carried, sets_span, sets-sized}
use Rattle.opcode.proofs.Accepts.Passes.{write_size_wrong, write_fault}
use Rattle.opcode.proofs.Faults.Fields.{up_to, reached, IfWrong, stopped, FaultAt, wrong, wrong-but}
use Rattle.opcode.proofs.Faults.Varying.{smooth-before, smooth-at, gains-before, word-before, gains-at, mode-before, shape-before, column-before, row_before, control-at}

-- ---- Reads.

pub read-before : {d : List ℕ} {op j v low high : ℕ} → ReadField d op j v low high → All (up_to j (command_of op).asks) d 0 → (low ≤ v) × (v ≤ high)
unfolding command_of
read-before ReadField.gain-colour a = omega arith
read-before ReadField.gain-count a = omega arith
read-before ReadField.point-count a = omega arith
read-before ReadField.pin a = omega arith
read-before ReadField.level-pin a = omega arith
read-before (ReadField.pwm-port n) a = omega arith
read-before ReadField.uart-port a = omega arith

-- A start is any number.
module _ (o : ℕ) (d : List ℕ) (b : (k : ℕ) → get_or d k 0 < 256) (h : is_read o ≡ 1) where
  out : {op place v low high size : ℕ} → ReadField d op place v low high → ¬ Within (from_to size low high) v → FaultAt op o d place
  out f = wrong (FieldOf.asks h f)

  pub read-wrong : (op : ℕ) → unknown op ≡ false → IfWrong (FaultAt op o d) (command_of op).asks d 0
  unfolding command_of
  read-wrong =
      of-carried (λ op. IfWrong (FaultAt op o d) (command_of op).asks d 0)
      (tt & tt & tt & tt & tt & tt & tt
      & (out ReadField.gain-colour & (λ w. absurd (w (omega (arith, b 1, b 2)))) & out ReadField.gain-count & tt)
      & ((λ w. absurd (w (omega (arith, b 0, b 1)))) & out ReadField.point-count & tt)
      & tt & tt & tt & tt
      & (out ReadField.pin & tt)
      & (out ReadField.level-pin & tt)
      & (wrong-but (λ n. FieldOf.asks h (ReadField.pwm-port n)) (omega arith) (omega arith) & tt)
      & tt
      & (out ReadField.uart-port & tt)
      & tt)

-- ---- Writes. Data of a fixed size is all fields.

fixed-long : (op : ℕ) (d : List ℕ) → (command_of op).kind ≡ fixed → write_size_wrong op d ≡ false → length d ≡ (command_of op).write
fixed-long op d m size = let s = rw m at size in search told

fixed-before : (op : ℕ) (d : List ℕ) (j : ℕ) → write_size_wrong op d ≡ false → min (suc j) (length d) ≤ write_fault op d
    → (command_of op).kind ≡ fixed → All (up_to j (command_of op).sets) d 0
fixed-before op d j size h m =
    let behind = rw m at h in
    reached (command_of op).sets (sets-sized op) d 0 j (omega (arith, fixed-long op d m size, sets_span op (omega arith)))

module _ {d : List ℕ} (b : (k : ℕ) → get_or d k 0 < 256) where
  field-right : {op j v low high : ℕ} → WriteField d op j v low high → ((command_of op).kind ≡ fixed → All (up_to j (command_of op).sets) d 0)
      → write_size_wrong op d ≡ false → min (suc j) (length d) ≤ write_fault op d → (low ≤ v) × (v ≤ high)
  unfolding command_of
  field-right WriteField.display a s m = omega (arith, a refl)
  field-right WriteField.latency a s m = omega (arith, a refl)
  field-right (WriteField.curtain n) a s m = omega (arith, a refl)
  field-right WriteField.flip a s m = omega (arith, a refl)
  field-right WriteField.freeze a s m = omega (arith, a refl)
  field-right WriteField.lock a s m = omega (arith, a refl)
  field-right WriteField.update a s m = omega (arith, a refl)
  field-right WriteField.compression a s m = omega (arith, gains-before d s 0 m)
  field-right WriteField.gain-colour a s m = omega (arith, gains-before d s 1 m)
  field-right WriteField.gain-count a s m = omega (arith, gains-before d s 2 m)
  field-right (WriteField.gain k z h) a s m = rw z at (word-before d s (6 + 2 * k) k refl h m)
  field-right (WriteField.run k one h) a s m = rw (one, run-range k) at (word-before d s (6 + 4 * k) (2 * k) (omega arith) h m)
  field-right (WriteField.run-gain k one h) a s m = rw (one, gain-range k) at (word-before d s (8 + 4 * k) (2 * k + 1) (omega arith) h m)
  field-right WriteField.mode a s m = omega (arith, mode-before d s m)
  field-right (WriteField.columns z) a s m = omega (arith, shape-before d s 1 z m)
  field-right (WriteField.rows z) a s m = omega (arith, shape-before d s 3 z m)
  field-right (WriteField.column k one h) a s m = omega (arith, column-before d s k one h m, b (1 + 2 * (k + 1)), b (1 + 2 * (k + 1) + 1))
  field-right (WriteField.row k one l h) a s m = omega (arith, row_before d s k one l h m, b (1 + 2 * (k + 1)), b (1 + 2 * (k + 1) + 1))
  field-right WriteField.apply a s m = omega (arith, a refl)
  field-right WriteField.smooth-columns a s m = omega (arith, smooth-before d s 0 m)
  field-right WriteField.smooth-rows a s m = omega (arith, smooth-before d s 1 m)
  field-right WriteField.pin a s m = omega (arith, a refl)
  field-right WriteField.direction a s m = omega (arith, a refl)
  field-right WriteField.level a s m = omega (arith, a refl)
  field-right WriteField.drain a s m = omega (arith, a refl)
  field-right WriteField.level-pin a s m = omega (arith, a refl)
  field-right WriteField.level-alone a s m = omega (arith, a refl)
  field-right (WriteField.pwm-port n) a s m = omega (arith, a refl)
  field-right WriteField.frequency a s m = omega (arith, a refl)
  field-right WriteField.duty a s m = omega (arith, a refl)
  field-right WriteField.pwm-on a s m = omega (arith, a refl)
  field-right WriteField.uart-port a s m = omega (arith, a refl)
  field-right WriteField.uart-on a s m = omega (arith, a refl)
  field-right WriteField.baud a s m = omega (arith, a refl)
  field-right WriteField.bits a s m = omega (arith, a refl)
  field-right WriteField.stop a s m = omega (arith, a refl)
  field-right WriteField.parity a s m = omega (arith, a refl)
  field-right WriteField.flow a s m = omega (arith, a refl)
  field-right WriteField.receiving a s m = omega (arith, a refl)
  field-right WriteField.sending a s m = omega (arith, a refl)
  field-right WriteField.polarity a s m = omega (arith, a refl)
  field-right WriteField.source a s m = omega (arith, a refl)

  pub write-before : {op j v low high : ℕ} → write_size_wrong op d ≡ false → min (suc j) (length d) ≤ write_fault op d
      → WriteField d op j v low high → (low ≤ v) × (v ≤ high)
  write-before {op} {j} s m f = field-right f (fixed-before op d j s m) s m

-- Look, splash and starts are any number.
module _ (o : ℕ) (d : List ℕ) (b : (k : ℕ) → get_or d k 0 < 256) (h : is_read o ≡ 0) where
  abbrev Found : ℕ → Type 0
  Found op = write_size_wrong op d ≡ false → write_fault op d < length d → FaultAt op o d (write_fault op d)

  fixed-at : (op : ℕ) → (command_of op).kind ≡ fixed → IfWrong (FaultAt op o d) (command_of op).sets d 0 → Found op
  fixed-at op m p s k =
      let inside = rw m at k in
      rw m (stopped (FaultAt op o d) (command_of op).sets d 0 p (omega (arith, fixed-long op d m s, sets_span op (omega arith))))

  set : {op place v low high size : ℕ} → WriteField d op place v low high → ¬ Within (from_to size low high) v → FaultAt op o d place
  set f = wrong (FieldOf.sets h f)

  pub write-at : (op : ℕ) → unknown op ≡ false → Found op
  unfolding command_of
  write-at =
      of-carried Found
      (fixed-at 0x11 refl (set WriteField.display & tt)
      & fixed-at 0x12 refl (set WriteField.latency & tt)
      & fixed-at 0x13 refl ((λ w. absurd (w (omega (arith, b 0, b 1)))) & tt)
      & fixed-at 0x1A refl (wrong-but (λ n. FieldOf.sets h (WriteField.curtain n)) (omega arith) (omega arith) & tt)
      & fixed-at 0x1B refl ((λ w. absurd (w (omega (arith, b 0)))) & tt)
      & fixed-at 0x1C refl (set WriteField.flip & tt)
      & fixed-at 0x1D refl (set WriteField.freeze & tt)
      & (λ s. gains-at d s o h
      (set WriteField.compression & set WriteField.gain-colour & set WriteField.gain-count & (λ w. absurd (w (omega (arith, b 4, b 5)))) & tt))
      & (λ s k. absurd (omega arith))
      & (λ s. control-at d s o h (λ z. set WriteField.mode & set (WriteField.columns z) & set (WriteField.rows z) & tt))
      & fixed-at 0x36 refl (set WriteField.apply & tt)
      & (λ s. smooth-at d s o (set WriteField.smooth-columns & set WriteField.smooth-rows & tt))
      & fixed-at 0x39 refl (set WriteField.update & tt)
      & fixed-at 0x60 refl (set WriteField.pin & set WriteField.direction & set WriteField.level & set WriteField.drain & tt)
      & fixed-at 0x61 refl (set WriteField.level-pin & set WriteField.level-alone & tt)
      & fixed-at 0x65 refl
      (wrong-but (λ n. FieldOf.sets h (WriteField.pwm-port n)) (omega arith) (omega arith)
      & set WriteField.frequency & set WriteField.duty & set WriteField.pwm-on & tt)
      & fixed-at 0x6C refl (set WriteField.lock & tt)
      & fixed-at 0x6D refl
      (set WriteField.uart-port & set WriteField.uart-on & set WriteField.baud & set WriteField.bits & set WriteField.stop & set WriteField.parity
      & set WriteField.flow & set WriteField.receiving & set WriteField.sending & set WriteField.polarity & set WriteField.source & tt)
      & tt)
