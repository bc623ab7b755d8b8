-- A write's tests 9 to 11 apart from its options, and what they come to where the command's size is fixed.
use Prim.Native.Nat.{ℕ}
use mathlib.Core.Path.{◌≡◌}
use mathlib.Core.Bool.{Bool, false, cond, not, ◌&&◌}
use mathlib.Core.List.{List}
use native.Mathlib.Omega.{arith}
use lib.ListN.{length}
use lib.Dec.{eqb, ltb}
use Rattle.wire.specs.Numbers.{byte_at}
use Rattle.opcode.specs.Fields.{fault}
use Rattle.opcode.specs.Options.{is_read}
use Rattle.opcode.specs.Commands.{command_of, fixed, variable}
use Rattle.opcode.specs.Judgement.{judgement, unknown, lacks_length, size_wrong, variable_size_wrong, value_fault, variable_fault}
use Rattle.wire.proofs.Tests.{Silent}
use Rattle.opcode.proofs.Accepts.Fields.{Right, right-size, right-value, tests-right}
use Rattle.opcode.proofs.Accepts.Commands.{sets_span, sets-sized}

-- 11 of a write: merge mode.
abbrev pub named_write : ℕ → List ℕ → Bool
named_write op d = eqb op 0x39 && eqb (byte_at d 0) 1

-- 9 and 10 of a write.
abbrev pub write_size_wrong : ℕ → List ℕ → Bool
write_size_wrong op d = cond (eqb (command_of op).kind variable) (variable_size_wrong op d) (not (eqb (length d) (command_of op).write))

abbrev pub write_fault : ℕ → List ℕ → ℕ
write_fault op d = cond (eqb (command_of op).kind variable) (variable_fault op d) (fault (command_of op).sets d 0)

-- None of the three holds.
pub record Passes (op : ℕ) (d : List ℕ) : Type 0 where
  pub size : write_size_wrong op d ≡ false
  pub value : ltb (write_fault op d) (length d) ≡ false
  pub named_only : named_write op d ≡ false

pub passes-silent : (op o : ℕ) (d : List ℕ) → is_read o ≡ 0 → unknown op ≡ false → lacks_length op o ≡ false → Passes op d
    → Silent (judgement op o d)
unfolding size_wrong value_fault judgement
passes-silent op o d h m l p = (m, (l, (rw h p.size, (rw h p.value, (rw h p.named_only, tt)))))

pub silent-passes : (op o : ℕ) (d : List ℕ) → is_read o ≡ 0 → Silent (judgement op o d) → Passes op d
unfolding size_wrong value_fault judgement
silent-passes op o d h s =
    record { size = rw h at s.1.1.0; value = rw h at s.1.1.1.0; named_only = rw h at s.1.1.1.1.0 }

-- Data of a fixed size is all fields.
abbrev pub RightWrite : ℕ → List ℕ → Type 0
RightWrite op d = Right (command_of op).write (command_of op).sets d

pub right-passes : {op : ℕ} {d : List ℕ} → (command_of op).kind ≡ fixed → RightWrite op d → named_write op d ≡ false → Passes op d
right-passes {op} {d} m r n =
    let span = sets_span op (omega arith) in
    record { size = rw m (right-size r); value = rw m (right-value span r); named_only = n }

pub passes-right : (op : ℕ) (d : List ℕ) → (command_of op).kind ≡ fixed → Passes op d → RightWrite op d
passes-right op d m p =
    let span = sets_span op (omega arith) in
    tests-right (command_of op).write (command_of op).sets d (sets-sized op) span (rw m at p.size) (rw m at p.value)
