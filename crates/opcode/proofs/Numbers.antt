-- Which of the refusals 7 to 11 a command gets, from the number that its tests give: each test against what the rules say.
use Prim.Native.Nat.{ℕ, ◌+◌, ◌-◌, ◌*◌, ◌/◌, ◌%◌, ◌≤◌, ◌<◌}
use mathlib.Core.Path.{◌≡◌, refl, sym, ◌∙◌}
use mathlib.Core.Logic.{◌⊎◌, inl, inr, ⊎_elim}
use mathlib.Core.Bool.{Bool, true, false, not, true≢false}
use mathlib.Core.List.{List, ◌++◌}
use native.Mathlib.Decide.{dec_lt, ℕ_discrete}
use native.Mathlib.Omega.{arith}
use lib.ListN.{length}
use lib.Dec.{eqb}
use borrow.Author.Tests.{lt-ltb, le-ltb, eq-eqb, ne_eqb}
use Rattle.wire.specs.First.{first}
use Rattle.wire.specs.Numbers.{byte_at, word_at}
use Rattle.opcode.specs.Options.{is_read}
use Rattle.opcode.specs.Fields.{fault}
use Rattle.opcode.specs.Commands.{command_of, fixed, variable, not_carried}
use Rattle.opcode.specs.Judgement.{unknown, lacks_length, size_wrong, named_only, judgement, points_size_wrong, gains_size_wrong, control_size_wrong, smooth_size_wrong}
use Rattle.opcode.specs.Allowed.{read-11, read-12, read-13, read-1A, read-1B, read-1C, read-1D, read-35, read-36, read-38, read-39, read-6C, NeedsLength, write-2B, write-34, write-35, write-38}
use Rattle.opcode.specs.Numbers.{OneByte, write-11, write-12, write-1A, write-1B, write-1C, write-1D, write-36, write-39, write-6C, WriteSize, ReadSize, SizeRight, Carried, LacksLength, Merges}
use Rattle.wire.proofs.Tests.{told, TestsTold, past-less}
use Rattle.opcode.proofs.Accepts.Fields.{All, all-fault, fault-all}
use Rattle.opcode.proofs.Accepts.Commands.{◌&◌, of-each, of-carried}
use Rattle.opcode.proofs.Accepts.Passes.{write_size_wrong}
use Rattle.opcode.proofs.Accepts.Reads.{nothing_right}
use Rattle.opcode.proofs.Accepts.Writes.{needs-variable}
use Rattle.opcode.proofs.Accepts.Varying.{points-passes, words_long, gains-sized}
use Rattle.opcode.proofs.Faults.{Past, Apart, judged}
use Rattle.opcode.proofs.Faults.Varying.{smooth-long, gains-long, even, some, shape-long, lists-long}

-- Rule 4.1, 7 to 11, of the number given, 0 for none: what each says, and what is known where it was passed. 10 is `Located` (Faults).
pub record CommandNumber (op o : ℕ) (d : List ℕ) (number : ℕ) : Type 0 where
  pub seven : number ≡ 7 → Carried op → ⊥
  pub past-seven : Past 7 number → Carried op
  pub eight : number ≡ 8 → LacksLength op o
  pub past-eight : Past 8 number → LacksLength op o → ⊥
  pub nine : number ≡ 9 → SizeRight op o d → ⊥
  pub past-nine : Past 9 number → SizeRight op o d
  pub eleven : number ≡ 11 → Merges op o d
  pub past-eleven : Past 11 number → Merges op o d → ⊥

-- ---- 7: the eighteen, in the order of `commands`.

known_carried : (op : ℕ) → unknown op ≡ false → Carried op
known_carried =
    of-carried Carried
    (Carried.plain read-11 & Carried.plain read-12 & Carried.plain read-13 & Carried.plain read-1A & Carried.plain read-1B & Carried.plain read-1C
    & Carried.plain read-1D & Carried.gains & Carried.points & Carried.plain read-35 & Carried.plain read-36 & Carried.plain read-38
    & Carried.plain read-39 & Carried.pin & Carried.level & Carried.pwm & Carried.plain read-6C & Carried.uart & tt)

carried-known : {op : ℕ} → Carried op → unknown op ≡ false
unfolding command_of
carried-known {op} (Carried.plain s) = ne_eqb (command_of op).kind not_carried (omega (arith, (nothing_right s).0))
carried-known Carried.gains = refl
carried-known Carried.points = refl
carried-known Carried.pin = refl
carried-known Carried.level = refl
carried-known Carried.pwm = refl
carried-known Carried.uart = refl

-- ---- 8: the four that vary are those that need a length field.

fixed-needs : {op : ℕ} → fixed ≡ variable → NeedsLength op
fixed-needs e = absurd (omega arith)

variable-needs : (op : ℕ) → (command_of op).kind ≡ variable → NeedsLength op
variable-needs =
    of-each (λ op c. c.kind ≡ variable → NeedsLength op) (λ op e. absurd (omega arith))
    (fixed-needs & fixed-needs & fixed-needs & fixed-needs & fixed-needs & fixed-needs & fixed-needs & (λ e. write-2B) & (λ e. write-34) & (λ e. write-35)
    & fixed-needs & (λ e. write-38) & fixed-needs & fixed-needs & fixed-needs & fixed-needs & fixed-needs & fixed-needs & tt)

test-lacks : (op o : ℕ) → lacks_length op o ≡ true → LacksLength op o
test-lacks op o h = record { write = search told; needs = variable-needs op (search told); lacks = search told }

lacks-test : {op o : ℕ} → LacksLength op o → lacks_length op o ≡ true
lacks-test l = rw (l.write, needs-variable l.needs, l.lacks)

-- ---- 11.

test-merges : (op o : ℕ) (d : List ℕ) → named_only op o d ≡ true → Merges op o d
test-merges op o d h = record { write = search told; update = search told; mode = search told }

merges-test : {op o : ℕ} {d : List ℕ} → Merges op o d → named_only op o d ≡ true
merges-test m = rw (m.write, m.update, m.mode)

-- ---- 9. A read's size is that of its row.

read-sized : (d : List ℕ) (op : ℕ) → unknown op ≡ false → length d ≡ (command_of op).read → ReadSize d op
unfolding command_of
read-sized d =
    of-carried (λ op. length d ≡ (command_of op).read → ReadSize d op)
    (ReadSize.nothing read-11 & ReadSize.nothing read-12 & ReadSize.nothing read-13 & ReadSize.nothing read-1A & ReadSize.nothing read-1B
    & ReadSize.nothing read-1C & ReadSize.nothing read-1D & ReadSize.gains & ReadSize.points & ReadSize.nothing read-35 & ReadSize.nothing read-36
    & ReadSize.nothing read-38 & ReadSize.nothing read-39 & ReadSize.pin & ReadSize.level & ReadSize.pwm & ReadSize.nothing read-6C & ReadSize.uart & tt)

sized-read : {op : ℕ} {d : List ℕ} → ReadSize d op → length d ≡ (command_of op).read
unfolding command_of
sized-read (ReadSize.nothing s e) = omega (arith, e, (nothing_right s).1.sized)
sized-read (ReadSize.pin e) = e
sized-read (ReadSize.level e) = e
sized-read (ReadSize.pwm e) = e
sized-read (ReadSize.uart e) = e
sized-read (ReadSize.points e) = e
sized-read (ReadSize.gains e) = e

-- Writes that vary: 34h, 2Bh and 35h, from the test to the size, and back where it takes more than its equations.
module _ (d : List ℕ) where
  points-right : points_size_wrong d ≡ false → WriteSize d 0x34
  unfolding points_size_wrong
  points-right s =
      let long : 6 ≤ length d = search told in
      let whole : length d % 4 ≡ 2 = search told in
      WriteSize.points ((length d - 2) / 4) (omega arith) (omega arith)

  gains-right : gains_size_wrong d ≡ false → WriteSize d 0x2B
  gains-right s =
      elim (ℕ_discrete (byte_at d 0) 1) [
        | yes one ↦
            let counted = words_long d (gains-long d s).1 in
            WriteSize.pairs (word_at d 2 / 2) one (omega (arith, even d s (eq-eqb (byte_at d 0) 1 one))) (gains-long d s).1
        | no n ↦ WriteSize.gains n (gains-long d s).1
      ]

  control-right : control_size_wrong d ≡ false → WriteSize d 0x35
  control-right s =
      elim (ℕ_discrete (byte_at d 0) 0) [
        | yes z ↦ WriteSize.shape z (shape-long d s z)
        | no z ↦
            elim (ℕ_discrete (byte_at d 0) 1)
            [ yes one ↦ WriteSize.lists one (lists-long d s one) | no n ↦ WriteSize.mode (omega arith) (omega (arith, some d s)) ]
      ]

  mode-sized : 1 < byte_at d 0 → 1 ≤ length d → control_size_wrong d ≡ false
  unfolding control_size_wrong
  mode-sized h l = rw (ne_eqb (length d) 0 (omega arith), ne_eqb (byte_at d 0) 0 (omega arith), ne_eqb (byte_at d 0) 1 (omega arith))

  -- 38h: a size can be wrong only where both counts are in range, so that no fault stands in its head.
  smooth-right : smooth_size_wrong d ≡ false → WriteSize d 0x38
  unfolding command_of smooth_size_wrong
  smooth-right s =
      let long = smooth-long d s in
      ⊎_elim (WriteSize.columns long) (λ c. ⊎_elim (WriteSize.rows long) (whole c) (counted (byte_at d 1))) (counted (byte_at d 0))
    where
      counted : (v : ℕ) → ((v < 3) ⊎ (5 < v)) ⊎ ((3 ≤ v) × (v ≤ 5))
      counted v = elim (dec_lt v 3) [ yes h ↦ inl (inl h) | no h ↦ elim (dec_lt 5 v) [ yes l ↦ inl (inr l) | no l ↦ inr (omega arith) ] ]

      whole : (3 ≤ byte_at d 0) × (byte_at d 0 ≤ 5) → (3 ≤ byte_at d 1) × (byte_at d 1 ≤ 5) → WriteSize d 0x38
      whole c r =
          let behind : fault (command_of 0x38).sets d 0 ≡ 2 = all-fault (command_of 0x38).sets d 0 (omega arith) in
          let size = rw behind at s in
          WriteSize.smooth (search told)

  smooth-sized : 2 ≤ length d → (All (command_of 0x38).sets d 0 → length d ≡ 2 + 4 * (byte_at d 0 * byte_at d 1)) → smooth_size_wrong d ≡ false
  unfolding command_of smooth_size_wrong
  smooth-sized l f =
      let head = fault (command_of 0x38).sets d 0 in
      elim (dec_lt head 2) [
        | yes h ↦ rw (le-ltb (length d) 2 l, lt-ltb head 2 h)
        | no h ↦
            let e = f (fault-all (command_of 0x38).sets (omega arith) d 0 (omega arith)) in
            rw (le-ltb (length d) 2 l, le-ltb head 2 (omega arith), eq-eqb (length d) (2 + 4 * (byte_at d 0 * byte_at d 1)) e)
      ]

  -- All writes: those that do not vary have the size of their row.
  write-sized : (op : ℕ) → unknown op ≡ false → write_size_wrong op d ≡ false → WriteSize d op
  unfolding command_of
  write-sized =
      of-carried (λ op. write_size_wrong op d ≡ false → WriteSize d op)
      (one write-11 & one write-12 & (λ s. WriteSize.look (search told)) & one write-1A & one write-1B & one write-1C & one write-1D & gains-right
      & points-right & control-right & one write-36 & smooth-right & one write-39 & (λ s. WriteSize.pin (search told))
      & (λ s. WriteSize.level (search told)) & (λ s. WriteSize.pwm (search told)) & one write-6C & (λ s. WriteSize.uart (search told)) & tt)
    where
      one : {op : ℕ} → OneByte op → not (eqb (length d) 1) ≡ false → WriteSize d op
      one b s = WriteSize.one b (search told)

sized-write : {op : ℕ} (d : List ℕ) → WriteSize d op → write_size_wrong op d ≡ false
unfolding command_of control_size_wrong
sized-write d (WriteSize.one write-11 e) = rw e
sized-write d (WriteSize.one write-12 e) = rw e
sized-write d (WriteSize.one write-1A e) = rw e
sized-write d (WriteSize.one write-1B e) = rw e
sized-write d (WriteSize.one write-1C e) = rw e
sized-write d (WriteSize.one write-1D e) = rw e
sized-write d (WriteSize.one write-36 e) = rw e
sized-write d (WriteSize.one write-39 e) = rw e
sized-write d (WriteSize.one write-6C e) = rw e
sized-write d (WriteSize.look e) = rw e
sized-write d (WriteSize.pin e) = rw e
sized-write d (WriteSize.level e) = rw e
sized-write d (WriteSize.pwm e) = rw e
sized-write d (WriteSize.uart e) = rw e
sized-write d (WriteSize.points n h e) = (points-passes d n h e).size
sized-write d (WriteSize.gains n e) = gains-sized d e (rw (ne_eqb (byte_at d 0) 1 n))
sized-write d (WriteSize.pairs n one c e) = gains-sized d e (rw one (ne_eqb (word_at d 2 % 2) 1 (omega arith)))
sized-write d (WriteSize.shape z e) = rw (z, e)
sized-write d (WriteSize.lists one e) = rw (one, e)
sized-write d (WriteSize.mode h l) = mode-sized d h l
sized-write d (WriteSize.smooth e) = smooth-sized d (omega arith) (λ a. e)
sized-write d (WriteSize.columns l out) = smooth-sized d l (λ a. absurd (⊎_elim (λ h. omega arith) (λ h. omega arith) out))
sized-write d (WriteSize.rows l out) = smooth-sized d l (λ a. absurd (⊎_elim (λ h. omega arith) (λ h. omega arith) out))

-- Reads and writes.
test-sized : (op o : ℕ) (d : List ℕ) → unknown op ≡ false → size_wrong op o d ≡ false → SizeRight op o d
unfolding size_wrong
test-sized op o d known s =
    elim (ℕ_discrete (is_read o) 1) [
      | yes r ↦ let size = rw r at s in SizeRight.asks r (read-sized d op known (search told))
      | no n ↦ let r : is_read o ≡ 0 = omega arith in SizeRight.sets r (write-sized d op known (rw r at s))
    ]

sized-test : {op o : ℕ} {d : List ℕ} → SizeRight op o d → size_wrong op o d ≡ false
unfolding size_wrong
sized-test {op} {o} {d} (SizeRight.asks r h) = rw (r, eq-eqb (length d) (command_of op).read (sized-read h))
sized-test {op} {o} {d} (SizeRight.sets r h) = rw r (sized-write d h)

-- ---- Each number, given and passed, through its test.

rows-number : (op o : ℕ) (d : List ℕ) {n : ℕ} → TestsTold n (judgement op o d) → CommandNumber op o d n
unfolding judgement
rows-number op o d rows =
    record {
      seven = λ e c. true≢false (sym (rows.0.given e) ∙ carried-known c);
      past-seven = λ p. known_carried op (rows.0.passed p);
      eight = λ e. test-lacks op o (rows.1.0.given e);
      past-eight = λ p l. true≢false (sym (lacks-test l) ∙ rows.1.0.passed p);
      nine = λ e s. true≢false (sym (rows.1.1.0.given e) ∙ sized-test s);
      past-nine = λ p. test-sized op o d (rows.0.passed (past-less (omega arith) p)) (rows.1.1.0.passed p);
      eleven = λ e. test-merges op o d (rows.1.1.1.1.0.given e);
      past-eleven = λ p m. true≢false (sym (merges-test m) ∙ rows.1.1.1.1.0.passed p);
    }

pub command-number : (op o : ℕ) (d : List ℕ) (ts us : List (ℕ × Bool)) → Apart ts us → {number : ℕ}
    → number ≡ first (ts ++ (judgement op o d ++ us)) → CommandNumber op o d number
command-number op o d ts us apart e = rows-number op o d (rw e (judged op o d ts us apart))
