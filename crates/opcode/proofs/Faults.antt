-- Rule 4.6: the place that a refusal names is that of the first fault. Two laws carry it, for reads and writes alike: a field is within its
-- range if the place found lies behind it or not before the data's end; and at a place before the end stands a field that is not.
pub mod Fields
pub mod Varying
pub mod Commands
use Prim.Native.Nat.{ℕ, suc, ◌≤◌, ◌<◌, min}
use mathlib.Core.Path.{◌≡◌, sym, ◌∙◌}
use mathlib.Core.Logic.{◌⊎◌, inl, inr, ⊎_elim}
use mathlib.Core.Bool.{Bool, false}
use mathlib.Core.List.{List, [], ◌++◌}
use native.Mathlib.Decide.{dec_lt, ℕ_discrete}
use native.Mathlib.Omega.{arith}
use lib.ListN.{length, get_or}
use borrow.Author.Tests.{ltb-true, ltb-false, ne_eqb}
use Rattle.wire.specs.First.{first}
use Rattle.opcode.specs.Options.{is_read}
use Rattle.opcode.specs.Commands.{command_of}
use Rattle.opcode.specs.Judgement.{unknown, size_wrong, value_fault, value_wrong, judgement, fault_place}
use Rattle.opcode.specs.Allowed.{Allowed}
use Rattle.opcode.specs.Faults.{FieldOf, FirstFault}
use Rattle.wire.proofs.Tests.{Among, Above, TestsTold, past-less, first-told, told}
use Rattle.opcode.proofs.Accepts.{accepts}
use Rattle.opcode.proofs.Accepts.Commands.{◌&◌, asks_span, asks-sized}
use Fields.{reached, stopped, FaultAt}
use Commands.{read-before, read-wrong, write-before, write-at}

-- A number is passed where a later one is given, or none.
abbrev pub Past : ℕ → ℕ → Type 0
Past n number = (number ≡ 0) ⊎ (n < number)

-- Rule 4.6, of a refusal's number, 0 for none, and its place: 10 has the place of the first fault, and there is no other such place; any other number
-- has none. Where 10 is passed, so that nothing or a later number is given, every field is within its range; so it is of all data that is allowed.
pub record Located (op o : ℕ) (d : List ℕ) (number place : ℕ) : Type 0 where
  pub first : number ≡ 10 → FirstFault op o d place
  pub only : number ≡ 10 → {k : ℕ} → FirstFault op o d k → k ≡ place
  pub none : (number ≡ 10 → ⊥) → place ≡ 0
  pub within : (number ≡ 0) ⊎ (10 < number) → {j v low high : ℕ} → FieldOf op o d j v low high → (low ≤ v) × (v ≤ high)
  pub allowed : Allowed op o d → {j v low high : ℕ} → FieldOf op o d j v low high → (low ≤ v) × (v ≤ high)

-- The data of a read is all fields.
read-long : (op o : ℕ) (d : List ℕ) → is_read o ≡ 1 → size_wrong op o d ≡ false → length d ≡ (command_of op).read
unfolding size_wrong
read-long op o d r size = let s = rw r at size in search told

module _ {op o : ℕ} {d : List ℕ} (b : (k : ℕ) → get_or d k 0 < 256) (size : size_wrong op o d ≡ false) where
  right-before : {j v low high : ℕ} → min (suc j) (length d) ≤ value_fault op o d → FieldOf op o d j v low high → (low ≤ v) × (v ≤ high)
  unfolding size_wrong value_fault
  right-before {j} m (FieldOf.asks r f) =
      let behind = rw r at m in
      read-before f (reached (command_of op).asks (asks-sized op) d 0 j (omega (arith, asks_span op, read-long op o d r size)))
  right-before m (FieldOf.sets r f) = write-before b (rw r at size) (rw r at m) f

  wrong-at : unknown op ≡ false → value_fault op o d < length d → FaultAt op o d (value_fault op o d)
  unfolding size_wrong value_fault
  wrong-at known h =
      elim (ℕ_discrete (is_read o) 1) [
        | yes r ↦
            let inside = rw r at h in
            rw r
            (stopped (FaultAt op o d) (command_of op).asks d 0 (read-wrong o d b r op known)
            (omega (arith, asks_span op, read-long op o d r size)))
        | no n ↦ let r : is_read o ≡ 0 = omega arith in rw r (write-at o d b r op known (rw r at size) (rw r at h))
      ]

  found : unknown op ≡ false → value_fault op o d < length d → FirstFault op o d (value_fault op o d)
  found known h =
      let w = wrong-at known h in
      record {
        value = w.value;
        least = w.least;
        most = w.most;
        field = w.field;
        out = w.out;
        inside = h;
        before = λ l f. right-before (omega arith) f;
      }

-- There is one first fault: of two, the lower one's field would be within its range by the other.
not_lower : {op o : ℕ} {d : List ℕ} {j k : ℕ} → FirstFault op o d j → FirstFault op o d k → j < k → ⊥
not_lower p q h = let right = q.before h p.field in ⊎_elim (λ l. omega arith) (λ l. omega arith) p.out

pub only_one : {op o : ℕ} {d : List ℕ} {j k : ℕ} → FirstFault op o d j → FirstFault op o d k → j ≡ k
only_one {j = j} {k = k} p q =
    elim (dec_lt j k) [
      | yes h ↦ absurd (not_lower p q h)
      | no h ↦ elim (dec_lt k j) [ yes l ↦ absurd (not_lower q p l) | no l ↦ omega arith ]
    ]

-- The tests of a command, with those of refusals 1 to 6 before them and of 12 behind them.
abbrev pub Apart : List (ℕ × Bool) → List (ℕ × Bool) → Type 0
Apart ts us = Among 6 ts × Above 11 us

-- What refusal 10 tells of them; and what is told where 10 is passed.
pub record Tenth (op o : ℕ) (d : List ℕ) : Type 0 where
  pub known : unknown op ≡ false
  pub sized : size_wrong op o d ≡ false
  pub inside : value_fault op o d < length d

record PastTenth (op o : ℕ) (d : List ℕ) : Type 0 where
  sized : size_wrong op o d ≡ false
  right : value_wrong op o d ≡ false

past-tenth : (op o : ℕ) (d : List ℕ) {n : ℕ} → TestsTold n (judgement op o d) → Past 10 n → PastTenth op o d
unfolding judgement
past-tenth op o d rows p = record { sized = rows.1.1.0.passed (past-less (omega arith) p); right = rows.1.1.1.0.passed p }

-- What the number given tells of each of them.
pub judged : (op o : ℕ) (d : List ℕ) (ts us : List (ℕ × Bool)) → Apart ts us → TestsTold (first (ts ++ (judgement op o d ++ us))) (judgement op o d)
unfolding judgement
judged op o d ts us apart =
    first-told 6 ts (judgement op o d) us apart.0 (omega arith & omega arith & omega arith & omega arith & omega arith & apart.1)

allowed-past : (op o : ℕ) (d : List ℕ) → ((k : ℕ) → get_or d k 0 < 256) → Allowed op o d → PastTenth op o d
unfolding judgement
allowed-past op o d b a = past-tenth op o d (judged op o d [] [] (tt, tt)) (inl ((accepts op o d b).1 a))

module _ (op o : ℕ) (d : List ℕ) (ts us : List (ℕ × Bool)) (apart : Apart ts us) where
  pub tenth : first (ts ++ (judgement op o d ++ us)) ≡ 10 → Tenth op o d
  unfolding judgement
  tenth e =
      let rows = judged op o d ts us apart in
      record {
        known = rows.0.passed (inr (omega arith));
        sized = rows.1.1.0.passed (inr (omega arith));
        inside = ltb-true (value_fault op o d) (length d) (rows.1.1.1.0.given e);
      }

  -- One law for judging alone, making, reading and a step.
  module _ (b : (k : ℕ) → get_or d k 0 < 256) where
    refused : first (ts ++ (judgement op o d ++ us)) ≡ 10 → FirstFault op o d (value_fault op o d)
    refused e = let t = tenth e in found b t.sized t.known t.inside

    passed : PastTenth op o d → {j v low high : ℕ} → FieldOf op o d j v low high → (low ≤ v) × (v ≤ high)
    passed t f = right-before b t.sized (omega (arith, ltb-false (value_fault op o d) (length d) t.right)) f

    pub located : {number place : ℕ} → number ≡ first (ts ++ (judgement op o d ++ us)) → place ≡ fault_place number op o d → Located op o d number place
    located {number} {place} n p =
        record {
          first = at-ten;
          only = λ e f. only_one f (at-ten e);
          none = λ other. p ∙ rw (ne_eqb number 10 other);
          within = λ e f. passed (past-tenth op o d (rw n (judged op o d ts us apart)) e) f;
          allowed = λ a f. passed (allowed-past op o d b a) f;
        }
      where
        at-ten : number ≡ 10 → FirstFault op o d place
        at-ten e = rw (rw e at p) (refused (sym n ∙ e))
