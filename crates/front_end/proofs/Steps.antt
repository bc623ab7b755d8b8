-- One packet on a state, way by way: stopped by refusal 1, refused by another number, a read, a write. Both families of entries cite these.
use Prim.Native.Nat.{ℕ}
use mathlib.Core.Path.{◌≡◌, refl, sym, ap, ◌∙◌}
use mathlib.Core.Bool.{Bool, true, false, and-false}
use mathlib.Core.List.{List, [], ◌∷◌}
use native.Mathlib.Omega.{arith}
use borrow.Author.Tests.{eqb-true, ne_eqb, lt-ltb}
use lib.ListN.{length}
use lib.Dec.{eqb}
use Rattle.wire.specs.First.{first}
use Rattle.wire.specs.Buffers.{over}
use Rattle.packet.specs.Frame.{header_of, opcode_of, data_of}
use Rattle.packet.specs.Reading.{fault_of, answered}
use Rattle.front_end.specs.State.{State, stopped}
use Rattle.front_end.specs.Mark.{written_marked}
use Rattle.front_end.specs.Step.{reads, read_and_placed, decision, number_of, answers, reply_to, status_reply, read_reply, out_of, step}

-- The number that a decision gives is the first of its refusals.
pub decision-number : (p block : List ℕ) → (decision p block).number ≡ first (read_and_placed p block)
unfolding decision
decision-number p block = go (first (read_and_placed p block)) (eqb (first (read_and_placed p block)) 0) refl
  where
    go : (n : ℕ) (b : Bool) → eqb n 0 ≡ b → (answered n p).number ≡ n
    go n true e = rw e (sym (eqb-true n 0 e))
    go n false e = rw e

-- A packet that reads has a first byte, so it is answered.
read-answers : (p : List ℕ) → reads p ≡ true → answers 0 p ≡ true
read-answers [] e = cc
read-answers (h ∷ r) e = rw (e, lt-ltb 0 (length (h ∷ r)) (omega arith))

module _ (p : List ℕ) (s : State) (reply : List ℕ) where
  step_by : (n : ℕ) → number_of p s reply ≡ n → step p s reply ≡ out_of n p s reply
  unfolding step
  step_by n e = ap (λ (n : ℕ). out_of n p s reply) e

  pub step-stopped : stopped s reply ≡ true → step p s reply ≡ record { status = 1; fault-place = 0; size = 0; state = s; reply = reply }
  unfolding number_of reply_to over
  step-stopped e = step_by 1 (rw e) ∙ rw and-false

  module _ (runs : stopped s reply ≡ false) where
    number : (n : ℕ) → (decision p s.block).number ≡ n → number_of p s reply ≡ n
    unfolding number_of
    number n e = rw runs (sym (decision-number p s.block) ∙ e)

    pub step-refused : (n : ℕ) → (n ≡ 0 → ⊥) → (decision p s.block).number ≡ n
        → step p s reply
        ≡ record {
          status = n;
          fault-place = fault_of n p;
          size = length (status_reply n (fault_of n p) p);
          state = s;
          reply = over (status_reply n (fault_of n p) p) reply;
        }
    unfolding reply_to status_reply
    step-refused n h e = step_by n (number n e) ∙ rw (ne_eqb n 0 h)

    pub step-read : (decision p s.block).number ≡ 0 → reads p ≡ true
        → step p s reply
        ≡ record {
          status = 0;
          fault-place = 0;
          size = length (read_reply (opcode_of p) (header_of p) (data_of p) s);
          state = s;
          reply = over (read_reply (opcode_of p) (header_of p) (data_of p) s) reply;
        }
    unfolding reply_to
    step-read e r = step_by 0 (number 0 e) ∙ rw (read-answers p r, r)

    pub step-written : (decision p s.block).number ≡ 0 → reads p ≡ false
        → step p s reply
        ≡ record {
          status = 0;
          fault-place = 0;
          size = length (status_reply 0 0 p);
          state = written_marked (opcode_of p) (data_of p) s;
          reply = over (status_reply 0 0 p) reply;
        }
    unfolding reply_to status_reply
    step-written e r = step_by 0 (number 0 e) ∙ rw r
