-- What reading and making promise plainly, from their equations; and what names mean, by unfolding
-- them.
use Prim.Native.Nat.{ℕ, ◌+◌, ◌≤◌, ◌<◌}
use mathlib.Core.Path.{◌≡◌, refl, sym, ap, ◌∙◌}
use mathlib.Core.Logic.{◌⊎◌}
use mathlib.Core.Bool.{Bool, true, false, not, ◌&&◌, true≢false}
use mathlib.Core.List.{List, []}
use native.Mathlib.Omega.{arith}
use borrow.Author.Tests.{ltb-true, ltb-false, eqb-true, eqb-false, not-true, not-false, eq-eqb}
use lib.ListN.{length}
use lib.Dec.{eqb}
use Rattle.wire.specs.First.{first}
use Rattle.wire.specs.Buffers.{over}
use Rattle.wire.specs.Plain.{Least}
use Rattle.wire.proofs.Plain.{Each, first-applies}
use Rattle.wire.proofs.Tests.{TestsTold, first-told, option-true}
use Rattle.opcode.specs.Options.{options_in}
use Rattle.opcode.specs.Judgement.{judgement}
use Rattle.opcode.proofs.Faults.{Located}
use Rattle.opcode.proofs.Numbers.{CommandNumber}
use Rattle.opcode.specs.Plain.{CommandRefuses, not_carried, lacks-length, wrong_size, out_of_range, merges}
use Rattle.opcode.proofs.Plain.{command-passed}
use Rattle.packet.specs.Frame.{header_of, opcode_of, options_of, data_of, fields, announced}
use Rattle.packet.specs.Reading.{Answer, frame_refusals, refusals, answered, reading}
use Rattle.packet.specs.Making.{Made, packet_of, make_refusals, made_by, made}
use Rattle.packet.specs.Plain.{Refuses, too_short, too_long, other_length, other-sum, elsewhere, command, ReadPlain}
use Rattle.packet.specs.Plain.{MakeRefuses, no_room, MakePlain, AnnouncedPlain}
use Rattle.packet.proofs.Frames.{reading-number, accepted}
use Rattle.packet.proofs.Makes.{make_front, made-by}
use Rattle.packet.proofs.MadeReads.{made-number}

-- What a number that was given says of a command.
command-applies : {op o : ℕ} {d : List ℕ} {n place : ℕ} → CommandNumber op o d n → Located op o d n place
    → Each (λ (k : ℕ). n ≡ k → CommandRefuses op o d k) (judgement op o d)
unfolding judgement
command-applies c l = (
  λ e. not_carried (c.seven e),
  (λ e. lacks-length (c.eight e), (λ e. wrong_size (c.nine e), (λ e. out_of_range (l.first e), (λ e. merges (c.eleven e), tt)))),
)

-- A test that holds where an option is set and two numbers differ.
set-and-other : {o v w : ℕ} → (eqb o 1 && not (eqb v w)) ≡ true → (o ≡ 1) × (v ≡ w → ⊥)
set-and-other {o} {v} {w} h = go (eqb o 1) refl h
  where
    go : (a : Bool) → eqb o 1 ≡ a → (a && not (eqb v w)) ≡ true → (o ≡ 1) × (v ≡ w → ⊥)
    go true e h = (eqb-true o 1 e, eqb-false v w (not-true (eqb v w) h))
    go false e h = absurd (true≢false (sym h))

-- ---- Reading.

-- A refusal's other values are 0.
alone : (n : ℕ) (p : List ℕ) (b : Bool) → eqb n 0 ≡ b → ((answered n p).number ≡ 0 → ⊥)
    → ((answered n p).opcode ≡ 0) × ((answered n p).options ≡ 0) × ((answered n p).place ≡ 0) × ((answered n p).size ≡ 0)
alone n p true e h = absurd (h (rw e))
alone n p false e h = rw e (refl, refl, refl, refl)

read-alone : (p : List ℕ) → ((reading p).number ≡ 0 → ⊥)
    → ((reading p).opcode ≡ 0) × ((reading p).options ≡ 0) × ((reading p).place ≡ 0) × ((reading p).size ≡ 0)
unfolding reading
read-alone p h = alone (first (refusals p)) p (eqb (first (refusals p)) 0) refl h

module _ (p : List ℕ) where
  frame-rows : TestsTold (reading p).number (frame_refusals p)
  unfolding judgement
  frame-rows = rw (reading-number p) (first-told 1 [] (frame_refusals p) (judgement (opcode_of p) (options_of p) (data_of p)) tt (omega arith))

  module _
      (c : CommandNumber (opcode_of p) (options_of p) (data_of p) (reading p).number)
      (l : Located (opcode_of p) (options_of p) (data_of p) (reading p).number (reading p).fault-place) where
    -- A number that is given applies.
    given : Each (λ (k : ℕ). (reading p).number ≡ k → Refuses p k) (refusals p)
    unfolding judgement
    given =
        let f = frame-rows in
        let j = command-applies c l in (
          λ e. too_short (ltb-true _ _ (f.0.given e)),
          (
            λ e. too_long (ltb-true _ _ (f.1.0.given e)),
            (
              λ e. let s = set-and-other (f.1.1.0.given e) in other_length s.0 s.1,
              (
                λ e. let s = set-and-other (f.1.1.1.0.given e) in other-sum s.0 s.1,
                (
                  λ e. elsewhere (eqb-false _ _ (not-true _ (f.1.1.1.1.0.given e))),
                  (
                    λ e. command (j.0 e),
                    (λ e. command (j.1.0 e), (λ e. command (j.1.1.0 e), (λ e. command (j.1.1.1.0 e), (λ e. command (j.1.1.1.1.0 e), tt)))),
                  ),
                ),
              ),
            ),
          ),
        )

    -- One that is passed does not.
    passed : {k : ℕ} → ((reading p).number ≡ 0) ⊎ (k < (reading p).number) → Refuses p k → ⊥
    passed b (too_short h) = let w : fields (header_of p) ≤ length p = ltb-false _ _ (frame-rows.0.passed b) in omega arith
    passed b (too_long h) = let w : length p ≤ 512 = ltb-false _ _ (frame-rows.1.0.passed b) in omega arith
    passed b (other_length o h) = h (eqb-true _ _ (option-true _ _ (frame-rows.1.1.0.passed b) (eq-eqb _ _ o)))
    passed b (other-sum o h) = h (eqb-true _ _ (option-true _ _ (frame-rows.1.1.1.0.passed b) (eq-eqb _ _ o)))
    passed b (elsewhere h) = h (eqb-true _ _ (not-false _ (frame-rows.1.1.1.1.0.passed b)))
    passed b (command r) = command-passed c l b r

    number-least : Least (Refuses p) (reading p).number
    number-least =
        record {
          applies = first-applies (Refuses p) (refusals p) (reading-number p) given;
          passed = λ b r. passed b r;
        }

    pub read_plain : ReadPlain p (reading p)
    read_plain =
        record {
          number = number-least;
          fault-place = l.first;
          no-fault = l.none;
          opcode = λ z. ap (λ (a : Answer). a.opcode) (accepted p (sym (reading-number p) ∙ z));
          options = λ z. ap (λ (a : Answer). a.options) (accepted p (sym (reading-number p) ∙ z));
          at = λ z. ap (λ (a : Answer). a.place) (accepted p (sym (reading-number p) ∙ z));
          size = λ z. ap (λ (a : Answer). a.size) (accepted p (sym (reading-number p) ∙ z));
          nothing-else = read-alone p;
        }

-- ---- Making.

unmade : (op options : ℕ) (d buffer : List ℕ) (n : ℕ) (b : Bool) → eqb n 0 ≡ b → ((made_by n op options d buffer).status ≡ 0 → ⊥)
    → ((made_by n op options d buffer).size ≡ 0) × ((made_by n op options d buffer).buffer ≡ buffer)
unmade op options d buffer n true e h = absurd (h (rw e))
unmade op options d buffer n false e h = rw e (refl, refl)

module _ (op options : ℕ) (d buffer : List ℕ)
    (c : CommandNumber op (options_in options) d (made op options d buffer).status)
    (l : Located op (options_in options) d (made op options d buffer).status (made op options d buffer).fault-place) where
  front-rows : TestsTold (made op options d buffer).status (make_front (options_in options) d (length buffer))
  unfolding judgement
  front-rows =
      rw (made-number op options d buffer)
      (first-told 0 [] (make_front (options_in options) d (length buffer)) (judgement op (options_in options) d) tt (omega arith))

  make-given : Each (λ (k : ℕ). (made op options d buffer).status ≡ k → MakeRefuses op (options_in options) d (length buffer) k)
      (make_refusals op (options_in options) d (length buffer))
  unfolding judgement
  make-given =
      let f = front-rows in
      let j = command-applies c l in (
        λ e. no_room (ltb-true _ _ (f.0.given e)),
        (
          λ e. MakeRefuses.too_long (ltb-true _ _ (f.1.0.given e)),
          (
            λ e. MakeRefuses.command (j.0 e),
            (
              λ e. MakeRefuses.command (j.1.0 e),
              (
                λ e. MakeRefuses.command (j.1.1.0 e),
                (λ e. MakeRefuses.command (j.1.1.1.0 e), (λ e. MakeRefuses.command (j.1.1.1.1.0 e), tt)),
              ),
            ),
          ),
        ),
      )

  make-passed : {k : ℕ} → ((made op options d buffer).status ≡ 0) ⊎ (k < (made op options d buffer).status)
      → MakeRefuses op (options_in options) d (length buffer) k → ⊥
  make-passed b (no_room h) = let w : 512 ≤ length buffer = ltb-false _ _ (front-rows.0.passed b) in omega arith
  make-passed b (MakeRefuses.too_long h) =
      let w : fields (options_in options) + length d ≤ 512 = ltb-false _ _ (front-rows.1.0.passed b) in omega arith
  make-passed b (MakeRefuses.command r) = command-passed c l b r

  pub make-plain : MakePlain op options d buffer (made op options d buffer)
  unfolding over
  make-plain =
      record {
        number =
            record {
              applies =
                  first-applies (MakeRefuses op (options_in options) d (length buffer))
                  (make_refusals op (options_in options) d (length buffer)) (made-number op options d buffer) make-given;
              passed = λ b r. make-passed b r;
            };
        fault-place = l.first;
        no-fault = l.none;
        size = λ z. ap (λ (m : Made). m.size) (whole z);
        written = λ z. ap (λ (m : Made). m.buffer) (whole z);
        refused = rw (made-by op options d buffer (first (make_refusals op (options_in options) d (length buffer))) refl)
            (unmade op (options_in options) d buffer (first (make_refusals op (options_in options) d (length buffer))) (eqb (first (make_refusals op (options_in options) d (length buffer))) 0) refl);
      }
    where
      whole : (made op options d buffer).status ≡ 0
          → made op options d buffer
          ≡ record { status = 0; fault-place = 0; size = length (packet_of op (options_in options) d); buffer = over (packet_of op (options_in options) d) buffer }
      whole z = made-by op options d buffer 0 (sym (made-number op options d buffer) ∙ z)

-- ---- What a packet announces: the length field's number, taken once or not at all.

pub announced-plain : (p : List ℕ) (n : ℕ) → n ≡ announced p → 2 ≤ n → n ≤ 65541 → AnnouncedPlain p n
announced-plain p n e some few =
    record {
      with-length = λ h. e ∙ rw h (omega arith);
      without = λ h. e ∙ rw h (omega arith);
      some = some;
      few = few;
    }
