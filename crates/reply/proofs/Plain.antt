-- What names mean, by unfolding them; and what is said of reading a reply with the numbers
-- themselves, from the list of its refusals: a test that holds is a refusal that applies, and one
-- that is passed does not hold.
use Prim.Native.Nat.{ℕ, ◌+◌, ◌-◌, ◌≤◌, ◌<◌}
use mathlib.Core.Path.{◌≡◌, refl, sym, ap, subst, ◌∙◌}
use mathlib.Core.Logic.{◌⊎◌, inl}
use mathlib.Core.Bool.{Bool, true, false, not}
use mathlib.Core.List.{List, [], ◌∷◌, append-nil}
use native.Mathlib.Omega.{arith}
use borrow.Author.Tests.{ltb-true, ltb-false, eqb-true, eqb-false, ne_eqb, not-true, not-false}
use lib.ListN.{length}
use lib.Dec.{eqb}
use Rattle.wire.specs.First.{first}
use Rattle.wire.specs.Numbers.{byte_at, word_at}
use Rattle.wire.specs.Plain.{Least}
use Rattle.wire.proofs.Sums.{checksum-agrees}
use Rattle.wire.proofs.Tests.{TestsTold, past-less, first-told, option-true}
use Rattle.reply.specs.Answer.{ReplyAnswer, reply_refused_by}
use Rattle.reply.specs.Reply.{reply_bytes}
use Rattle.reply.specs.Reading.{checksum_size, checksum_wrong, reply_refusals, reply_answered, reply_reading}
use Rattle.reply.specs.Plain.{Pinned, ReplyRefuses, short, short-summed, long, miscounted, miscounted-summed, wrong-sum, unknown-status, ReplyPlain}

pub pinned : Pinned
unfolding reply_bytes
pinned =
    record {
      without-sum = λ status d. rw (append-nil d);
      with-sum = λ status d. rw (checksum-agrees _).weighs;
      answer-reply = λ status at size. refl;
      answer-refused = λ why. refl;
      number-2 = refl;
      number-3 = refl;
      number-4 = refl;
      number-5 = refl;
      number-10 = refl;
    }

-- Each test of a list means a statement of its number; so does the first that holds.
abbrev Each : (ℕ → Type 0) → List (ℕ × Bool) → Type 0
Each C [] = Unit
Each C (t ∷ ts) = (t.1 ≡ true → C t.0) × Each C ts

first-applies : (C : ℕ → Type 0) (ts : List (ℕ × Bool)) → Each C ts → (first ts ≡ 0 → ⊥) → C (first ts)
first-applies C [] e h = absurd (h refl)
first-applies C ((k, true) ∷ ts) e h = e.0 refl
first-applies C ((k, false) ∷ ts) e h = first-applies C ts e.1 h

module _ (r : List ℕ) where
  two : (sum : Bool) → length r < 3 + checksum_size sum → ReplyRefuses r sum 2
  two true h = short-summed refl (omega arith)
  two false h = short (omega arith)

  four : (sum : Bool) → (word_at r 1 ≡ length r - 3 - checksum_size sum → ⊥) → ReplyRefuses r sum 4
  four true h = miscounted-summed refl (λ e. h (omega arith))
  four false h = miscounted refl (λ e. h (omega arith))

  five : (sum : Bool) → checksum_wrong r sum ≡ true → ReplyRefuses r sum 5
  five true e = wrong-sum refl (eqb-false _ _ (not-true _ e))
  five false e = let z : ◌≡◌ {A = ℕ} 0 1 = cc in absurd (omega arith)

module _ (r : List ℕ) (sum : Bool) where
  applies : Each (ReplyRefuses r sum) (reply_refusals r sum)
  applies =
      let size : not (eqb (word_at r 1) (length r - 3 - checksum_size sum)) ≡ true → ReplyRefuses r sum 4 =
      λ e. four r sum (eqb-false _ _ (not-true _ e)) in
      (λ e. two r sum (ltb-true _ _ e), (λ e. long (ltb-true _ _ e), (size, (five r sum, (λ e. unknown-status (ltb-true _ _ e), tt)))))

  -- What the number given tells of each test.
  rows : TestsTold (first (reply_refusals r sum)) (reply_refusals r sum)
  rows = first-told 1 [] (reply_refusals r sum) [] tt (omega arith)

  module _ {k : ℕ} (p : (first (reply_refusals r sum) ≡ 0) ⊎ (k < first (reply_refusals r sum))) where
    whole : 2 ≤ k → 3 + checksum_size sum ≤ length r
    whole h = ltb-false _ _ (rows.0.passed (past-less h p))

    counted : 4 ≤ k → 3 + checksum_size sum + word_at r 1 ≡ length r
    counted h =
        let size : word_at r 1 ≡ length r - 3 - checksum_size sum = eqb-true _ _ (not-false _ (rows.1.1.0.passed (past-less h p))) in
        omega (arith, whole (omega arith))

  -- A refusal that is passed does not apply.
  passed : {k : ℕ} → (first (reply_refusals r sum) ≡ 0) ⊎ (k < first (reply_refusals r sum)) → ReplyRefuses r sum k → ⊥
  passed p (short h) = let w = whole p (omega arith) in omega arith
  passed p (short-summed e h) = let w = rw e at (whole p (omega arith)) in omega arith
  passed p (long h) = let w = ltb-false 512 (length r) (rows.1.0.passed p) in omega arith
  passed p (miscounted e h) = h (let w = rw e at (counted p (omega arith)) in omega arith)
  passed p (miscounted-summed e h) = h (let w = rw e at (counted p (omega arith)) in omega arith)
  passed p (wrong-sum e h) = h (eqb-true _ _ (option-true _ _ (rows.1.1.1.0.passed p) e))
  passed p (unknown-status h) = let w = ltb-false 12 (byte_at r 0) (rows.1.1.1.1.0.passed p) in omega arith

  -- The number answered is the number found.
  number_by : (n : ℕ) (b : Bool) → eqb n 0 ≡ b → (reply_answered n r sum).number ≡ n
  number_by n true e = rw e (sym (eqb-true n 0 e))
  number_by n false e = rw e

  number-first : (reply_reading r sum).number ≡ first (reply_refusals r sum)
  unfolding reply_reading
  number-first = number_by (first (reply_refusals r sum)) (eqb (first (reply_refusals r sum)) 0) refl

  -- Of a reply the status, the place and the size; of what is none nothing.
  taken : first (reply_refusals r sum) ≡ 0 → reply_reading r sum ≡ record { number = 0; status = byte_at r 0; place = 3; size = length r - 3 - checksum_size sum }
  unfolding reply_reading
  taken e = rw e

  alone : (first (reply_refusals r sum) ≡ 0 → ⊥) → reply_reading r sum ≡ reply_refused_by (first (reply_refusals r sum))
  unfolding reply_reading
  alone h = rw (ne_eqb _ _ h)

  least : Least (ReplyRefuses r sum) (first (reply_refusals r sum))
  least = record { applies = first-applies (ReplyRefuses r sum) (reply_refusals r sum) applies; passed = passed }

  pub reply-plain : ReplyPlain r sum (reply_reading r sum)
  reply-plain =
      let found : (reply_reading r sum).number ≡ 0 → first (reply_refusals r sum) ≡ 0 = λ z. sym number-first ∙ z in
      let size : (z : (reply_reading r sum).number ≡ 0) → 3 + checksum_size sum + (reply_reading r sum).size ≡ length r =
      λ z. let w = whole {k = 2} (inl (found z)) (omega arith) in rw (taken (found z)) (omega arith) in
      record {
        number = subst (λ (n : ℕ). Least (ReplyRefuses r sum) n) (sym number-first) least;
        status = λ z. ap (λ (a : ReplyAnswer). a.status) (taken (found z));
        place = λ z. ap (λ (a : ReplyAnswer). a.place) (taken (found z));
        size = λ z e. let none : checksum_size sum ≡ 0 = rw e in omega (arith, size z);
        size-summed = λ z e. let one : checksum_size sum ≡ 1 = rw e in omega (arith, size z);
        nothing-else = λ h. rw (alone (λ z. h (number-first ∙ z))) (refl, refl, refl);
      }
