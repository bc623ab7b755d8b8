-- What names mean, by unfolding them; and that one number at most is the least that applies.
use Prim.Native.Nat.{ℕ, zero, suc, ◌+◌, ◌<◌}
use mathlib.Core.Path.{◌≡◌, refl, sym, subst}
use mathlib.Core.Logic.{inl, inr}
use mathlib.Core.Bool.{Bool, true, false}
use mathlib.Core.List.{List, [], ◌∷◌}
use native.Mathlib.Omega.{arith}
use native.Mathlib.Numerals.{add-one}
use Rattle.wire.specs.First.{first}
use Rattle.wire.specs.Buffers.{over}
use Rattle.wire.specs.Refusals.{number_of, place_of}
use Rattle.wire.specs.declared.refusal.Refusal.{Refusal}
use Rattle.wire.specs.declared.refusal.Refusal.TheVariants.{LentWrong, TooShort, TooLong, LengthDiffers}
use Rattle.wire.specs.declared.refusal.Refusal.TheVariants.{ChecksumDiffers, NotForUs, Unknown, LacksLength}
use Rattle.wire.specs.declared.refusal.Refusal.TheVariants.{SizeWrong, ValueWrong, NamedOnly, RunsPast}
use Rattle.wire.specs.Plain.{Least, Pinned}
use Rattle.wire.proofs.Sums.{checksum-agrees}

placeless : (why : Refusal) → (number_of why ≡ 10 → ⊥) → place_of why ≡ 0
placeless LentWrong other = refl
placeless TooShort other = refl
placeless TooLong other = refl
placeless LengthDiffers other = refl
placeless ChecksumDiffers other = refl
placeless NotForUs other = refl
placeless Unknown other = refl
placeless LacksLength other = refl
placeless SizeWrong other = refl
placeless (ValueWrong at) other = absurd (other refl)
placeless NamedOnly other = refl
placeless RunsPast other = refl

pub pinned : Pinned
unfolding over
pinned =
    record {
      byte = λ s i. refl;
      word = λ s i. refl;
      long = λ s i. let third : i + 2 + 1 ≡ i + 3 = omega arith in rw third (omega arith);
      word-bytes = λ n. refl;
      words-0 = refl;
      words-1 = λ x. refl;
      words-2 = λ x y r. refl;
      bytes-0 = refl;
      bytes-1 = λ n r. refl;
      longs-0 = refl;
      longs-1 = λ x. refl;
      longs-2 = λ x y. refl;
      longs-3 = λ x y z. refl;
      longs-4 = λ x y z w r. refl;
      long-bytes-0 = refl;
      long-bytes-1 = λ n r. refl;
      weights-0 = refl;
      weights-1 = λ x r. rw add-one;
      sum = λ s. (checksum-agrees s).weighs;
      overwritten = λ s buffer. refl;
      numbers-1 = (refl, refl, refl);
      numbers-4 = (refl, refl, refl);
      numbers-7 = (refl, refl, refl);
      numbers-10 = λ at. (refl, refl, refl);
      named-place = λ at. refl;
      no-place = placeless;
      told-taken = (refl, refl);
      told-refused = λ why. (refl, refl);
      told-none = (refl, refl);
      told-some = λ why. (refl, refl);
    }

-- Two numbers, each the least that applies, are equal: the lesser would have been passed by the
-- other.
pub least-one : {C : ℕ → Type 0} (m n : ℕ) → Least C m → Least C n → m ≡ n
least-one zero zero a b = refl
least-one zero (suc n) a b = absurd (a.passed (inl refl) (b.applies (λ e. omega arith)))
least-one (suc m) zero a b = absurd (b.passed (inl refl) (a.applies (λ e. omega arith)))
least-one (suc m) (suc n) a b =
    let low : suc m < suc n → ⊥ = λ h. b.passed (inr h) (a.applies (λ e. omega arith)) in
    let high : suc n < suc m → ⊥ = λ h. a.passed (inr h) (b.applies (λ e. omega arith)) in
    omega arith

-- The number that a list of tests gives is 0, or stands in the list.
abbrev pub Each : (ℕ → Type 0) → List (ℕ × Bool) → Type 0
Each P [] = Unit
Each P (t ∷ ts) = P t.0 × Each P ts

first-among : (P : ℕ → Type 0) (ts : List (ℕ × Bool)) → P 0 → Each P ts → P (first ts)
first-among P [] z e = z
first-among P ((k, true) ∷ ts) z e = e.0
first-among P ((k, false) ∷ ts) z e = first-among P ts z e.1

-- So a number that was given applies, if each number of the list does where it is the one given.
pub first-applies : (C : ℕ → Type 0) {n : ℕ} (ts : List (ℕ × Bool)) → n ≡ first ts → Each (λ (k : ℕ). n ≡ k → C k) ts
    → (n ≡ 0 → ⊥) → C n
first-applies C {n} ts e h z = subst C (sym e) (first-among (λ (k : ℕ). n ≡ k → C k) ts (λ e. absurd (z e)) h e)
