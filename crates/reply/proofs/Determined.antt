-- What is said of reading a reply with the numbers themselves leaves it one answer.
use Prim.Native.Nat.{ℕ}
use mathlib.Core.Path.{◌≡◌, refl, sym, ◌∙◌}
use mathlib.Core.Bool.{Bool, true, false}
use mathlib.Core.List.{List}
use native.Mathlib.Decide.{ℕ_discrete}
use native.Mathlib.Omega.{arith}
use Rattle.wire.proofs.Plain.{least-one}
use Rattle.reply.specs.Answer.{ReplyAnswer}
use Rattle.reply.specs.Plain.{ReplyPlain}

-- An answer is its four fields.
abbrev answer_of : ℕ → ℕ → ℕ → ℕ → ReplyAnswer
answer_of number status place size = record { number = number; status = status; place = place; size = size }

same-fields : {k l m n i j s t : ℕ} → k ≡ l → m ≡ n → i ≡ j → s ≡ t → answer_of k m i s ≡ answer_of l n j t
same-fields e f g h = cc

-- The size of the data is what the reply has, less its head and its checksum.
same_size : {r : List ℕ} (sum : Bool) {a b : ReplyAnswer} → ReplyPlain r sum a → ReplyPlain r sum b → a.number ≡ 0 → b.number ≡ 0 → a.size ≡ b.size
same_size true p q y z = omega (arith, p.size-summed y refl, q.size-summed z refl)
same_size false p q y z = omega (arith, p.size y refl, q.size z refl)

-- Rule 3.5.
pub determined : {r : List ℕ} {sum : Bool} {a b : ReplyAnswer} → ReplyPlain r sum a → ReplyPlain r sum b → a ≡ b
determined {sum = sum} {a = a} {b = b} p q =
    let same : a.number ≡ b.number = least-one a.number b.number p.number q.number in
    elim (ℕ_discrete a.number 0) [
      | yes y ↦
          let z : b.number ≡ 0 = sym same ∙ y in
          same-fields same (p.status y ∙ sym (q.status z)) (p.place y ∙ sym (q.place z)) (same_size sum p q y z)
      | no h ↦
          let mine = p.nothing-else h in
          let yours = q.nothing-else (λ z. h (same ∙ z)) in
          same-fields same (mine.0 ∙ sym yours.0) (mine.1 ∙ sym yours.1) (mine.2 ∙ sym yours.2)
    ]
