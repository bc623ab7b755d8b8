-- What is promised of the rising test with the numbers themselves leaves it one answer.
use Prim.Native.Nat.{ℕ, ◌<◌}
use mathlib.Core.Path.{◌≡◌, sym, ◌∙◌}
use mathlib.Core.Logic.{⊎_elim}
use mathlib.Core.List.{List}
use native.Mathlib.Decide.{ℕ_discrete}
use native.Mathlib.Omega.{arith}
use Rattle.opcode.specs.Faults.{FirstFault}
use Rattle.rising.specs.Plain.{RisingPlain}

-- Rule 4.6: of two first faults neither stands before the other, for every field before a first
-- fault is within its range.
not-before : {op o : ℕ} {d : List ℕ} {j k : ℕ} → FirstFault op o d j → FirstFault op o d k → j < k → ⊥
not-before f g h = let w = g.before h f.field in ⊎_elim (λ a. omega arith) (λ a. omega arith) f.out

pub determined : {lists : List ℕ} {m n : ℕ} → RisingPlain lists m → RisingPlain lists n → m ≡ n
determined {lists} {m} {n} a b =
    elim (ℕ_discrete m 0) [
      | yes e ↦ e ∙ sym (b.exactly.1 (a.exactly.0 e))
      | no some ↦
          elim (ℕ_discrete m 9) [
            | yes e ↦ e ∙ sym (b.nine.1 (a.nine.0 e))
            | no other ↦
                let mine = a.ten some other in
                let yours = b.ten (λ e. some (a.exactly.1 (b.exactly.0 e))) (λ e. other (a.nine.1 (b.nine.0 e))) in
                let low : mine.0 < yours.0 → ⊥ = not-before mine.2 yours.2 in
                let high : yours.0 < mine.0 → ⊥ = not-before yours.2 mine.2 in
                omega (arith, mine.1, yours.1)
          ]
    ]
