-- What making answers, by its first test that holds. The refusals of the command may be any list.
use Prim.Native.Nat.{ℕ, ◌+◌, ◌≤◌, ◌<◌}
use mathlib.Core.Path.{◌≡◌, refl, sym, ap, ◌∙◌}
use mathlib.Core.Bool.{Bool, true, false, cond}
use mathlib.Core.List.{List, [], ◌∷◌}
use borrow.Author.Tests.{lt-ltb, le-ltb, ne_eqb, eqb-true}
use lib.ListN.{length}
use lib.Dec.{eqb, ltb}
use Rattle.wire.specs.First.{first}
use Rattle.opcode.specs.Options.{options_in}
use Rattle.opcode.specs.Judgement.{judgement, fault_place}
use Rattle.packet.specs.Frame.{fields}
use Rattle.packet.specs.Making.{Made, make_refusals, made_by, made}

-- Making's own refusals, which stand before those of the command.
abbrev pub make_front : ℕ → List ℕ → ℕ → List (ℕ × Bool)
make_front o d room = (1, ltb room 512) ∷ (3, ltb 512 (fields o + length d)) ∷ []

-- The first number of making's list.
small : {a : Bool} (b : Bool) (ts : List (ℕ × Bool)) → a ≡ true → first ((1, a) ∷ (3, b) ∷ ts) ≡ 1
small b ts e = rw e

large : {a b : Bool} (ts : List (ℕ × Bool)) → a ≡ false → b ≡ true → first ((1, a) ∷ (3, b) ∷ ts) ≡ 3
large ts e f = rw (e, f)

fits : {a b : Bool} (ts : List (ℕ × Bool)) → a ≡ false → b ≡ false → first ((1, a) ∷ (3, b) ∷ ts) ≡ first ts
fits ts e f = rw (e, f)

-- The status answered is the number found.
status-by : (b : Bool) (n : ℕ) (x y : Made) → eqb n 0 ≡ b → x.status ≡ 0 → y.status ≡ n → (cond b x y).status ≡ n
status-by true n x y e h i = h ∙ sym (eqb-true n 0 e)
status-by false n x y e h i = i

pub made-status : (n op o : ℕ) (d buffer : List ℕ) → (made_by n op o d buffer).status ≡ n
made-status n op o d buffer = status-by (eqb n 0) n _ _ refl refl refl

-- And the place is that of the number: 0 has none.
pub made_fault : (n op o : ℕ) (d buffer : List ℕ) → (made_by n op o d buffer).fault-place ≡ fault_place n op o d
made_fault n op o d buffer = go (eqb n 0) refl
  where
    go : (b : Bool) → eqb n 0 ≡ b → (made_by n op o d buffer).fault-place ≡ fault_place n op o d
    go true e = rw (eqb-true n 0 e)
    go false e = rw e

module _ (op options : ℕ) (d buffer : List ℕ) where
  pub made-by : (n : ℕ) → first (make_refusals op (options_in options) d (length buffer)) ≡ n
      → made op options d buffer ≡ made_by n op (options_in options) d buffer
  unfolding made
  made-by n e = ap (λ (n : ℕ). made_by n op (options_in options) d buffer) e

  pub made-small : length buffer < 512 → made op options d buffer ≡ made_by 1 op (options_in options) d buffer
  made-small h = made-by 1 (small (ltb 512 (fields (options_in options) + length d)) (judgement op (options_in options) d) (lt-ltb (length buffer) 512 h))

  module _ (room : 512 ≤ length buffer) where
    pub made-large : 512 < fields (options_in options) + length d → made op options d buffer ≡ made_by 3 op (options_in options) d buffer
    made-large h =
        made-by 3
        (large (judgement op (options_in options) d) (le-ltb (length buffer) 512 room) (lt-ltb 512 (fields (options_in options) + length d) h))

    module _ (fit : fields (options_in options) + length d ≤ 512) where
      pub made-judged : (n : ℕ) → first (judgement op (options_in options) d) ≡ n
          → made op options d buffer ≡ made_by n op (options_in options) d buffer
      made-judged n e =
          made-by n
          (fits (judgement op (options_in options) d) (le-ltb (length buffer) 512 room) (le-ltb 512 (fields (options_in options) + length d) fit) ∙ e)

      pub made-refused : (n f : ℕ)
          → (n ≡ first (judgement op (options_in options) d)) × (f ≡ fault_place (first (judgement op (options_in options) d)) op (options_in options) d)
          → (n ≡ 0 → ⊥) → made op options d buffer ≡ record { status = n; fault-place = f; size = 0; buffer = buffer }
      made-refused n f e h = made-judged n (sym e.0) ∙ rw (ne_eqb n 0 h, e.1, ← e.0)

-- A packet that nothing is refused of, from options that have no other bits.
pub made-whole : (op o : ℕ) (d buffer : List ℕ) → options_in o ≡ o → 512 ≤ length buffer → fields o + length d ≤ 512 → first (judgement op o d) ≡ 0
    → made op o d buffer ≡ made_by 0 op o d buffer
made-whole op o d buffer whole room fit none =
    rw whole at (made-judged op o d buffer room (rw whole fit) 0 (ap (λ (o : ℕ). first (judgement op o d)) whole ∙ none))
