-- What the write of two lists is judged by, in the numbers of the lists; that the answer is what the entry promises; and that refusal 1 decides alike.
use Prim.Native.Nat.{ℕ, zero, suc, ◌+◌, ◌*◌, ◌≤◌, ◌<◌}
use mathlib.Core.Path.{◌≡◌, refl, ◌∙◌}
use mathlib.Core.Bool.{true, false}
use mathlib.Core.Logic.{◌↔◌}
use mathlib.Core.List.{List, []}
use native.Mathlib.Decide.{dec_lt, ℕ_discrete}
use native.Mathlib.Omega.{arith}
use borrow.Author.Tests.{lt-ltb, le-ltb, eq-eqb, ne_eqb}
use lib.ListN.{length, get_or}
use lib.Dec.{eqb}
use Rattle.wire.proofs.Copies.{Same, front, part}
use Rattle.opcode.specs.Fields.{words_at, rise}
use Rattle.opcode.specs.Commands.{command_of}
use Rattle.opcode.specs.Judgement.{judgement, size_wrong, control_size_wrong, value_fault, control_fault, lists_fault}
use Rattle.opcode.specs.Allowed.{Allowed}
use Rattle.opcode.specs.Faults.{FirstFault}
use Rattle.opcode.proofs.Accepts.{accepts}
use Rattle.opcode.proofs.Accepts.Lists.{length-words_at, rising-rise, rise-rising}
use Rattle.opcode.proofs.Faults.{located}
use Rattle.settings.specs.Ranges.{lists_rise}
use Rattle.settings.proofs.Same.{words_same}
use Rattle.rising.specs.Alone.{opcode, options, written, refusal, place, packed, RisingTold}

module _ (l : List ℕ) where
  -- Behind the mode stand the lists.
  behind-mode : Same (written l) 1 l 0 188
  behind-mode = record { each = λ k h. let mode : 1 + k ≡ suc k = omega arith in let all : 0 + k ≡ k = omega arith in rw (mode, all) }

  columns : words_at (written l) 1 62 ≡ words_at l 0 62
  columns = words_same 62 (front behind-mode 124 (omega arith))

  rows : words_at (written l) 125 32 ≡ words_at l 124 32
  rows = words_same 32 (part behind-mode 124 64 (omega arith))

  -- The write is judged by its size, and then by its lists.
  pub by_size : (length l ≡ 188 → ⊥) → (refusal l ≡ 9) × (place l ≡ 0)
  unfolding judgement size_wrong control_size_wrong command_of
  by_size n =
      let some : eqb (length (written l)) 0 ≡ false = ne_eqb (length (written l)) 0 (λ e. omega arith) in
      let wrong : eqb (length (written l)) 189 ≡ false = ne_eqb (length (written l)) 189 (λ e. n (omega arith)) in
      (rw (some, wrong), rw (some, wrong))

  module _ (long : length l ≡ 188) where
    all : length (written l) ≡ 189
    all = omega arith

    some : eqb (length (written l)) 0 ≡ false
    some = ne_eqb (length (written l)) 0 (λ e. omega arith)

    right : eqb (length (written l)) 189 ≡ true
    right = eq-eqb (length (written l)) 189 all

    by-fault : {at : ℕ} → lists_fault (written l) ≡ at → at < 189 → (refusal l ≡ 10) × (place l ≡ at)
    unfolding judgement size_wrong control_size_wrong value_fault control_fault command_of
    by-fault {at} e h = (rw (some, right, all, e, lt-ltb at 189 h), rw (some, right, all, e, lt-ltb at 189 h))

    by-none : {at : ℕ} → lists_fault (written l) ≡ at → 189 ≤ at → (refusal l ≡ 0) × (place l ≡ 0)
    unfolding judgement size_wrong control_size_wrong value_fault control_fault command_of
    by-none {at} e h = (rw (some, right, all, e, le-ltb at 189 h), rw (some, right, all, e, le-ltb at 189 h))

    pub by-columns : rise (words_at l 0 62) < 62 → (refusal l ≡ 10) × (place l ≡ 1 + 2 * rise (words_at l 0 62))
    unfolding lists_fault
    by-columns h = by-fault (rw (columns, lt-ltb _ _ h)) (omega arith)

    module _ (first-rises : 62 ≤ rise (words_at l 0 62)) where
      pub by_rows : rise (words_at l 124 32) < 32 → (refusal l ≡ 10) × (place l ≡ 125 + 2 * rise (words_at l 124 32))
      unfolding lists_fault
      by_rows h = by-fault (rw (columns, rows, le-ltb _ _ first-rises)) (omega arith)

      pub by-neither : 32 ≤ rise (words_at l 124 32) → (refusal l ≡ 0) × (place l ≡ 0)
      unfolding lists_fault
      by-neither h = by-none {at = 125 + 2 * rise (words_at l 124 32)} (rw (columns, rows, le-ltb _ _ first-rises)) (omega arith)

    -- A list's own test: how far it rises is its length exactly if no number is at fault.
    at_most : (at n : ℕ) → n ≤ rise (words_at l at n) → rise (words_at l at n) ≡ n
    at_most at n h = let size = length-words_at n l at in rising-rise (rise-rising (words_at l at n) (omega arith)) ∙ size

    -- Refusal 1's tests, of the same bytes in a block, decide as the write's do.
    alike : (block : List ℕ) (shape : ℕ) → Same block (shape + 5) l 0 188 → eqb (refusal l) 0 ≡ lists_rise block shape
    alike block shape same =
        let here : shape + 5 + 124 ≡ shape + 129 = omega arith in
        let stored-columns : words_at block (shape + 5) 62 ≡ words_at l 0 62 = words_same 62 (front same 124 (omega arith)) in
        let stored-rows : words_at block (shape + 129) 32 ≡ words_at l 124 32 = rw here at (words_same 32 (part same 124 64 (omega arith))) in
        let c = rise (words_at l 0 62) in
        let r = rise (words_at l 124 32) in
        elim (dec_lt c 62) [
          | yes h ↦ rw (stored-columns, (by-columns h).0, ne_eqb c 62 (λ e. omega arith))
          | no h ↦
              let first-rises : 62 ≤ c = omega arith in
              elim (dec_lt r 32) [
                | yes k ↦ rw (stored-columns, stored-rows, (by_rows first-rises k).0, eq-eqb c 62 (at_most 0 62 first-rises), ne_eqb r 32 (λ e. omega arith))
                | no k ↦
                    let second-rises : 32 ≤ r = omega arith in
                    rw (
                      stored-columns,
                      stored-rows,
                      (by-neither first-rises second-rises).0,
                      eq-eqb c 62 (at_most 0 62 first-rises),
                      eq-eqb r 32 (at_most 124 32 second-rises),
                    )
              ]
        ]

-- Ten or none, of lists that are long enough.
data Judged (l : List ℕ) : Type 0 where
  at-fault : refusal l ≡ 10 → Judged l
  fine : refusal l ≡ 0 → place l ≡ 0 → Judged l

ways : (l : List ℕ) → length l ≡ 188 → Judged l
ways l long =
    elim (dec_lt (rise (words_at l 0 62)) 62) [
      | yes h ↦ at-fault (by-columns l long h).0
      | no h ↦
          elim (dec_lt (rise (words_at l 124 32)) 32) [
            | yes k ↦ at-fault (by_rows l long (omega arith) k).0
            | no k ↦ let none = by-neither l long (omega arith) (omega arith) in fine none.0 none.1
          ]
    ]

-- The mode is a byte, too.
pub all-bytes : (l : List ℕ) → ((k : ℕ) → get_or l k 0 < 256) → (k : ℕ) → get_or (written l) k 0 < 256
all-bytes l b zero = omega arith
all-bytes l b (suc k) = b k

-- What the entry promises follows from number and place.
module _ (l : List ℕ) (b : (k : ℕ) → get_or (written l) k 0 < 256) (answer : ℕ) (is : answer ≡ packed (refusal l) (place l)) where
  exactly : (answer ≡ 0) ↔ Allowed opcode options (written l)
  exactly = (
    λ e. (accepts opcode options (written l) b).0 (omega arith),
    λ w.
        let none : refusal l ≡ 0 = (accepts opcode options (written l) b).1 w in
        let nowhere : place l ≡ 0 = rw none in
        omega arith,
  )

  nine : (answer ≡ 9) ↔ (length l ≡ 188 → ⊥)
  nine = (λ e long. not-nine e (ways l long), λ n. omega (arith, by_size l n))
    where
      not-nine : answer ≡ 9 → Judged l → ⊥
      not-nine e (at-fault t) = omega arith
      not-nine e (fine z p) = omega arith

  first-fault : refusal l ≡ 10 → FirstFault opcode options (written l) (place l)
  unfolding judgement
  first-fault t = (located opcode options (written l) [] [] (tt, tt) b {number = refusal l} {place = place l} refl refl).first t

  ten : (answer ≡ 0 → ⊥) → (answer ≡ 9 → ⊥) → (fault : ℕ) × (answer ≡ 10 + 4294967296 * fault) × FirstFault opcode options (written l) fault
  ten not-0 not-9 =
      elim (ℕ_discrete (length l) 188) [
        | yes long ↦ go (ways l long)
        | no n ↦ absurd (not-9 (nine.1 n))
      ]
    where
      go : Judged l → (fault : ℕ) × (answer ≡ 10 + 4294967296 * fault) × FirstFault opcode options (written l) fault
      go (at-fault t) = (place l, omega arith, first-fault t)
      go (fine z p) = absurd (not-0 (omega arith))

  stored : (block : List ℕ) (shape : ℕ) → length l ≡ 188 → ((k : ℕ) → k < 188 → get_or block (shape + 5 + k) 0 ≡ get_or l k 0)
      → eqb answer 0 ≡ lists_rise block shape
  stored block shape long same =
      go (ways l long) ∙ alike l long block shape (record { each = λ k h. let all : 0 + k ≡ k = omega arith in rw all (same k h) })
    where
      go : Judged l → eqb answer 0 ≡ eqb (refusal l) 0
      go (at-fault t) = rw (t, ne_eqb answer 0 (λ e. omega arith))
      go (fine z p) = rw (z, eq-eqb answer 0 (omega arith))

  pub told : RisingTold l answer
  told = record { judged = is; plain = record { exactly = exactly; nine = nine; ten = ten }; stored = stored }
