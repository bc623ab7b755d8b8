-- Rule 9.2: a number's digits, taken from the last one on. What a loop that divides by ten keeps, whether it counts the digits or stores them.
use Prim.Native.Nat.{ℕ, zero, suc, ◌+◌, ◌-◌, ◌/◌, ◌%◌, ◌^◌, ◌≤◌, ◌<◌}
use mathlib.Core.Path.{◌≡◌, refl, sym, ap, ◌∙◌}
use mathlib.Core.List.{List, [], ◌∷◌, ◌++◌, append_assoc, append-nil}
use native.Mathlib.Nat.{pow-succ'}
use native.Mathlib.Omega.{arith}
use native.Mathlib.Decide.{dec_lt}
use borrow.Author.Tests.{lt-ltb, le-ltb}
use lib.ListN.{length, set, length-append}
use lib.Seq.{sets, set_comm, length-sets}
use Rattle.text.specs.Text.{digit, digits, decimal}

pub digits-one : (k n : ℕ) → n < 10 → digits (suc k) n ≡ digit n ∷ []
unfolding digits
digits-one k n h = rw (lt-ltb n 10 h)

pub digits_more : (k n : ℕ) → 10 ≤ n → digits (suc k) n ≡ digits k (n / 10) ++ (digit (n % 10) ∷ [])
unfolding digits
digits_more k n h = rw (le-ltb n 10 h)

-- At most as many digits as the fuel says, and one at least.
pub digits-most : (k n : ℕ) → length (digits k n) ≤ k
unfolding digits
digits-most zero n = omega arith
digits-most (suc k) n =
    elim (dec_lt n 10) [
      | yes h ↦ rw (digits-one k n h) (omega arith)
      | no h ↦ rw (digits_more k n (omega arith), length-append) (omega (arith, digits-most k (n / 10)))
    ]

pub digits-some : (k n : ℕ) → 1 ≤ length (digits (suc k) n)
digits-some k n =
    elim (dec_lt n 10) [
      | yes h ↦ rw (digits-one k n h) (omega arith)
      | no h ↦ rw (digits_more k n (omega arith), length-append) (omega arith)
    ]

-- A number of 64 bits has no more digits than the fuel of `decimal`.
pub few : (n : ℕ) → n < 18446744073709551616 → n < 10 ^ 20
few n h = omega arith

-- The digits of n are those of what is left of it, and behind them those that were taken off. There is fuel for one digit at least.
pub record Left (n rest : ℕ) (taken : List ℕ) : Type 0 where
  pub fuel : ℕ
  pub small : rest < 10 ^ suc fuel
  pub text : decimal n ≡ digits (suc fuel) rest ++ taken

pub left-all : (n : ℕ) → n < 18446744073709551616 → Left n n []
left-all n h = record { fuel = 19; small = few n h; text = sym (append-nil (decimal n)) }

-- One digit is taken off.
pub left_step : {n rest : ℕ} {s : List ℕ} → 10 ≤ rest → Left n rest s → Left n (rest / 10) (digit (rest % 10) ∷ s)
left_step {n} {rest} {s} h l = go l.fuel l.small l.text
  where
    go : (fuel : ℕ) → rest < 10 ^ suc fuel → decimal n ≡ digits (suc fuel) rest ++ s → Left n (rest / 10) (digit (rest % 10) ∷ s)
    go zero small text = absurd (omega arith)
    go (suc f) small text =
        record {
          fuel = f;
          small = omega (arith, pow-succ' 10 (suc f));
          text = text ∙ rw (digits_more (suc f) rest h) (append_assoc (digits (suc f) (rest / 10)) (digit (rest % 10) ∷ []) s);
        }

-- The last one.
pub left_one : {n rest : ℕ} {s : List ℕ} → rest < 10 → Left n rest s → decimal n ≡ digit rest ∷ s
left_one {n} {rest} {s} h l = l.text ∙ rw (digits-one l.fuel rest h)

-- At least one digit is left.
pub left-length : {n rest : ℕ} {s : List ℕ} → Left n rest s → length s < length (decimal n)
left-length {n} {rest} {s} l =
    rw (l.text, length-append) (omega (arith, digits-some l.fuel rest))

-- Two are taken off by one division.
pub left-two : {n rest : ℕ} {s : List ℕ} → 100 ≤ rest → Left n rest s
    → Left n (rest / 100) (digit (rest % 100 / 10) ∷ digit (rest % 100 % 10) ∷ s)
left-two {n} {rest} {s} h l =
    let e : rest / 10 / 10 ≡ rest / 100 = omega arith in
    let high : rest / 10 % 10 ≡ rest % 100 / 10 = omega arith in
    let low : rest % 10 ≡ rest % 100 % 10 = omega arith in
    rw (e, high, low) at (left_step {rest = rest / 10} (omega arith) (left_step {rest = rest} (omega arith) l))

-- ---- Counting: k digits were taken off.

pub record Counting (n rest k : ℕ) : Type 0 where
  pub taken : List ℕ
  pub left : Left n rest taken
  pub counted : k ≡ length taken

pub count-start : (n : ℕ) → n < 18446744073709551616 → Counting n n 0
count-start n h = record { taken = []; left = left-all n h; counted = refl }

count-step : {n rest k : ℕ} → 10 ≤ rest → Counting n rest k → Counting n (rest / 10) (k + 1)
count-step {n} {rest} {k} h c =
    record { taken = digit (rest % 10) ∷ c.taken; left = left_step h c.left; counted = omega (arith, c.counted) }

count-two : {n rest k : ℕ} → 100 ≤ rest → Counting n rest k → Counting n (rest / 100) (k + 2)
count-two {n} {rest} {k} h c =
    let e : rest / 10 / 10 ≡ rest / 100 = omega arith in
    let two : k + 1 + 1 ≡ k + 2 = omega arith in
    rw (e, two) at (count-step {rest = rest / 10} (omega arith) (count-step {rest = rest} (omega arith) c))

pub count_turn : {n rest k : ℕ} → 10000 ≤ rest → Counting n rest k → Counting n (rest / 10000) (k + 4)
count_turn {n} {rest} {k} h c =
    let e : rest / 100 / 100 ≡ rest / 10000 = omega arith in
    let four : k + 2 + 2 ≡ k + 4 = omega arith in
    rw (e, four) at (count-two {rest = rest / 100} (omega arith) (count-two {rest = rest} (omega arith) c))

-- The count stays small, and ends with the one to four digits that are left.
pub count_most : {n rest k : ℕ} → Counting n rest k → k < 20
count_most {n} c = omega (arith, left-length c.left, digits-most 20 n, c.counted)

pub count-one : {n rest k : ℕ} → rest < 10 → Counting n rest k → k + 1 ≡ length (decimal n)
count-one {n} {rest} {k} h c = rw (left_one h c.left) (omega (arith, c.counted))

pub count-tens : {n rest k : ℕ} → 10 ≤ rest → rest < 100 → Counting n rest k → k + 2 ≡ length (decimal n)
count-tens {n} {rest} {k} l h c = omega (arith, count-one {rest = rest / 10} (omega arith) (count-step l c))

pub count-hundreds : {n rest k : ℕ} → 100 ≤ rest → rest < 1000 → Counting n rest k → k + 3 ≡ length (decimal n)
count-hundreds {n} {rest} {k} l h c = omega (arith, count-one {rest = rest / 100} (omega arith) (count-two l c))

pub count-thousands : {n rest k : ℕ} → 1000 ≤ rest → rest < 10000 → Counting n rest k → k + 4 ≡ length (decimal n)
count-thousands {n} {rest} {k} l h c =
    omega (arith, count-tens {rest = rest / 100} (omega arith) (omega arith) (count-two {rest = rest} (omega arith) c))

-- ---- Storing: the digits that were taken off stand where they belong.

-- A store before a run of stores may come behind it.
sets-before : (s l : List ℕ) (i j x : ℕ) → i < j → sets (set l i x) j s ≡ set (sets l j s) i x
sets-before [] l i j x h = refl
sets-before (a ∷ s) l i j x h =
    rw (set_comm l i j x a (λ e. omega arith)) (sets-before s (set l j a) i (suc j) x (omega arith))

-- So two stores before a run make it longer.
sets-two : (s l : List ℕ) (i j x y : ℕ) → j ≡ suc (suc i) → sets (sets l j s) i (x ∷ y ∷ []) ≡ sets l i (x ∷ y ∷ s)
sets-two s l i j x y e =
    rw e
    (ap (λ (m : List ℕ). set m (suc i) y) (sym (sets-before s l i (suc (suc i)) x (omega arith)))
    ∙ sym (sets-before s (set l i x) (suc i) (suc (suc i)) y (omega arith)))

pub record Storing (out₀ : List ℕ) (at n : ℕ) (out : List ℕ) (rest end : ℕ) : Type 0 where
  pub taken : List ℕ
  pub left : Left n rest taken
  pub place : end + length taken ≡ at + length (decimal n)
  pub stored : out ≡ sets out₀ end taken

pub store-start : (out : List ℕ) (at n k : ℕ) → n < 18446744073709551616 → k ≡ length (decimal n) → Storing out at n out n (at + k)
store-start out at n k h e = record { taken = []; left = left-all n h; place = omega arith; stored = refl }

module _ {out₀ : List ℕ} {at n : ℕ} {out : List ℕ} {rest end : ℕ} (r : Storing out₀ at n out rest end) where
  pub store_long : length out ≡ length out₀
  store_long = rw r.stored (length-sets out₀ end r.taken)

  pub store-end : (at < end) × (end ≤ at + length (decimal n))
  store-end = let l = left-length r.left in (omega (arith, r.place), omega (arith, r.place))

  pub store-room : 100 ≤ rest → at + 2 < end
  store-room h = let l = left-length (left-two h r.left) in omega (arith, r.place)

  pub store-room-two : 10 ≤ rest → at + 1 < end
  store-room-two h = let l = left-length (left_step h r.left) in omega (arith, r.place)

  pub store-turn : 100 ≤ rest
      → Storing out₀ at n (sets out (end - 2) (digit (rest % 100 / 10) ∷ digit (rest % 100 % 10) ∷ [])) (rest / 100) (end - 2)
  store-turn h =
      let room : at + 2 < end = store-room h in
      record {
        taken = digit (rest % 100 / 10) ∷ digit (rest % 100 % 10) ∷ r.taken;
        left = left-two h r.left;
        place = omega (arith, r.place);
        stored =
            rw r.stored (sets-two r.taken out₀ (end - 2) end (digit (rest % 100 / 10)) (digit (rest % 100 % 10)) (omega arith));
      }

  pub store-one : rest < 10 → set out at (digit rest) ≡ sets out₀ at (decimal n)
  store-one h =
      let one : decimal n ≡ digit rest ∷ r.taken = left_one h r.left in
      let e : end ≡ suc at = omega (arith, r.place, ap length one) in
      rw (r.stored, one, e) (sym (sets-before r.taken out₀ at (suc at) (digit rest) (omega arith)))

  pub store_two : 10 ≤ rest → rest < 100
      → sets out at (digit (rest / 10) ∷ digit (rest % 10) ∷ []) ≡ sets out₀ at (decimal n)
  store_two l h =
      let two : decimal n ≡ digit (rest / 10) ∷ digit (rest % 10) ∷ r.taken =
      left_one {rest = rest / 10} (omega arith) (left_step l r.left)
      in
      let e : end ≡ suc (suc at) = omega (arith, r.place, ap length two) in
      rw (r.stored, two) (sets-two r.taken out₀ at end (digit (rest / 10)) (digit (rest % 10)) e)
