-- Rising lists, taken from the front one number at a time, joined to what came before: one more, and the end.
use Prim.Native.Nat.{ℕ, suc, ◌+◌, ◌-◌, ◌≤◌, ◌<◌}
use mathlib.Core.Path.{◌≡◌, refl, sym}
use mathlib.Core.Bool.{Bool, true, false, cond, ◌&&◌, and-true, and_assoc}
use mathlib.Core.List.{List}
use native.Mathlib.Omega.{arith}
use borrow.Author.Tests.{ne_eqb}
use lib.Dec.{eqb, ltb, eqb-suc-suc}
use Rattle.wire.specs.Numbers.{word_at}
use Rattle.opcode.specs.Fields.{words_at, rise_from, rise}
use Rattle.settings.specs.Ranges.{rising}

-- No number is at fault exactly if the second is above the first and none is from there on.
above : (t : Bool) (k n : ℕ) → eqb (suc (cond t (suc k) 0)) (suc (suc n)) ≡ (t && eqb (suc k) (suc n))
above true k n = eqb-suc-suc (suc k) (suc n)
above false k n = ne_eqb 1 (suc (suc n)) (λ e. omega arith)

next : (d : List ℕ) (at n : ℕ) → rising d at (suc (suc n)) ≡ (ltb (word_at d at) (word_at d (at + 2)) && rising d (at + 2) (suc n))
unfolding words_at rise_from rise
next d at n =
    above (ltb (word_at d at) (word_at d (at + 2))) (rise_from (word_at d (at + 2)) (words_at d (at + 2 + 2) n)) n

one : (d : List ℕ) (at : ℕ) → rising d at 1 ≡ true
unfolding words_at rise_from rise
one d at = refl

module _ (d : List ℕ) (fine : Bool) (i n at : ℕ) where
  pub rising-turn : i + 1 < n
      → (fine && rising d at (n - i)) ≡ (fine && ltb (word_at d at) (word_at d (at + 2)) && rising d (at + 2) (n - (i + 1)))
  rising-turn h =
      let left : n - i ≡ suc (suc (n - (i + 2))) = omega arith in
      let rest : n - (i + 1) ≡ suc (n - (i + 2)) = omega arith in
      rw (left, rest, next d at (n - (i + 2)))
      (sym (and_assoc fine (ltb (word_at d at) (word_at d (at + 2))) (rising d (at + 2) (suc (n - (i + 2))))))

  pub rising-done : i < n → n ≤ i + 1 → (fine && rising d at (n - i)) ≡ fine
  rising-done some h = let left : n - i ≡ 1 = omega arith in rw (left, one d at, and-true)
