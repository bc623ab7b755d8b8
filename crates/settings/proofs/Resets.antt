-- What reset stores comes to the block as it is defined: the first run leaves zeros, whatever stood there, and the rest is computed. A shape
-- and its lists are stored number by number.
use Prim.Native.Nat.{ℕ, zero, suc, ◌+◌, ◌*◌}
use mathlib.Core.Path.{◌≡◌, refl, ap, ◌∙◌}
use mathlib.Core.List.{List, [], ◌∷◌, ◌++◌}
use native.Mathlib.Numerals.{add-one}
use native.Mathlib.Omega.{arith}
use lib.ListN.{length, take, drop, replicate}
use borrow.Rule.Slice.PartMut.{put_mid}
use lib.Seq.{sets}
use Rattle.wire.specs.Numbers.{word_bytes}
use Rattle.wire.specs.Tables.{bytes}
use Rattle.wire.proofs.Laws.{sets-append}
use Rattle.wire.proofs.Tables.{length-halves, halves-append}
use Rattle.settings.specs.Reset.{count_up, reset_shape, reset_block}
use Rattle.settings.specs.Internal.{spread_over}
use Rattle.settings.specs.Layout.{block_size, live_shape, pwm_place, smooth_table, staged_shape}

-- One number more.
length-counted : (i n : ℕ) → length (count_up i n) ≡ n
length-counted i zero = refl
length-counted i (suc n) = omega (arith, length-counted (suc i) n)

counted : (i n m : ℕ) → m ≡ i + n → count_up i (suc n) ≡ count_up i n ++ (m ∷ [])
counted i zero m e = let same : m ≡ i = omega arith in rw same
counted i (suc n) m e = rw (counted (suc i) n m (omega arith))

more : (i : ℕ) → bytes (count_up 0 (i + 1)) ≡ bytes (count_up 0 i) ++ word_bytes i
more i = rw (add-one i) (ap bytes (counted 0 i i (omega arith)) ∙ halves-append 256 (count_up 0 i) (i ∷ []))

pub count_turn : (d : List ℕ) (place i : ℕ)
    → sets (sets d place (bytes (count_up 0 i))) (place + 2 * i) (word_bytes i) ≡ sets d place (bytes (count_up 0 (i + 1)))
count_turn d place i =
    let long : 2 * i ≡ length (bytes (count_up 0 i)) = omega (arith, length-halves 256 (count_up 0 i), length-counted 0 i) in
    rw (more i, long) (sets-append d place (bytes (count_up 0 i)) (word_bytes i))

-- A run behind another.
behind : (d b b' : List ℕ) (at p : ℕ) (s t : List ℕ) → b ≡ sets d at s → b' ≡ sets b p t → p ≡ at + length s → b' ≡ sets d at (s ++ t)
behind d b b' at p s t h h' e = h' ∙ rw (h, e) (sets-append d at s t)

module _ (d : List ℕ) (at : ℕ) {b₁ b₂ b₃ b₄ b₅ : List ℕ} where
  pub shape-over : b₁ ≡ sets d at (0 ∷ []) → b₂ ≡ sets b₁ (at + 1) (word_bytes 62) → b₃ ≡ sets b₂ (at + 3) (word_bytes 32)
      → b₄ ≡ sets b₃ (at + 5) (bytes (count_up 0 62)) → b₅ ≡ sets b₄ (at + 129) (bytes (count_up 0 32)) → b₅ ≡ sets d at reset_shape
  unfolding reset_shape
  shape-over h₁ h₂ h₃ h₄ h₅ =
      let head = (0 ∷ []) ++ word_bytes 62 ++ word_bytes 32 in
      let e₂ = behind d b₁ b₂ at (at + 1) (0 ∷ []) (word_bytes 62) h₁ h₂ refl in
      let e₃ = behind d b₂ b₃ at (at + 3) ((0 ∷ []) ++ word_bytes 62) (word_bytes 32) e₂ h₃ refl in
      let e₄ = behind d b₃ b₄ at (at + 5) head (bytes (count_up 0 62)) e₃ h₄ refl in
      behind d b₄ b₅ at (at + 129) (head ++ bytes (count_up 0 62)) (bytes (count_up 0 32)) e₄ h₅ refl

-- What reset stores, of a block of zeros.
pub over_zeros : spread_over
    (put_mid smooth_table 2 (sets (sets (replicate block_size 0) staged_shape reset_shape) live_shape reset_shape)
    (replicate (length (take 2 (drop smooth_table (sets (sets (replicate block_size 0) staged_shape reset_shape) live_shape reset_shape)))) 3))
    pwm_place 6 20 12
    ≡ reset_block
unfolding spread_over reset_shape reset_block
over_zeros = refl
