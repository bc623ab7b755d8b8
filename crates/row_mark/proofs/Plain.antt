-- What names mean, by unfolding them; and that a number of so many bits is determined by them.
use Prim.Native.Nat.{ℕ, ◌^◌, ◌<◌}
use mathlib.Core.Path.{◌≡◌, refl, sym, ap, ◌∙◌}
use mathlib.Core.Bool.{Bool, true, false}
use mathlib.Core.List.{List, [], ◌∷◌}
use native.Mathlib.Omega.{arith}
use native.Mathlib.Nat.{pow-suc}
use lib.ListN.{length}
use lib.Dec.{eqb}
use lib.Seq.{ext_get_or}
use Rattle.row_mark.specs.Bits.{bits_of, of_bits, bit_at}
use Rattle.row_mark.specs.Plain.{Pinned}
use Rattle.row_mark.proofs.Bits.{length-bits, bit-at, number-back}

pub pinned : Pinned
pinned = record { bit = λ n r. refl }

pub same_bits : (k m n : ℕ) → m < 2 ^ k → n < 2 ^ k → ((r : ℕ) → r < k → bit_at m r ≡ bit_at n r) → m ≡ n
same_bits k m n hm hn same = sym (number-back k m hm) ∙ ap of_bits alike ∙ number-back k n hn
  where
    alike : bits_of k m ≡ bits_of k n
    alike =
        ext_get_or false (bits_of k m) (bits_of k n) (length-bits k m ∙ sym (length-bits k n))
        (λ r h.
        let few : r < k = omega (arith, length-bits k m) in
        bit-at k m r few ∙ ap (λ (b : ℕ). eqb b 1) (same r few) ∙ sym (bit-at k n r few))

-- Bits make a number below two to the power of their count.
pub of-bits-small : (bs : List Bool) → of_bits bs < 2 ^ length bs
unfolding of_bits
of-bits-small [] = omega arith
of-bits-small (true ∷ bs) = rw pow-suc (omega (arith, of-bits-small bs))
of-bits-small (false ∷ bs) = rw pow-suc (omega (arith, of-bits-small bs))
