-- Rule 1.3: the laws of Elements hold of lists of numbers, and of lists of their bytes.
use Rattle.std.proofs.Common.{◌≡◌, ℕ, zero, suc, ◌*◌, ◌/◌, List, [], ◌∷◌, length, take, drop, refl, ap, arith}
use lib.Seq.{take-nil, drop-nil}
use Rattle.wire.specs.Tables.{pairs, words}
use Rattle.wire.specs.Elements.{ElementLaws, themselves}

double : (n : ℕ) → 2 * suc n ≡ suc (suc (2 * n))
double n = omega arith

-- Of bytes: how many numbers they hold, and those of a part.
pub length_pairs : (b : ℕ) (l : List ℕ) → length (pairs b l) ≡ length l / 2
length_pairs b [] = refl
length_pairs b (x ∷ []) = refl
length_pairs b (x ∷ y ∷ r) = omega (arith, length_pairs b r)

pub pairs-take : (b n : ℕ) (s : List ℕ) → pairs b (take (2 * n) s) ≡ take n (pairs b s)
pairs-take b zero s = refl
pairs-take b (suc n) [] = rw (double n)
pairs-take b (suc n) (x ∷ []) = rw (double n, take-nil)
pairs-take b (suc n) (x ∷ y ∷ s) = rw (double n, pairs-take b n s)

pub pairs-drop : (b n : ℕ) (s : List ℕ) → pairs b (drop (2 * n) s) ≡ drop n (pairs b s)
pairs-drop b zero s = refl
pairs-drop b (suc n) [] = rw (double n)
pairs-drop b (suc n) (x ∷ []) = rw (double n, drop-nil)
pairs-drop b (suc n) (x ∷ y ∷ s) = rw (double n, pairs-drop b n s)

pub number_laws : ElementLaws 1 themselves
number_laws =
    record {
      some = omega arith;
      few = omega arith;
      short = λ s. omega arith;
      long = λ s. omega arith;
      counted = λ s n e. omega (arith, e);
      taken = λ s n. let e : 1 * n ≡ n = omega arith in ap (λ (k : ℕ). take k s) e;
      dropped = λ s n. let e : 1 * n ≡ n = omega arith in ap (λ (k : ℕ). drop k s) e;
    }

pub byte_laws : ElementLaws 2 words
byte_laws =
    record {
      some = omega arith;
      few = omega arith;
      short = λ s. omega (arith, length_pairs 256 s);
      long = λ s. omega (arith, length_pairs 256 s);
      counted = λ s n e. omega (arith, e, length_pairs 256 s);
      taken = λ s n. pairs-take 256 n s;
      dropped = λ s n. pairs-drop 256 n s;
    }
