-- What names mean, by unfolding them; and when a command's refusals apply, from which number was
-- given.
use Prim.Native.Nat.{ℕ, ◌<◌}
use mathlib.Core.Path.{◌≡◌, refl}
use mathlib.Core.Logic.{◌⊎◌, ⊎_elim}
use mathlib.Core.List.{List}
use native.Mathlib.Omega.{arith}
use Rattle.opcode.proofs.Numbers.{CommandNumber}
use Rattle.opcode.proofs.Faults.{Located}
use Rattle.opcode.specs.Plain.{Pinned, CommandRefuses, not_carried, lacks-length, wrong_size, out_of_range, merges}

pub pinned : Pinned
pinned =
    record {
      bit-3 = λ h. refl;
      bit-4 = λ h. refl;
      bit-5 = λ h. refl;
      bit-6 = λ h. refl;
      bit-7 = λ h. refl;
      bits-0-2 = λ h. refl;
      bits-3-7 = λ h. refl;
      low_first = λ low high. refl;
    }

module _ {op o : ℕ} {d : List ℕ} {n place : ℕ} (c : CommandNumber op o d n) (l : Located op o d n place) where
  -- A number that is passed does not apply.
  pub command-passed : {k : ℕ} → (n ≡ 0) ⊎ (k < n) → CommandRefuses op o d k → ⊥
  command-passed p (not_carried h) = h (c.past-seven p)
  command-passed p (lacks-length h) = c.past-eight p h
  command-passed p (wrong_size h) = h (c.past-nine p)
  command-passed p (out_of_range f) =
      let w = l.within p f.field in ⊎_elim (λ a. omega arith) (λ a. omega arith) f.out
  command-passed p (merges h) = c.past-eleven p h
