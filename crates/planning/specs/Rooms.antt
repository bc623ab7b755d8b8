-- Rule 1.3: what holds of a working room of 32-bit numbers, whatever it is made of.
use Rattle.std.proofs.Common.{ℕ, ◌*◌, ◌/◌, ◌≤◌, ◌≡◌, List, length, arith}
use Rattle.wire.specs.Tables.{longs}
use Rattle.wire.specs.Elements.{themselves}
use Rattle.wire.specs.ElementsHeld.{length_pairs}

-- So many elements stand for a number.
pub record RoomLaws {T : Type 0} (width : ℕ) (numbers : List T → List ℕ) : Type 0 where
  pub few : width ≤ 4
  pub counted : (s : List T) (n : ℕ) → length s ≡ width * n → length (numbers s) ≡ n

pub long_laws : RoomLaws 1 themselves
long_laws = record { few = omega arith; counted = λ s n e. omega (arith, e) }

pub length-longs : (s : List ℕ) → length (longs s) ≡ length s / 4
length-longs s = rw (length_pairs, length_pairs) (omega arith)

pub byte_laws : RoomLaws 4 longs
byte_laws = record { few = omega arith; counted = λ s n e. omega (arith, e, length-longs s) }
