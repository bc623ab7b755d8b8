-- Rule 11.1: one bit of a number, 0 or 1.
use Rattle.std.specs.Prelude.{ℕ, ◌/◌, ◌%◌, ◌^◌, ◌≡◌}
use Rattle.row_mark.specs.Bits.{bit_at}

pub record Pinned : Type 0 where
  pub bit : (n r : ℕ) → bit_at n r ≡ n / 2 ^ r % 2
