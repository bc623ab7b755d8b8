-- What `contains` answers of a number at a range that has its ends, as a field's test.
use Prim.Native.Nat.{ℕ}
use mathlib.Core.Path.{◌≡◌}
use mathlib.Core.Bool.{false, and-true, and-false}
use native.Mathlib.Decide.{dec_lt, ℕ_discrete}
use native.Mathlib.Omega.{arith}
use borrow.Author.Tests.{le-leb, lt-leb, lt-ltb, le-ltb, eq-eqb, ne_eqb}
use lib.Dec.{leb}
use Rattle.std.proofs.Common.{Some}
use Rattle.std.specs.Ordering.{nat_cmp, is_le}
use Rattle.std.specs.Range.{range_inclusive_contains, range_inclusive_start, range_inclusive_end, range_inclusive_exhausted}
use Rattle.std.specs.declared.ops.RangeInclusive.{RangeInclusive}
use Rattle.opcode.specs.Fields.{from_to, takes}

at-most : (a b : ℕ) → is_le (nat_cmp a b) ≡ leb a b
at-most a b =
    elim (dec_lt a b) [
      | yes l ↦ rw (lt-ltb a b l, le-leb a b (omega arith))
      | no l ↦
          elim (ℕ_discrete a b) [
            | yes e ↦ rw (le-ltb a b (omega arith), eq-eqb a b e, le-leb a b (omega arith))
            | no e ↦ rw (le-ltb a b (omega arith), ne_eqb a b e, lt-leb a b (omega arith))
          ]
    ]

pub contained : (size low high v : ℕ) (s : RangeInclusive ℕ) → range_inclusive_start s ≡ low → range_inclusive_end s ≡ high
    → range_inclusive_exhausted s ≡ false → range_inclusive_contains (λ x y. Some (nat_cmp x y)) s v ≡ takes (from_to size low high) v
contained size low high v s e f g = rw (g, e, f, at-most low v, at-most v high, le-ltb v 0 (omega arith), and-false, and-true)
