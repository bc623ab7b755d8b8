-- The language's count of zeros below the lowest set bit.
use native.Mathlib.Omega.{arith}
use borrow.Author.Tests.{lt-ltb}
use Rattle.row_mark.specs.Bits.{bits_of, first_true}
use Rattle.row_mark.proofs.Bits.{first-set, first-inside, length-bits}
use Rattle.row_mark.proofs.lowest.Goals as goal

pub returns-then-mark-eq0 : goal.returns-then-mark-eq0
unfolding bits_of first_true
returns-then-mark-eq0 c = rw c.if-mark-eq0.true

pub returns-else-mark-eq0 : goal.returns-else-mark-eq0
returns-else-mark-eq0 c =
    let mark = c.args.mark in
    rw (first-set 32 mark, length-bits 32 mark, lt-ltb (first_true (bits_of 32 mark)) 32 (first-inside 32 mark (omega arith) (omega arith)))
