-- What reply reading gives is no longer than a reply may be.
use Prim.Native.Nat.{ℕ, ◌≤◌}
use mathlib.Core.Path.{◌≡◌, refl}
use mathlib.Core.Bool.{Bool, true, false, cond}
use mathlib.Core.List.{List}
use native.Mathlib.Omega.{arith}
use borrow.Author.Tests.{ltb-false, eqb-true}
use lib.ListN.{length}
use lib.Dec.{ltb, eqb}
use Rattle.wire.specs.First.{first}
use Rattle.reply.specs.Reading.{reply_refusals, reply_answered, reply_reading}

-- The second test of a list that gives 0 is false.
second : (a b : Bool) (k : ℕ) → cond a 2 (cond b 3 k) ≡ 0 → b ≡ false
second true b k e = absurd (omega arith)
second false true k e = absurd (omega arith)
second false false k e = refl

pub reply-within : (r : List ℕ) (sum : Bool) → (reply_reading r sum).size ≤ 512
unfolding reply_reading
reply-within r sum = go (first (reply_refusals r sum)) short (eqb (first (reply_refusals r sum)) 0) refl
  where
    short : first (reply_refusals r sum) ≡ 0 → length r ≤ 512
    short e = ltb-false _ _ (second (ltb (length r) _) (ltb 512 (length r)) _ e)

    go : (n : ℕ) → (n ≡ 0 → length r ≤ 512) → (b : Bool) → eqb n 0 ≡ b → (reply_answered n r sum).size ≤ 512
    go n s true e = let z = s (eqb-true n 0 e) in rw e (omega arith)
    go n s false e = rw e (omega arith)
