-- Each refusal is the first in the list whose test holds.
use Prim.Native.Nat.{◌+◌}
use mathlib.Core.Path.{◌≡◌}
use mathlib.Core.Bool.{false}
use borrow.Author.Tests.{lt-ltb}
use lib.Dec.{ltb}
use lib.ListN.{length}
use native.Mathlib.Omega.{arith}
use Rattle.reply.specs.Reading.{checksum_size, reply_reading}
use Rattle.reply.proofs.Promises.{reply_promised}
use Rattle.reply.proofs.read_reply.Goals as goal

pub returns-then-n-extra : goal.returns-then-n-extra
unfolding reply_reading
returns-then-n-extra c = reply_promised _ _ (grind arith)

pub returns-then-n-gt-LONGEST : goal.returns-then-n-gt-LONGEST
unfolding reply_reading
returns-then-n-gt-LONGEST c =
    let head : ltb (length c.args.reply.now) (3 + checksum_size c.args.checksum) ≡ false = grind arith in
    reply_promised _ _ (simp (head, lt-ltb _ _ c.if-n-gt-LONGEST.true))

pub returns-then-word-size : goal.returns-then-word-size
unfolding reply_reading
returns-then-word-size c = reply_promised _ _ (grind arith)

pub returns-then-checksum_wrong : goal.returns-then-checksum_wrong
unfolding reply_reading
returns-then-checksum_wrong c = reply_promised _ _ (grind arith)

pub returns-then-status-gt12 : goal.returns-then-status-gt12
unfolding reply_reading
returns-then-status-gt12 c = reply_promised _ _ (grind arith)
