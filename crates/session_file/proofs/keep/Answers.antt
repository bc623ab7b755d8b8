use Rattle.std.proofs.Common.{refl, arith}
use borrow.Author.Tests.{lt-ltb, le-ltb}
use Rattle.session_file.specs.Windows.{kept_after}
use Rattle.session_file.proofs.Kept.{kept-paste}
use Rattle.session_file.proofs.keep.Goals as goal

pub returns-then-have-lt-KEPT_SIZE : goal.returns-then-have-lt-KEPT_SIZE
unfolding kept_after
returns-then-have-lt-KEPT_SIZE c =
    rw (lt-ltb c.args.have 515 c.if-have-lt-KEPT_SIZE.true, ← c.min-n.ensures)
    (kept-paste _ _ _ _ _ _ c.copy_from_slice.ensures.after (omega arith) (omega arith))

pub returns-else-have-lt-KEPT_SIZE : goal.returns-else-have-lt-KEPT_SIZE
unfolding kept_after
returns-else-have-lt-KEPT_SIZE c = rw (le-ltb c.args.have 515 c.if-have-lt-KEPT_SIZE.false) refl
