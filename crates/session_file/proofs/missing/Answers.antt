use Rattle.std.proofs.Common.{refl, arith}
use borrow.Author.Tests.{lt-ltb, le-ltb, le-leb, lt-leb}
use Rattle.session_file.specs.Windows.{lacking}
use Rattle.session_file.proofs.missing.Goals as goal

pub returns-then-have-lt-LENGTH_SIZE : goal.returns-then-have-lt-LENGTH_SIZE
unfolding lacking
returns-then-have-lt-LENGTH_SIZE c = (rw (lt-ltb _ _ c.if-have-lt-LENGTH_SIZE.true) refl, omega arith, omega arith)

pub returns-then-size-have : goal.returns-then-size-have
unfolding lacking
returns-then-size-have c =
    (rw (le-ltb _ _ c.if-have-lt-LENGTH_SIZE.false, ← c.word-size.ensures.0, le-leb _ _ c.if-size-have.true) refl, omega arith, omega arith)

pub returns : goal.returns
unfolding lacking
returns c = (
  rw (le-ltb _ _ c.if-have-lt-LENGTH_SIZE.false, ← c.word-size.ensures.0, lt-leb _ _ c.if-size-have.false) refl,
  omega arith,
  omega arith,
)
