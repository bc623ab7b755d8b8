use Rattle.std.proofs.Common.{arith}
use Rattle.session_file.proofs.Steps.{preamble-step, spoiled-step}
use Rattle.session_file.proofs.next.Goals as goal

pub returns-in_default : goal.returns-in_default
returns-in_default c = spoiled-step c.requires.0 (rw c.in_default.is (omega arith)) c.requires.2 c.none_yet.ensures

pub returns-then-n-lt-PREAMBLE_SIZE : goal.returns-then-n-lt-PREAMBLE_SIZE
returns-then-n-lt-PREAMBLE_SIZE c =
    rw c.in-Matched.is (preamble-step c.requires.0 c.if-n-lt-PREAMBLE_SIZE.true c.requires.2 c.preamble_byte.ensures)

pub returns : goal.returns
returns c = rw c.in-Matched.is (spoiled-step c.requires.0 (omega arith) c.requires.2 c.none_yet-2.ensures)
