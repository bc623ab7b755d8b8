-- The loop keeps what the bytes passed weigh; a turn weighs one more.
use native.Mathlib.Omega.{arith}
use lib.ListN.{take}
use Rattle.wire.proofs.Sums.{checksum-agrees, weighing-start, weighing-turn, weighing-done}
use Rattle.wire.proofs.checksum.Goals as goal

pub loop-i-init : goal.loop-i-init
loop-i-init c = weighing-start c.args.s.now c.args.n _ (omega arith)

pub loop-i-preserved : goal.loop-i-preserved
loop-i-preserved c = weighing-turn c.requires (omega arith) c.loop-i.invariant

pub returns : goal.returns
returns c = let bytes = c.args in
    (weighing-done c.requires (omega arith) c.loop-i.invariant, c.loop-i.invariant.small, checksum-agrees (take bytes.n bytes.s.now))
