-- The first i numbers are stored.
use lib.Seq.{length-sets}
use Rattle.settings.proofs.Resets.{count_turn}
use Rattle.settings.proofs.store_counting.Goals as goal

pub loop-i-preserved : goal.loop-i-preserved
loop-i-preserved c = let stored = c.put_word.ensures in
    let args = c.args in
    let inv = c.loop-i.invariant in
    (rw (stored, inv.0) (count_turn args.block.now args.place c.loop-i.i), rw (stored, length-sets) inv.1)
