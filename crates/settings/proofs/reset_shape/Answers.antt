-- The five runs of stores are those of the law.
use Rattle.settings.proofs.Resets.{shape-over}
use Rattle.settings.proofs.reset_shape.Goals as goal

pub returns : goal.returns
returns c = let args = c.args in
    shape-over args.block.now args.shape c.put_byte.ensures c.put_word.ensures c.put_word-2.ensures
    c.store_counting.ensures c.store_counting-2.ensures
