-- The language's counts of the mark's bits.
use Rattle.std.proofs.Common.{rules}
use borrow.Author.Tests.{eq-eqb, ne_eqb}
use Rattle.row_mark.proofs.Bits.{first-or}
use Rattle.front_end.specs.Mark.{mark_at, rows_told}
use Rattle.front_end.proofs.Fresh.{mark-small, rows-promised, rows-refused, rows-answered}
use Rattle.front_end.proofs.mark.rows.Goals as goal

pub returns-then-block-ne-BLOCK_SIZE : goal.returns-then-block-ne-BLOCK_SIZE
unfolding rows_told
returns-then-block-ne-BLOCK_SIZE c = record {
  promised = rows-promised c.args.block.now (mark-small c.args.block.now (λ k. (c.type_inv.block k).fits)) _ _ _ (rw (ne_eqb _ _ c.if-block-ne-BLOCK_SIZE.true));
  plain = rows-refused c.args.block.now c.if-block-ne-BLOCK_SIZE.true;
  lowest = search rules;
}

pub returns : goal.returns
unfolding rows_told
returns c = let block = c.args.block.now in
    record {
      promised = rows-promised block (mark-small block (λ k. (c.type_inv.block k).fits)) _ _ _
          (rw (eq-eqb _ _ c.if-block-ne-BLOCK_SIZE.false, c.lowest.ensures, c.count.ensures, c.read-mark.ensures, first-or 32 (mark_at block)));
      plain = rows-answered block (mark-small block (λ k. (c.type_inv.block k).fits)) c.if-block-ne-BLOCK_SIZE.false
          (rw c.read-mark.ensures at c.count.ensures) (rw c.read-mark.ensures at c.lowest.ensures);
      lowest = rw c.read-mark.ensures at c.lowest.ensures;
    }
