use Rattle.std.proofs.Common.{◌*◌, ◌∙◌, ap, arith}
use Rattle.wire.proofs.Tables.{pairs_set}
use Rattle.wire.specs.Tables.{words}
use Rattle.wire.specs.Numbers.{word_bytes}
use Rattle.tables.proofs.Bytes.{both-bytes}
use Rattle.tables.proofs.Behind.{stored-behind}
use Rattle.tables.proofs.U8Table.put.Goals as goal

pub overflow_mul-i : goal.overflow_mul-i
overflow_mul-i c = omega (arith, both-bytes c.args.table.now c.args.i c.requires)

pub put_word-requires : goal.put_word-requires
put_word-requires c = (both-bytes c.args.table.now c.args.i c.requires, omega arith)

pub returns-clause-numbers : goal.returns-clause-numbers
returns-clause-numbers c = ap words c.put_word.ensures ∙ pairs_set 256 c.args.table.now c.args.i c.args.v

pub returns-clause-behind : goal.returns-clause-behind
returns-clause-behind c = let args = c.args in
    rw c.put_word.ensures
    (stored-behind args.table.now (2 * args.i) (word_bytes args.v) (omega arith))
