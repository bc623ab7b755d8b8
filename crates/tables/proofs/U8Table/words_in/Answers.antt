use Rattle.std.proofs.Common.{◌*◌, ◌∙◌, ap, sym, arith}
use Rattle.wire.specs.Tables.{words}
use Rattle.wire.proofs.Copies.{sets-paste}
use Rattle.tables.proofs.Bytes.{length-words, words-paste}
use Rattle.tables.proofs.Behind.{copied-behind}
use Rattle.tables.proofs.U8Table.words_in.Goals as goal

pub overflow_mul-at : goal.overflow_mul-at
overflow_mul-at c = omega (arith, length-words c.args.table.now)

pub overflow_mul-count : goal.overflow_mul-count
overflow_mul-count c = omega (arith, length-words c.args.src.now)

pub copy-requires : goal.copy-requires
copy-requires c = (omega (arith, length-words c.args.table.now, length-words c.args.src.now), omega (arith, length-words c.args.src.now))

pub returns-clause-numbers : goal.returns-clause-numbers
returns-clause-numbers c = let args = c.args in
    let table = length-words args.table.now in
    let src = length-words args.src.now in
    ap words c.copy.ensures ∙ words-paste args.table.now args.at args.src.now c.count.result (omega arith) (omega arith)
    ∙ sym (rw (sym c.count.ensures) at (sets-paste (words args.table.now) args.at (words args.src.now) c.requires))

pub returns-clause-behind : goal.returns-clause-behind
returns-clause-behind c = let args = c.args in
    let table = length-words args.table.now in
    let src = length-words args.src.now in
    let n = 2 * c.count.result in
    rw c.copy.ensures
    (copied-behind args.table.now (2 * args.at) args.src.now n (omega arith) (omega arith))
