use Rattle.std.proofs.Common.{sym, ◌∙◌, arith, length}
use Rattle.wire.specs.Tables.{words}
use Rattle.wire.proofs.Laws.{start, turn, done}
use Rattle.wire.proofs.Copies.{sets-paste}
use Rattle.tables.proofs.U16Table.words_in.Goals as goal

pub loop-i-init : goal.loop-i-init
loop-i-init c = start c.args.table.now c.args.at (words c.args.src.now) (length (words c.args.src.now))

pub loop-i-preserved : goal.loop-i-preserved
loop-i-preserved c = turn c.requires (omega arith) (omega arith) c.number.ensures c.loop-i.invariant

pub returns-clause-numbers : goal.returns-clause-numbers
returns-clause-numbers c = done (omega arith) c.loop-i.invariant ∙ sym (sets-paste c.args.table.now c.args.at (words c.args.src.now) c.requires)
