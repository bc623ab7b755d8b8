-- So many of the numbers stand there.
use Rattle.std.proofs.Common.{length}
use Rattle.wire.specs.Tables.{words}
use Rattle.wire.proofs.Laws.{Copying}
use Rattle.tables.proofs.U16Table.words_in.Given as goal

abbrev pub invariant-loop-i : goal.invariant-loop-i
invariant-loop-i l = Copying l.initial.table l.at (words l.src) (length (words l.src)) l.table l.i
