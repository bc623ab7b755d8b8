-- The bytes of so many of the numbers stand there.
use Rattle.std.proofs.Common.{◌*◌, length}
use Rattle.wire.specs.Tables.{bytes}
use Rattle.wire.proofs.Laws.{Copying}
use Rattle.tables.proofs.U16Table.words_out.Given as goal

abbrev pub invariant-loop-i : goal.invariant-loop-i
invariant-loop-i l = Copying l.initial.dst l.at (bytes l.part) (2 * length l.part) l.dst (2 * l.i)
