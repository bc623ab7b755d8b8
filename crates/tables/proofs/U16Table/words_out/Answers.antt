use Rattle.std.proofs.Common.{◌*◌, refl, sym, ◌∙◌, arith, length}
use Rattle.wire.specs.Tables.{bytes}
use Rattle.wire.proofs.Laws.{start, done}
use Rattle.wire.proofs.Copies.{sets-paste}
use Rattle.wire.proofs.Tables.{length-halves}
use Rattle.tables.proofs.Loops.{turn-word}
use Rattle.tables.proofs.U16Table.words_out.Goals as goal

pub loop-i-init : goal.loop-i-init
loop-i-init c = start c.args.dst.now c.args.at (bytes c.args.part.now) (2 * length c.args.part.now)

pub loop-i-preserved : goal.loop-i-preserved
loop-i-preserved c = rw c.put_word.ensures (turn-word c.args.part.now c.requires (omega arith) refl c.loop-i.invariant)

pub returns : goal.returns
returns c = let part = c.args.part.now in
    let long = length-halves 256 part in
    done (omega arith) c.loop-i.invariant ∙ sym (rw long at (sets-paste c.args.dst.now c.args.at (bytes part) (omega arith)))
