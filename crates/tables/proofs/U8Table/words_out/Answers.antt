use Rattle.std.proofs.Common.{◌*◌, ◌∙◌, refl, ap, sym, arith, take, length}
use lib.Seq.{sets, length-take-le, take_all}
use Rattle.wire.specs.Tables.{words}
use Rattle.wire.proofs.Copies.{sets-paste}
use Rattle.tables.proofs.Bytes.{length-words, bytes-words-first}
use Rattle.tables.proofs.U8Table.words_out.Goals as goal

pub copy-requires : goal.copy-requires
copy-requires c = omega (arith, length-words c.args.part.now)

pub returns : goal.returns
returns c = let args = c.args in
    let part = args.part.now in
    let size = length-words part in
    let n = 2 * length (words part) in
    let long = length-take-le n part (omega arith) in
    rw c.count.ensures at c.copy.ensures
    ∙ sym (ap (sets args.dst.now args.at) (bytes-words-first part (λ k. omega (arith, c.type_inv.part k))) ∙ sets-paste args.dst.now args.at (take n part) (omega arith) ∙ rw (long, take_all n (take n part) (omega arith)) refl)
