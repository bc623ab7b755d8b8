-- A refusal changes nothing; else the pairs are written. The law on the outcome makes the promise of
-- each.
use Rattle.std.proofs.Common.{rules, ◌≡◌, ◌∙◌, sym, Err, arith, take}
use lib.Seq.{length-take-le}
use Rattle.wire.proofs.Tables.{length_pairs}
use Rattle.compressor.proofs.Outcome.{refused-bytes, fit-bytes, written, done-bytes}
use Rattle.compressor.proofs.bytes.compress.Goals.{After-judge}
use Rattle.compressor.proofs.bytes.compress.Goals as goal

pub returns-in_err-judge : goal.returns-in_err-judge
returns-in_err-judge c =
    let same : c.from_residual.result ≡ Err c.in_err-judge.field-0.0 = search rules in
    rw same (refused-bytes c.args.gains.now c.args.pairs.now c.in_err-judge.field-0.0 c.in_err-judge.ensures)

pub slice_bounds-write-end-2 : goal.slice_bounds-write-end-2
slice_bounds-write-end-2 c =
    sym (length-take-le 8064 c.args.pairs.now (fit-bytes c.args.gains.now c.args.pairs.now (sym c.in_ok-judge.ensures)).1)

pub write-requires : goal.write-requires
write-requires c =
    let fits = fit-bytes c.args.gains.now c.args.pairs.now (sym c.in_ok-judge.ensures) in
    let wide = length-take-le 8064 c.args.pairs.now fits.1 in
    (omega (arith, fits.0.numbers.few), omega (arith, fits.0.numbers.few, wide, length_pairs 256 (take 8064 c.args.pairs.now)))

pub returns : goal.returns
returns c =
    let args = c.args in
    let fits = fit-bytes args.gains.now args.pairs.now (sym c.in_ok-judge.ensures) in
    let kept = c.write.auto.pairs ∙ length-take-le 8064 args.pairs.now fits.1 in
    done-bytes args.gains.now args.pairs.now c.in_ok-judge.ensures
    (written args.gains.now args.pairs.now fits.1 (λ k. ((goal.at.returns c).After-judge.type_inv.pairs k).fits) c.write.new.pairs kept
    (λ k. (c.type_inv.pairs k).fits) c.write.ensures)
