-- A refusal changes nothing; else the pairs are written. The law on the outcome makes the promise of
-- each.
use Rattle.std.proofs.Common.{rules, ◌≡◌, Err, arith}
use Rattle.compressor.proofs.Outcome.{refused, fitting, done}
use Rattle.compressor.proofs.numbers.compress.Goals as goal

pub returns-in_err-judge : goal.returns-in_err-judge
returns-in_err-judge c =
    let same : c.from_residual.result ≡ Err c.in_err-judge.field-0.0 = search rules in
    rw same (refused c.args.gains.now c.args.pairs.now c.in_err-judge.field-0.0 c.in_err-judge.ensures)

pub write-requires : goal.write-requires
write-requires c =
    let fits = fitting c.args.gains.now c.args.pairs.now c.in_ok-judge.ensures in
    (omega (arith, fits.0.few), omega (arith, fits.0.few, fits.1))

pub returns : goal.returns
returns c = done c.args.gains.now c.args.pairs.now c.in_ok-judge.ensures c.write.ensures
