-- Each return is the first refusal that applies, or what was written.
use Rattle.std.proofs.Common.{rules, ◌≡◌, sym, Err}
use Rattle.splitter.proofs.Outcome.{refuses, fit, splits}
use Rattle.splitter.proofs.numbers.split.Goals as goal

pub returns-in_err-judge : goal.returns-in_err-judge
returns-in_err-judge c =
    let args = c.args in
    let same : c.from_residual.result ≡ Err c.in_err-judge.field-0.0 = search rules in
    rw same ((refuses 2 args.colour args.start args.pairs.now args.pairs.now args.batch.now c.in_err-judge.field-0.0 c.in_err-judge.ensures))

pub write-requires : goal.write-requires
write-requires c =
    let args = c.args in
    let all = fit 2 args.colour args.start args.pairs.now args.pairs.now args.batch.now (sym c.in_ok-judge.ensures) in
    (all.1, all.2)

pub returns : goal.returns
returns c =
    let args = c.args in
    (splits 2 args.colour args.start args.pairs.now args.pairs.now args.batch.now (sym c.in_ok-judge.ensures) c.write.ensures)
