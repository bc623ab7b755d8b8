-- Each return is the first refusal that applies, or what was written.
use Rattle.std.proofs.Common.{rules, ◌≡◌, sym, Err}
use Rattle.wire.specs.Tables.{words}
use Rattle.splitter.proofs.Outcome.{refuses, fit, splits, on-bytes}
use Rattle.splitter.proofs.bytes.split.Goals as goal

pub returns-in_err-judge : goal.returns-in_err-judge
returns-in_err-judge c =
    let args = c.args in
    let same : c.from_residual.result ≡ Err c.in_err-judge.field-0.0 = search rules in
    rw same (on-bytes _ _ _ _ (refuses 4 args.colour args.start args.pairs.now (words args.pairs.now) args.batch.now c.in_err-judge.field-0.0 c.in_err-judge.ensures))

pub write-requires : goal.write-requires
write-requires c =
    let args = c.args in
    let all = fit 4 args.colour args.start args.pairs.now (words args.pairs.now) args.batch.now (sym c.in_ok-judge.ensures) in
    (all.1, all.2)

pub returns : goal.returns
returns c =
    let args = c.args in
    on-bytes _ _ _ _ (splits 4 args.colour args.start args.pairs.now (words args.pairs.now) args.batch.now (sym c.in_ok-judge.ensures) c.write.ensures)
