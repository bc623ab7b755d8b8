-- Status, packets and bytes are packed side by side.
use Rattle.std.proofs.Common.{arith}
use Rattle.splitter.specs.Splitting.{split_out}
use Rattle.splitter.specs.Refusals.{number_of as code}
use Rattle.vermolgas.proofs.Packs.{split-packed}
use Rattle.vermolgas.proofs.vermolgas_split.Goals as goal

pub returns-in-Ok : goal.returns-in-Ok
returns-in-Ok c =
    let args = c.args in
    let sent = c.in-Ok.sent in
    split-packed args.colour args.start args.pairs.now args.batch.now _ (split_out 0 sent.packets sent.bytes c.split.new.batch) (omega arith) (omega arith) c.in-Ok.ensures

pub returns-in-Err : goal.returns-in-Err
returns-in-Err c =
    let args = c.args in
    split-packed args.colour args.start args.pairs.now args.batch.now _ (split_out (code c.in-Err.why) 0 0 c.split.new.batch) (omega (arith, c.number.ensures)) (omega (arith, c.number.ensures)) c.in-Err.ensures
