-- Status and pairs are packed side by side.
use Rattle.std.proofs.Common.{arith}
use Rattle.compressor.specs.Compressing.{compress_out}
use Rattle.compressor.specs.Refusals.{number_of as code}
use Rattle.vermolgas.proofs.Packs.{compress-packed}
use Rattle.vermolgas.proofs.vermolgas_compress.Goals as goal

pub returns-in-Ok : goal.returns-in-Ok
returns-in-Ok c =
    let args = c.args in
    compress-packed args.gains.now args.pairs.now _ (compress_out 0 c.in-Ok.count c.compress.new.pairs) (omega arith) (omega arith) c.in-Ok.ensures

pub returns-in-Err : goal.returns-in-Err
returns-in-Err c =
    let args = c.args in
    compress-packed args.gains.now args.pairs.now _ (compress_out (code c.in-Err.why) 0 c.compress.new.pairs) (omega (arith, c.number.ensures)) (omega (arith, c.number.ensures)) c.in-Err.ensures
