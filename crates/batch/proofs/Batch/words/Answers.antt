-- A number has two bytes.
use Rattle.std.proofs.Common.{arith, ◌≡◌, ◌+◌, ◌*◌, length}
use Rattle.wire.specs.Tables.{bytes}
use Rattle.wire.proofs.Tables.{length-halves}
use Rattle.batch.proofs.Batch.words.Goals as goal

pub returns : goal.returns
returns g c =
    let numbers = g.T.Element.numbers c.args.list.now in
    let filled = c.args.self.now.filled in
    let next : filled + 2 * c.count.result ≡ filled + length (bytes numbers) =
    omega (arith, c.count.ensures, length-halves 256 numbers) in
    rw (c.words_out.ensures, next)
