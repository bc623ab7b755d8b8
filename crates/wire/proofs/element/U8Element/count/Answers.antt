use Rattle.std.proofs.Common.{sym}
use Rattle.wire.proofs.Tables.{length_pairs}
use Rattle.wire.proofs.element.U8Element.count.Goals as goal

pub returns : goal.returns
returns c = sym (length_pairs 256 c.args.list.now)
