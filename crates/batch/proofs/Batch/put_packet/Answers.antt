-- Head, start and points are the packet.
use Rattle.batch.proofs.Writing.{packet-put}
use Rattle.batch.proofs.Batch.put_packet.Goals as goal

pub returns : goal.returns
returns g c =
    let args = c.args in
    rw (c.words.ensures, c.part.ensures, c.word.ensures, c.head.ensures)
    (packet-put args.self.now (g.T.Element.numbers args.wanted.now) args.start args.count c.requires)
