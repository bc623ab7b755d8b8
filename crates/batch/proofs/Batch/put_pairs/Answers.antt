-- Head, flag and colour, count, start and words are the packet.
use Rattle.batch.proofs.Writing.{pairs-put}
use Rattle.batch.proofs.Batch.put_pairs.Goals as goal

pub returns : goal.returns
returns g c =
    let args = c.args in
    rw (c.words.ensures, c.word-3.ensures, c.word-2.ensures, c.word.ensures, c.head.ensures, c.count-n.ensures)
    (pairs-put args.self.now args.colour args.start (g.T.Element.numbers args.words.now) c.requires.2)
