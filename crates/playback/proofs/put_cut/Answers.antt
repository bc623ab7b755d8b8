use Rattle.playback.proofs.Lines.{put-behind}
use Rattle.playback.proofs.Closing.{one-cut}
use Rattle.playback.proofs.put_cut.Goals as goal

pub returns-clause-put : goal.returns-clause-put
returns-clause-put c = rw (one-cut c.args.number c.args.have c.if-have-eq0.false) (put-behind c.put_number.ensures.put c.put_text.ensures)
