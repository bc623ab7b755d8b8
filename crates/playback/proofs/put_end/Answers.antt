use Rattle.playback.proofs.Lines.{put-behind}
use Rattle.playback.proofs.put_end.Goals as goal

pub returns-clause-put : goal.returns-clause-put
returns-clause-put c = put-behind (put-behind c.put_text.ensures c.put_number.ensures.put) c.put_text-2.ensures
