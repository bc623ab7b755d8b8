use Rattle.playback.specs.Replay.{line}
use Rattle.playback.proofs.Lines.{put-behind}
use Rattle.playback.proofs.put_line.Goals as goal

pub returns-clause-put : goal.returns-clause-put
unfolding line
returns-clause-put c =
    put-behind (put-behind (put-behind (put-behind c.put_number.ensures.put c.put_text.ensures) c.put_number-2.ensures.put) c.put_hex.ensures.put) c.put_text-2.ensures
