use Rattle.replay.proofs.FromReset.{taken_in}
use Rattle.replay.proofs.take_in.Goals as goal

pub returns-clause-taken : goal.returns-clause-taken
returns-clause-taken c =
    taken_in c.count-n.result c.count-n.ensures.value c.play-progress.ensures.played (rw (← c.is_err.ensures.value) c.next_way.ensures)
    c.count-n.ensures.in_bounds.0
