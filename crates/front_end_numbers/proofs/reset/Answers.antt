use Rattle.front_end.proofs.Demands.{resets}
use Rattle.front_end_numbers.proofs.Same.{put-back}
use Rattle.front_end_numbers.proofs.reset.Goals as goal

pub returns : goal.returns
returns c = resets _ (put-back c.reset.ensures)
