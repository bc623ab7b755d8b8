use Rattle.front_end.proofs.Handled.{handled}
use Rattle.front_end_numbers.proofs.Same.{stepped}
use Rattle.front_end_numbers.proofs.handle.Goals as goal

pub returns : goal.returns
returns c = handled _ (λ k. (c.type_inv.packet k).fits) _ _ (stepped c.handle.ensures)
