-- Number and place side by side.
use native.Mathlib.Omega.{arith}
use Rattle.rising.proofs.Alone.{all-bytes, told}
use Rattle.rising.proofs.vermolgas_rising.Goals as goal

pub returns-in-Ok : goal.returns-in-Ok
returns-in-Ok c = let l = c.args.lists.now in
    told l (all-bytes l (λ k. (c.type_inv.lists k).fits)) _ (omega (arith, c.in-Ok.ensures))

pub returns-in-Err : goal.returns-in-Err
returns-in-Err c = let l = c.args.lists.now in
    told l (all-bytes l (λ k. (c.type_inv.lists k).fits)) _ (omega (arith, c.in-Err.ensures))
