-- Status, count and lowest row are packed side by side, and each is what its bits say.
use native.Mathlib.Omega.{arith}
use Rattle.vermolgas.proofs.Packs.{rows-packed}
use Rattle.vermolgas.proofs.vermolgas_rows.Goals as goal

pub returns-in-Ok : goal.returns-in-Ok
returns-in-Ok c = let rows = c.in-Ok.rows in
    rows-packed c.args.block.now _ 0 rows.count _ (omega (arith, c.unwrap_or.ensures)) c.in-Ok.ensures.promised

pub returns-in-Err : goal.returns-in-Err
returns-in-Err c = rows-packed c.args.block.now _ _ 0 0 (omega (arith, c.number.ensures)) c.in-Err.ensures.promised
