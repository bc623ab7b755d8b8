-- The rows worked out are put into the mark; where the write works on no mark, the block is as it was.
use Rattle.std.proofs.Common.{arith}
use Rattle.settings.specs.Reset.{map_size}
use Rattle.front_end.proofs.Fresh.{rows-put, rows_left}
use Rattle.front_end_tables.proofs.state.State.fresh_mark.Goals as goal

pub returns-in_err-fresh : goal.returns-in_err-fresh
returns-in_err-fresh g c =
    let numbers = g.T.Element.numbers in
    let s = c.args.self.now in
    rw c.from_residual.ensures (rows_left (numbers s.staged.now) (numbers s.live.now) c.in_err-fresh.ensures)

pub refresh-requires : goal.refresh-requires
refresh-requires g c =
    let counted = g.T.Element.laws.counted in
    let s = c.args.self.now in
    let rows = c.in_ok-fresh.ensures.rows in
    omega (arith, rows.few, rows.room, counted s.staged.now map_size s.staged_long, counted s.live.now map_size s.live_long)

pub returns : goal.returns
returns g c =
    let numbers = g.T.Element.numbers in
    let s = c.args.self.now in
    rows-put (numbers s.staged.now) (numbers s.live.now) c.in_ok-fresh.ensures c.refresh.result (omega arith) c.refresh.ensures
