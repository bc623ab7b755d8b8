-- The lists left are bytes, as many as they were.
use Rattle.front_end_bytes.specs.Bytes.{lent}
use Rattle.front_end_bytes.proofs.Ways.{Small, put-back}
use Rattle.front_end_bytes.proofs.Promises.{resets-bytes}
use Rattle.front_end_bytes.proofs.reset.Goals as goal

pub returns : goal.returns
returns c =
    let new = c.reset.new in
    let left : Small (lent new.block new.staged new.live new.gains) =
    record {
      staged = λ k. (c.type_inv.staged k).fits;
      live = λ k. (c.type_inv.live k).fits;
      gains = λ k. (c.type_inv.gains k).fits;
    } in
    resets-bytes _ (put-back left (λ e. rw (c.reset.auto.block, c.reset.auto.staged, c.reset.auto.live, c.reset.auto.gains) e) c.reset.ensures)
