-- Lent lists are bytes, before and after, and stay as long.
use Rattle.front_end_bytes.specs.Bytes.{Lent, lent}
use Rattle.front_end_bytes.proofs.Ways.{Small, stepped}
use Rattle.front_end_bytes.proofs.Promises.{handled-bytes}
use Rattle.front_end_bytes.proofs.handle.Goals.{After-slice_known-5-1}
use Rattle.front_end_bytes.proofs.handle.Goals as goal

abbrev before : After-slice_known-5-1 → Lent
before c =
    let args = c.args in
    lent args.block.now args.staged.now args.live.now args.gains.now

small : (c : After-slice_known-5-1) → Small (before c)
small c =
    record {
      staged = λ k. (c.type_inv.staged k).fits;
      live = λ k. (c.type_inv.live k).fits;
      gains = λ k. (c.type_inv.gains k).fits;
    }

pub returns : goal.returns
returns c =
    let new = c.handle.new in
    let left : Small (lent new.block new.staged new.live new.gains) =
    record {
      staged = λ k. (c.type_inv.staged k).fits;
      live = λ k. (c.type_inv.live k).fits;
      gains = λ k. (c.type_inv.gains k).fits;
    } in
    let start = (goal.at.returns c).After-slice_known-5-1 in
    handled-bytes _ (λ k. (c.type_inv.packet k).fits) (before start) (small start) _
    (stepped left (λ e. rw (c.handle.auto.block, c.handle.auto.staged, c.handle.auto.live, c.handle.auto.gains) e) c.handle.ensures)
