-- What bytes hold is measured.
use Rattle.std.proofs.Common.{arith}
use Rattle.tables.proofs.Bytes.{words-below}
use Rattle.upload.proofs.Outcome.{measured-bytes}
use Rattle.planning.proofs.Entries.{lent-words}
use Rattle.planner_bytes.proofs.measure.Goals as goal

pub new-requires : goal.new-requires
new-requires c =
    (words-below c.args.held.now (λ k. (c.type_inv.held k).fits), words-below c.args.wanted.now (λ k. (c.type_inv.wanted k).fits))

pub measure-requires : goal.measure-requires
measure-requires c = rw (c.new.ensures.0, c.new.ensures.1) (lent-words c.requires)

pub returns : goal.returns
returns c = measured-bytes (omega arith) c.measure.ensures.behind (rw (c.new.ensures.0, c.new.ensures.1) at c.measure.ensures.measured)
