-- What bytes hold is planned, and the bytes are those of what is made.
use Rattle.std.proofs.Common.{rules, ap}
use Rattle.tables.proofs.Bytes.{words-below}
use Rattle.upload.specs.Planning.{plan_lists}
use Rattle.planning.proofs.Entries.{map-err, planned-bytes}
use Rattle.planner_bytes.proofs.plan.Goals.{After-new-maps}
use Rattle.planner_bytes.proofs.plan.Goals as goal

pub new-maps-requires : goal.new-maps-requires
new-maps-requires c =
    (words-below c.args.held.now (λ k. (c.type_inv.held k).fits), words-below c.args.wanted.now (λ k. (c.type_inv.wanted k).fits))

pub returns : goal.returns
returns c =
    let args = c.args in
    let new = c.plan.new.lists in
    let before = plan_lists args.plan.now args.room.now args.choices.now args.batch.now in
    let left = plan_lists new.plan.now new.room.now new.choices.now new.batch.now in
    let done = c.plan.ensures in
    let maps = c.new-maps.ensures in
    planned-bytes args.points args.held.now args.wanted.now before left c.plan.result
    (record {
      plan-is = search rules;
      room-is = search rules;
      choices-is = search rules;
      batch-is = search rules;
      held-small = λ k. (c.type_inv.held k).fits;
      wanted-small = λ k. (c.type_inv.wanted k).fits;
      plan₀-small = λ k. ((goal.at.returns c).After-new-maps.type_inv.plan k).fits;
      plan-small = λ k. (c.type_inv.plan k).fits;
      room-small = λ k. (c.type_inv.room k).fits;
      plan-kept = search rules;
    })
    (rw (maps.0, maps.1) at done.judged)
    (map-err c.plan.result (λ why e. ap (λ l. plan_lists l.plan.now l.room.now l.choices.now l.batch.now) e) done.refused)
    done.behind (rw (maps.0, maps.1) at done.made)
