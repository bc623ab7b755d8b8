-- Numbers are planned as they are.
use Rattle.std.proofs.Common.{rules, ap}
use Rattle.upload.specs.Planning.{plan_lists}
use Rattle.planning.proofs.Entries.{map-err, named, planned-numbers}
use Rattle.planner_numbers.proofs.plan.Goals as goal

pub returns : goal.returns
returns c =
    let args = c.args in
    let new = c.plan.new.lists in
    let before = plan_lists args.plan.now args.room.now args.choices.now args.batch.now in
    let left = plan_lists new.plan.now new.room.now new.choices.now new.batch.now in
    let done = c.plan.ensures in
    let maps = c.new-maps.ensures in
    named {left = left} (search rules) (search rules) (search rules) (search rules)
    (planned-numbers args.points before left c.plan.result maps.0 maps.1
    (λ k. (c.type_inv.held k).fits) (λ k. (c.type_inv.wanted k).fits)
    done.judged
    (map-err c.plan.result (λ why e. ap (λ l. plan_lists l.plan.now l.room.now l.choices.now l.batch.now) e) done.refused)
    done.behind done.made)
