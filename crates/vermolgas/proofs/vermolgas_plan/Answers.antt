-- Status, packets and bytes are packed side by side.
use Rattle.std.proofs.Common.{arith}
use Rattle.upload.specs.Planning.{plan_lists, plan_out}
use Rattle.upload.proofs.Small.{answer-small}
use Rattle.planning.specs.Refusals.{number_of as code}
use Rattle.vermolgas.proofs.Packs.{plan-packed}
use Rattle.vermolgas.proofs.vermolgas_plan.Goals as goal

pub overflow_mul-result : goal.overflow_mul-result
overflow_mul-result c = omega (arith, answer-small c.in-Ok.ensures)

pub overflow_add-result : goal.overflow_add-result
overflow_add-result c = omega (arith, answer-small c.in-Ok.ensures)

pub returns-in-Ok : goal.returns-in-Ok
returns-in-Ok c =
    let args = c.args in
    let new = c.plan.new in
    let sent = c.in-Ok.planned in
    let before = plan_lists args.plan.now args.room.now args.choices.now args.batch.now in
    let left = plan_lists new.plan new.room new.choices new.batch in
    plan-packed args.points args.held.now args.wanted.now before _ (plan_out 0 sent.packets sent.bytes left) (omega arith) (omega arith) c.in-Ok.ensures

pub returns-in-Err : goal.returns-in-Err
returns-in-Err c =
    let args = c.args in
    let new = c.plan.new in
    let before = plan_lists args.plan.now args.room.now args.choices.now args.batch.now in
    let left = plan_lists new.plan new.room new.choices new.batch in
    plan-packed args.points args.held.now args.wanted.now before _ (plan_out (code c.in-Err.why) 0 0 left) (omega (arith, c.number.ensures)) (omega (arith, c.number.ensures)) c.in-Err.ensures
