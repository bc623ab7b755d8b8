-- Each field is passed, or is the first at fault.
use mathlib.Core.Path.{sym, ◌∙◌}
use native.Mathlib.Omega.{arith}
use Rattle.opcode.proofs.Laws.{span-turn, fault-turn, fault-stop, fault-done}
use Rattle.opcode.proofs.fields.fault.Goals as goal

pub returns-then-not-takes : goal.returns-then-not-takes
returns-then-not-takes c = let args = c.args in
    let i = c.loop-field.field-index in
    let stop = fault-stop args.fields.now i (omega arith)
    args.«data».now c.loop-field.at c.number.ensures.0 c.takes.ensures c.if-not-takes.true in
    sym (c.loop-field.invariant.1 ∙ stop)

pub loop-field-preserved : goal.loop-field-preserved
loop-field-preserved c = let args = c.args in
    let i = c.loop-field.field-index in
    let turn = fault-turn args.fields.now i (omega arith)
    args.«data».now c.loop-field.at c.number.ensures.0 c.takes.ensures c.if-not-takes.false in
    let left = span-turn args.fields.now i (omega arith) in
    (omega arith, c.loop-field.invariant.1 ∙ turn)

pub returns : goal.returns
returns c = let args = c.args in
    let i = c.loop-field.field-index in
    let done = fault-done args.fields.now i (omega arith) args.«data».now c.loop-field.at in
    sym (c.loop-field.invariant.1 ∙ done)
