-- A broken frame's refusal is handed on; the command of a sound one is judged on the part of the
-- packet that holds its data.
use mathlib.Core.Path.{◌≡◌, sym}
use native.Mathlib.Omega.{arith}
use Rattle.std.proofs.Common.{Err}
use Rattle.opcode.proofs.Below.{carried-below}
use Rattle.packet.proofs.Frames.{broken-read, stands, judged-read, refusal-some}
use Rattle.packet.proofs.Promises.{read-promised}
use Rattle.packet.proofs.read.Goals as goal

pub returns-in_err-frame : goal.returns-in_err-frame
returns-in_err-frame c =
    let up : c.from_residual.result ≡ Err c.in_err-frame.field-0.0 = grind arith in
    read-promised _ (λ k. (c.type_inv.packet k).fits) (rw up (broken-read _ _ _ c.in_err-frame.ensures))

pub overflow_add-data : goal.overflow_add-data
overflow_add-data c = omega (arith, stands _ _ _ _ _ c.in_ok-frame.ensures)

pub slice_bounds-data-end : goal.slice_bounds-data-end
slice_bounds-data-end c = omega (arith, stands _ _ _ _ _ c.in_ok-frame.ensures)

pub returns-in_err-judge : goal.returns-in_err-judge
returns-in_err-judge c =
    let why = c.in_err-judge.field-0.0 in
    let up : c.from_residual-in_err-judge.result ≡ Err why = grind arith in
    read-promised _ (λ k. (c.type_inv.packet k).fits)
    (rw up (rw (refusal-some why) at (judged-read _ _ _ _ _ _ _ c.in_ok-frame.ensures c.in_err-judge.ensures)))

pub overflow_cast-result : goal.overflow_cast-result
overflow_cast-result c = omega (arith, carried-below _ _ _ (sym c.in_ok-judge.ensures.0))

pub overflow_cast-result-2 : goal.overflow_cast-result-2
overflow_cast-result-2 c = omega (arith, stands _ _ _ _ _ c.in_ok-frame.ensures, (c.type_inv.packet 0).fits)

pub returns : goal.returns
returns c = read-promised _ (λ k. (c.type_inv.packet k).fits)
    (judged-read _ _ _ _ _ 0 0 c.in_ok-frame.ensures c.in_ok-judge.ensures)
