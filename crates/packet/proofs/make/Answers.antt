-- Each return answers by the first test that held; the packet is written where none did.
use mathlib.Core.Path.{◌≡◌, sym}
use native.Mathlib.Omega.{arith}
use borrow.Author.Tests.{eqb-false}
use Rattle.std.proofs.Common.{Err}
use Rattle.opcode.proofs.Below.{carried-below}
use Rattle.packet.proofs.Frames.{refusal-some}
use Rattle.packet.proofs.Makes.{made-small, made-large, made-refused, made-judged}
use Rattle.packet.proofs.Promises.{make-promised}
use Rattle.packet.proofs.make.Goals as goal

pub returns-then-buffer-lt-LONGEST : goal.returns-then-buffer-lt-LONGEST
returns-then-buffer-lt-LONGEST c = make-promised _ _ _ (λ k. (c.type_inv.data k).fits) _ (sym (made-small _ _ _ _ (omega arith)))

pub returns-then-fields-data : goal.returns-then-fields-data
returns-then-fields-data c =
    let least = rw c.options-options.ensures at c.fields.ensures in
    make-promised _ _ _ (λ k. (c.type_inv.data k).fits) _
    (sym (made-large _ _ _ _ (omega arith) (omega arith)))

pub returns-in_err-judge : goal.returns-in_err-judge
returns-in_err-judge c =
    let why = c.in_err-judge.field-0.0 in
    let up : c.from_residual.result ≡ Err why = grind arith in
    let judged = rw c.options-options.ensures at c.in_err-judge.ensures in
    make-promised _ _ _ (λ k. (c.type_inv.data k).fits) _
    (rw up (sym (made-refused _ _ _ _ (omega arith) (omega arith) _ _ judged (eqb-false _ _ (refusal-some why)))))

pub write_packet-requires : goal.write_packet-requires
write_packet-requires c = (carried-below _ _ _ (sym c.in_ok-judge.ensures.0), omega arith, omega arith, omega arith)

pub returns : goal.returns
returns c =
    let judged = rw c.options-options.ensures at c.in_ok-judge.ensures in
    make-promised _ _ _ (λ k. (c.type_inv.data k).fits) _
    (rw (c.write_packet.ensures.0, c.write_packet.ensures.1, c.options-options.ensures)
    (sym (made-judged _ _ _ _ (omega arith) (omega arith) 0 (sym judged.0))))
