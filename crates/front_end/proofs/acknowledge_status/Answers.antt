-- No reply; or a reply with its place, where it has one, behind the head.
use Prim.Native.Nat.{◌-◌}
use mathlib.Core.Path.{◌≡◌, sym, ◌∙◌}
use mathlib.Core.Bool.{true}
use native.Mathlib.Omega.{arith}
use lib.ListN.{length}
use lib.Dec.{eqb}
use Rattle.opcode.specs.Options.{has_checksum}
use Rattle.packet.specs.Frame.{header_of}
use Rattle.reply.proofs.Laws.{lent-on}
use Rattle.front_end.specs.Step.{answers}
use Rattle.front_end.proofs.Replies.{unanswered, answered-status, place-few}
use Rattle.front_end.proofs.acknowledge_status.Goals as goal

pub returns-then-not-answers : goal.returns-then-not-answers
returns-then-not-answers c = let args = c.args in
    unanswered args.status args.place args.packet.now _ (sym c.answers.ensures ∙ c.if-not-answers.true)

pub returns : goal.returns
returns c = let args = c.args in
    let some : answers args.status args.packet.now ≡ true = sym c.answers.ensures ∙ c.if-not-answers.false in
    let same = answered-status args.status args.place args.packet.now some in
    let put = c.put_place-n.ensures in
    let few = place-few args.status args.place in
    let lent = rw (← put.0) at
    (lent-on _ args.reply.now c.put_place-n.new.out (length args.reply.now - 3) (omega arith) (omega arith)
    put.1 (eqb (has_checksum (header_of args.packet.now)) 1) args.status) in
    let sum : c.has_checksum.result ≡ eqb (has_checksum (header_of args.packet.now)) 1 =
    c.has_checksum.ensures ∙ rw c.header_of.ensures in
    let sealed = rw sum at c.seal.ensures in
    rw same (sealed.0 ∙ lent.0, sealed.1 ∙ lent.1)
