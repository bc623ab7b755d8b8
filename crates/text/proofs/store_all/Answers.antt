use Rattle.text.proofs.Bytes.{write-start, write-turn, write_done}
use Rattle.text.proofs.Forms.{hex-right}
use Rattle.text.proofs.store_all.Goals as goal

pub loop-b-init : goal.loop-b-init
loop-b-init c = write-start _ _ _

pub loop-b-preserved : goal.loop-b-preserved
loop-b-preserved c = rw c.store_hex.ensures (write-turn c.loop-b.invariant c.loop-b-test.true)

pub returns : goal.returns
returns c =
    let all = write_done c.loop-b.invariant c.loop-b-test.false in
    (record { ends = all.0; exits = all.1 }, all.2, hex-right _ (λ k. (c.type_inv.bytes k).fits))
