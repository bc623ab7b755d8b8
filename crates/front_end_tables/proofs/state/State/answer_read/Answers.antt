-- The part behind the head is lent on for the data, which stays within it, and sealed where it stands.
use Rattle.std.proofs.Common.{◌-◌, ◌≤◌, ◌∙◌, arith, length}
use Rattle.reply.proofs.Laws.{lent-on}
use Rattle.front_end.specs.State.{data_room}
use Rattle.front_end.proofs.ReadBack.{back_fits}
use Rattle.front_end_tables.specs.Held.{held}
use Rattle.front_end_tables.proofs.state.State.answer_read.Given.{Over}
use Rattle.front_end_tables.proofs.state.State.answer_read.Goals.{After-fetch-n}
use Rattle.front_end_tables.proofs.state.State.answer_read.Goals as goal

fits : (g : Over) (c : After-fetch-n g) → c.fetch-n.result ≤ data_room
fits g c =
    let args = c.args in
    let granted = c.requires.granted in
    rw c.fetch-n.ensures.0
    (back_fits args.command.opcode args.command.options args.«data».now (held args.self.now) c.requires.reads granted.judged granted.fits granted.settings)

pub seal-requires : goal.seal-requires
seal-requires g c = let n = fits g (goal.at.seal-requires g c).After-fetch-n in
    omega (arith, n)

pub returns : goal.returns
returns g c = let args = c.args in
    let fetched = c.fetch-n.ensures in
    let n = fits g (goal.at.returns g c).After-fetch-n in
    let lent = rw (← fetched.0) at
    (lent-on _ args.reply.now c.fetch-n.new.out (length args.reply.now - 3) (omega (arith, n)) (omega arith) fetched.1 c.has_checksum.result 0) in
    rw (← c.header.ensures, ← c.has_checksum.ensures) (c.seal.ensures.0 ∙ lent.0, c.seal.ensures.1 ∙ lent.1)
