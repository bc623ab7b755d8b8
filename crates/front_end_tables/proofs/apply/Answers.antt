-- Unless opcode and data say 36h with 1, live stays; else it is copied whole.
use Rattle.std.proofs.Common.{◌≡◌, Bool, true, false, refl, ap, List, ℕ, nat_eq}
use mathlib.Core.Bool.{◌&&◌, cond}
use Rattle.front_end.specs.Commands.{apply_live}
use Rattle.front_end_tables.proofs.apply.Goals as goal

both : (a b : Bool) (s l : List ℕ) → cond (a && b) s l ≡ cond a (cond b s l) l
both true b s l = refl
both false b s l = refl

pub returns-then-opcode-byte : goal.returns-then-opcode-byte
unfolding apply_live
returns-then-opcode-byte g c =
    let numbers = g.T.Element.numbers in
    rw (← c.byte.ensures.0, ← both (nat_eq c.args.opcode 54) (nat_eq c.byte.result 1) (numbers c.args.staged.now) (numbers c.args.live.now), c.if-opcode-byte.true)
    (ap numbers c.copy_all.ensures)

pub returns-else-opcode-byte : goal.returns-else-opcode-byte
unfolding apply_live
returns-else-opcode-byte g c =
    let numbers = g.T.Element.numbers in
    rw (← c.byte.ensures.0, ← both (nat_eq c.args.opcode 54) (nat_eq c.byte.result 1) (numbers c.args.staged.now) (numbers c.args.live.now), c.if-opcode-byte.false) refl
