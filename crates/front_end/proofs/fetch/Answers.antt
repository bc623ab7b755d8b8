-- Each arm is a part of the block. The smooth table's counts are at most 5, and any other command's settings lie in the block.
use Prim.Native.Nat.{ℕ, ◌*◌, ◌≤◌, ◌<◌}
use mathlib.Core.Path.{◌≡◌}
use native.Mathlib.Omega.{arith}
use borrow.Author.Tests.{ne_eqb}
use lib.ListN.{get_or}
use Rattle.opcode.specs.Commands.{command_of}
use Rattle.front_end.specs.Commands.{block_back, read_smooth}
use Rattle.front_end.proofs.Bounds.{counts}
use Rattle.front_end.proofs.Sizes.{known, place-within}
use Rattle.front_end.proofs.fetch.Goals.{After-byte-in-56, After-size_of}
use Rattle.front_end.proofs.fetch.Goals as goal

few : (c : After-byte-in-56) → c.byte.result * c.byte-in-56.result ≤ 25
few c =
    rw (c.byte.ensures.0, c.byte-in-56.ensures.0) (counts c.args.block.now c.requires.2).smooth-points

-- It has the size that the list of commands gives it.
sized : (c : After-size_of) → c.size_of.result ≡ (command_of c.args.opcode).back
sized c =
    c.size_of.ensures.carried (known c.args.opcode c.args.options c.args.«data».now c.requires.4)

pub fetch_part-requires : goal.fetch_part-requires
fetch_part-requires c = omega (arith, few (goal.at.fetch_part-requires c).After-byte-in-56)

pub fetch_part-requires-in_default : goal.fetch_part-requires-in_default
fetch_part-requires-in_default c = let args = c.args in
    let bytes : (k : ℕ) → get_or args.«data».now k 0 < 256 = λ k. (c.type_inv.data k).fits in
    let room = place-within args.opcode args.options args.«data».now bytes c.requires.4 in
    omega (arith, room, sized (goal.at.fetch_part-requires-in_default c).After-size_of, c.size_of.ensures.few)

pub returns-in-53 : goal.returns-in-53
unfolding block_back
returns-in-53 c = rw c.in-53.is c.fetch_shape.ensures

pub returns-in-56 : goal.returns-in-56
unfolding block_back read_smooth
returns-in-56 c = rw (c.in-56.is, ← c.byte.ensures.0, ← c.byte-in-56.ensures.0) c.fetch_part.ensures

pub returns-in_default : goal.returns-in_default
unfolding block_back
returns-in_default c = let rest = c.in_default.in_default-own.rest in
    rw (ne_eqb _ _ rest.0.1, ne_eqb _ _ rest.1, ← c.place_of.ensures.0, ← sized (goal.at.returns-in_default c).After-size_of) c.fetch_part-in_default.ensures
