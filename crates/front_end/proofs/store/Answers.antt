-- Each arm is its command's definition; what any other command stores lies among the settings, and its data holds it.
use Prim.Native.Nat.{ℕ, ◌+◌, ◌-◌, ◌≤◌, ◌<◌}
use mathlib.Core.Path.{◌≡◌}
use mathlib.Core.List.{List}
use native.Mathlib.Omega.{arith}
use borrow.Author.Tests.{ne_eqb}
use lib.ListN.{length, get_or}
use Rattle.opcode.specs.Commands.{command_of}
use Rattle.settings.specs.Layout.{place_of, settings_end}
use Rattle.front_end.specs.Commands.{block_after, write_smooth}
use Rattle.front_end.proofs.Bounds.{write-data}
use Rattle.front_end.proofs.Sizes.{shape_size, smooth-size, known, fixed-rest, place-within, write-whole}
use Rattle.front_end.proofs.store.Goals.{After-size_of-size}
use Rattle.front_end.proofs.store.Goals as goal

-- The data of any other command ends in what it stores, which has its size.
record Ends (op : ℕ) (d : List ℕ) (size : ℕ) : Type 0 where
  sized : size ≡ (command_of op).back
  behind : (command_of op).read + size ≡ length d
  room : place_of op d + size ≤ settings_end

ends : (c : After-size_of-size) → Ends c.args.opcode c.args.«data».now c.size_of-size.result
ends c =
    let rest = c.in_default.in_default-own.rest in
    let args = c.args in
    let pre = c.requires in
    let d = args.«data».now in
    let bytes : (k : ℕ) → get_or d k 0 < 256 = λ k. (c.type_inv.data k).fits in
    let mark = fixed-rest args.opcode args.options d pre.2 rest.0.0.0.0.1 rest.0.0.0.1 rest.0.0.1 rest.1 in
    let sized = c.size_of-size.ensures.carried (known args.opcode args.options d pre.2) in
    record {
      sized = sized;
      behind = rw sized (write-whole args.opcode args.options d bytes pre.2 pre.1 mark);
      room = rw sized (place-within args.opcode args.options d bytes pre.2);
    }

pub store_shape-requires : goal.store_shape-requires
store_shape-requires c = let args = c.args in
    let pre = c.requires in
    (pre.0, shape_size (rw c.in-53.is at (write-data args.opcode args.options args.«data».now pre.1 pre.2)))

pub copy-requires : goal.copy-requires
copy-requires c = let args = c.args in
    let pre = c.requires in
    let small = smooth-size (rw c.in-56.is at (write-data args.opcode args.options args.«data».now pre.1 pre.2)) in
    (omega arith, omega arith)

pub overflow_sub-data : goal.overflow_sub-data
overflow_sub-data c = omega (arith, (ends (goal.at.overflow_sub-data c).After-size_of-size).behind)

pub copy-requires-in_default : goal.copy-requires-in_default
copy-requires-in_default c = let e = ends (goal.at.copy-requires-in_default c).After-size_of-size in (omega (arith, e.room), omega (arith, e.behind))

pub returns-in-43 : goal.returns-in-43
unfolding block_after
returns-in-43 c = rw c.in-43.is

pub returns-in-52 : goal.returns-in-52
unfolding block_after
returns-in-52 c = rw c.in-52.is

pub returns-in-53 : goal.returns-in-53
unfolding block_after
returns-in-53 c = rw c.in-53.is c.store_shape.ensures

pub returns-in-54 : goal.returns-in-54
unfolding block_after
returns-in-54 c = rw c.in-54.is c.store_apply.ensures

pub returns-in-56 : goal.returns-in-56
unfolding block_after write_smooth
returns-in-56 c = rw c.in-56.is c.copy.ensures

pub returns-in_default : goal.returns-in_default
unfolding block_after
returns-in_default c = let rest = c.in_default.in_default-own.rest in
    let d = c.args.«data».now in
    let e = ends (goal.at.returns-in_default c).After-size_of-size in
    let from : length d - c.size_of-size.result ≡ (command_of c.args.opcode).read = omega (arith, e.behind) in
    rw (
      ne_eqb _ _ rest.0.0.0.0.1,
      ne_eqb _ _ rest.0.0.0.1,
      ne_eqb _ _ rest.0.0.1,
      ne_eqb _ _ rest.0.1,
      ne_eqb _ _ rest.1,
      ← c.place_of.ensures.0,
      ← from,
      ← e.sized,
    ) c.copy-in_default.ensures
