-- The fields of 88 pins are 264 flags. What the flags passed come to is joined to what is still to be judged.
use Prim.Native.Nat.{ℕ, ◌+◌, ◌<◌}
use mathlib.Core.Path.{◌≡◌, refl, sym, ◌∙◌}
use mathlib.Core.List.{List, [], ◌∷◌}
use native.Mathlib.Omega.{arith}
use lib.ListN.{length, get_or, take, drop, length-take, length-drop}
use lib.Seq.{get_or-take, get_or-drop}
use Rattle.wire.specs.Numbers.{byte_at}
use Rattle.opcode.specs.Commands.{command_of, flag}
use Rattle.settings.specs.Ranges.{behind_port, for_each}
use Rattle.settings.proofs.Laws.{right-byte, each_turn, each-done}
use Rattle.settings.specs.Layout.{pin_count, pin_place}
use Rattle.settings.proofs.pins_in_range.Goals as goal

pins : for_each pin_count (behind_port 0x60) ≡ for_each 264 (flag ∷ [])
unfolding command_of
pins = refl

-- They are those of the block from the pins' place on.
few : (block : List ℕ) → length block ≡ 1024 → length (take 264 (drop pin_place block)) ≡ 264
few block long = simp (length-take, length-drop) (omega arith)

read : (block : List ℕ) (i : ℕ) → i < 264 → get_or (take 264 (drop pin_place block)) i 0 ≡ byte_at block (pin_place + i)
read block i h = get_or-take 264 (drop pin_place block) i 0 h ∙ get_or-drop pin_place block i 0

pub loop-pin-preserved : goal.loop-pin-preserved
loop-pin-preserved c = let block = c.args.block.now in
    let i = c.loop-pin.pin-index in
    let inside : i < 264 = omega (arith, few block c.told-block) in
    let next : pin_place + i + 1 ≡ pin_place + (i + 1) = omega arith in
    let turn = each_turn (flag ∷ []) block c.loop-pin.all i 264 (pin_place + i) inside in
    rw (read block i inside, ← right-byte 1 block (pin_place + i), ← next) (c.loop-pin.invariant ∙ turn)

pub returns : goal.returns
returns c = let block = c.args.block.now in
    let i = c.loop-pin.pin-index in
    rw pins
    (sym (c.loop-pin.invariant ∙ each-done (flag ∷ []) block c.loop-pin.all i 264 (pin_place + i) (omega (arith, few block c.told-block))))
