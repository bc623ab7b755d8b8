-- An accepted 36h write of 1 makes the staged side live: its points, and its shape, mode and lists.
use Prim.Native.Nat.{ℕ, ◌≤◌}
use mathlib.Core.Path.{◌≡◌, refl, ap, ◌∙◌}
use mathlib.Core.List.{List, [], ◌∷◌}
use native.Mathlib.Omega.{arith}
use borrow.Author.Tests.{ne_eqb}
use lib.ListN.{length, drop, set, length-drop}
use lib.Seq.{paste, length-paste}
use Rattle.opcode.specs.Options.{is_read}
use Rattle.packet.specs.Frame.{header_of, data_of}
use Rattle.front_end.specs.State.{State}
use Rattle.front_end.specs.Commands.{written, block_after, apply_block, apply_live}
use Rattle.front_end.specs.Mark.{marked_block}
use Rattle.front_end.specs.Step.{step}
use Rattle.front_end.specs.Writes.{Sets36, Applies}
use Rattle.front_end.specs.Demands.{Applied, cleared}
use Rattle.front_end.proofs.Demands.{lent, decided}
use Rattle.front_end.proofs.Steps.{step-written}
use Rattle.front_end.proofs.Marks.{mark-alone, front-byte, front-part}
use Rattle.wire.proofs.Copies.{same-part, paste-there, before-paste, sets-paste}
use Rattle.settings.specs.Layout.{block_size, enable, live_shape, shape_size, staged_shape}

pub applied : (p : List ℕ) (s : State) (reply : List ℕ) → Applies p (step p s reply) → Applied s (step p s reply).state
unfolding written block_after apply_block apply_live
applied p s reply a =
    let d = decided p s reply a.0 in
    let l = lent s reply d.0 in
    let after = ap (λ o. o.state) (step-written p s reply d.0 d.1 (ne_eqb (is_read (header_of p)) 1 (omega (arith, a.2)))) in
    let marked : length (paste s.block enable (1 ∷ []) 1) ≡ block_size =
    length-paste s.block enable (1 ∷ []) 1 (omega (arith, l.tables.block)) (omega arith) ∙ l.tables.block in
    let block : List ℕ = paste s.block enable (1 ∷ []) 1 in
    let shape : List ℕ = drop staged_shape s.block in
    let long : shape_size ≤ length shape = rw length-drop (omega (arith, l.tables.block)) in
    let whole : length (paste block live_shape shape shape_size) ≡ length block = length-paste block live_shape shape shape_size (omega (arith, marked)) long in
    let alone = mark-alone 0x36 (data_of p) (paste block live_shape shape shape_size) s.staged s.staged (whole ∙ marked) in
    rw (after, a.1, a.3)
    (record {
      points-live = refl;
      enabled =
          front-byte alone enable (omega arith)
          ∙ before-paste block shape live_shape shape_size (omega (arith, marked)) long enable (omega arith)
          ∙ (paste-there s.block (1 ∷ []) enable 1 (omega (arith, l.tables.block)) (omega arith)).each 0 (omega arith);
      settings-live =
          front-part alone live_shape shape_size (omega arith) (omega (arith, whole, marked))
          ∙ same-part (paste-there block shape live_shape shape_size (omega (arith, marked)) long) (omega (arith, marked, whole)) (omega arith);
    })

-- One of 0 clears enable alone.
pub cleared_by : (p : List ℕ) (s : State) (reply : List ℕ) → Sets36 0 p (step p s reply) → (step p s reply).state ≡ cleared s
unfolding written block_after apply_block apply_live marked_block
cleared_by p s reply a =
    let d = decided p s reply a.0 in
    let l = lent s reply d.0 in
    let after = ap (λ o. o.state) (step-written p s reply d.0 d.1 (ne_eqb (is_read (header_of p)) 1 (omega (arith, a.2)))) in
    let one : set s.block enable 0 ≡ paste s.block enable (0 ∷ []) 1 = sets-paste s.block enable (0 ∷ []) (omega (arith, l.tables.block)) in
    rw (after, a.1, a.3, one)
