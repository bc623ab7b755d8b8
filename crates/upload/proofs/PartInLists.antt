-- Where each part of a plan stands in the lent plan, and its packet in the batch.
use Prim.Native.Nat.{ℕ, zero, suc, ◌+◌, ◌*◌, ◌<◌}
use mathlib.Core.Path.{◌≡◌, refl, ◌∙◌}
use mathlib.Core.List.{List, [], ◌∷◌, ◌++◌, append_assoc, map}
use native.Mathlib.Omega.{arith}
use lib.ListN.{length, take, drop, get_or, get_or-append}
use lib.Seq.{drop-drop, drop_at, take_at}
use Rattle.wire.specs.Buffers.{over}
use Rattle.upload.specs.Plan.{Part, cost, packet_for, plan_numbers, joined}
use Rattle.upload.specs.Parts.{InOrder, next}
use Rattle.upload.specs.Plain.{part_at, PartInLists}
use Rattle.upload.proofs.Reading.{meant}
use Rattle.upload.proofs.Walk.{length-numbers}

numbers-at : (ps : List Part) (k : ℕ) → k < length ps
    → (get_or (plan_numbers ps) (2 * k) 0 ≡ (part_at ps k).start) × (get_or (plan_numbers ps) (2 * k + 1) 0 ≡ (part_at ps k).count)
unfolding plan_numbers
numbers-at [] k h = absurd (omega arith)
numbers-at (p ∷ ps) zero h = (refl, refl)
numbers-at (p ∷ ps) (suc k) h =
    let low : 2 * suc k ≡ suc (suc (2 * k)) = omega arith in
    let high : 2 * suc k + 1 ≡ suc (suc (2 * k + 1)) = omega arith in
    rw (high, low) (numbers-at ps k (omega arith))

module _ (n : ℕ) (w : List ℕ) (wide : length w ≡ 2 * n) where
  packet-at : {i : ℕ} {ps : List Part} → InOrder n i ps → (rest : List ℕ) (k : ℕ) → k < length ps
      → take (6 + 4 * (part_at ps k).count) (drop (cost (take k ps)) (joined (map (packet_for w) ps) ++ rest)) ≡ packet_for w (part_at ps k)
  unfolding cost joined
  packet-at InOrder.none rest k h = absurd (omega arith)
  packet-at (next {p = p} {ps = ps} l f r) rest zero h =
      rw (append_assoc (packet_for w p) (joined (map (packet_for w) ps)) rest) (take_at (packet_for w p) _ (6 + 4 * p.count) (meant n w p wide f).size)
  packet-at (next {p = p} {ps = ps} l f r) rest (suc k) h =
      let size : length (packet_for w p) ≡ 6 + 4 * p.count = (meant n w p wide f).size in
      rw (
        append_assoc (packet_for w p) (joined (map (packet_for w) ps)) rest,
        ← drop-drop (cost (take k ps)) (6 + 4 * p.count) (packet_for w p ++ (joined (map (packet_for w) ps) ++ rest)),
        drop_at (packet_for w p) (joined (map (packet_for w) ps) ++ rest) (6 + 4 * p.count) size,
      )
      (packet-at r rest k (omega arith))

pub placed : (n : ℕ) (w plan batch : List ℕ) → length w ≡ 2 * n → {ps : List Part} → InOrder n 0 ps → (k : ℕ) → k < length ps
    → PartInLists w ps (over (plan_numbers ps) plan) (over (joined (map (packet_for w) ps)) batch) k
unfolding over
placed n w plan batch wide {ps} r k h =
    let at = numbers-at ps k h in
    record {
      start-at = get_or-append (plan_numbers ps) _ 0 (2 * k) (omega (arith, length-numbers ps)) ∙ at.0;
      count_at = get_or-append (plan_numbers ps) _ 0 (2 * k + 1) (omega (arith, length-numbers ps)) ∙ at.1;
      packet-at = packet-at n w wide r _ k h;
    }
