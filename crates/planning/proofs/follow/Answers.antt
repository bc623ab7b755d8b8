-- The loop keeps what the law on the walk says of plan and batch; where a packet begins, the law
-- says where it goes.
use Rattle.std.proofs.Common.{refl, ap, arith, ◌∙◌}
use Rattle.upload.proofs.Walk.{walk_start, walk-skip, walk-place, walk_turn, walk-done}
use Rattle.planning.proofs.follow.Goals as goal

pub loop-i-init : goal.loop-i-init
loop-i-init g c =
    let pre = c.requires in
    (record { can = pre.0; wanted-long = pre.1; plan-long = pre.2; batch-long = pre.3 }, rw pre.4 (walk_start _ _ _ _), refl)

pub put_part-requires : goal.put_part-requires
put_part-requires g c =
    let inv = c.loop-i.invariant in
    let place = walk-place inv.0 c.loop-i-test.true inv.1 refl c.if-count-gt0.true in
    (place.in-plan, omega (arith, inv.0.can.few), omega (arith, place.count-few))

pub put_packet-requires : goal.put_packet-requires
put_packet-requires g c =
    let inv = c.loop-i.invariant in
    let place = walk-place inv.0 c.loop-i-test.true inv.1 refl c.if-count-gt0.true in (
      place.in-batch,
      c.if-count-gt0.true,
      place.count-few,
      omega (arith, inv.0.can.few),
      omega (arith, place.within, inv.0.wanted-long),
      omega (arith, inv.0.wanted-long),
    )

pub loop-i-preserved-then-count-gt0 : goal.loop-i-preserved-then-count-gt0
loop-i-preserved-then-count-gt0 g c =
    let inv = c.loop-i.invariant in
    let put = c.put_packet.ensures in (
      inv.0,
      walk_turn inv.0 c.loop-i-test.true inv.1 refl c.if-count-gt0.true c.put_part.ensures
          (ap (λ b. b.filled) put, ap (λ b. b.buffer.now) put),
      ap (λ b. b.buffer.ghost_name) put ∙ inv.2,
    )

pub loop-i-preserved : goal.loop-i-preserved
loop-i-preserved g c =
    let inv = c.loop-i.invariant in
    (inv.0, walk-skip inv.0 c.loop-i-test.true inv.1 (omega arith), inv.2)

pub returns-clause-written : goal.returns-clause-written
returns-clause-written g c =
    let inv = c.loop-i.invariant in
    walk-done inv.0 c.loop-i-test.false inv.1
