use Rattle.std.proofs.Common.{refl, sym, ◌∙◌}
use borrow.Author.Rules.{rules}
use Rattle.playback.proofs.Turns.{roomy, window-none, loop-start, loop-turn, room-true, window-all, window-full}
use Rattle.playback.proofs.replay.Goals as goal

pub returns-then-not-rooms_right-clause-replayed : goal.returns-then-not-rooms_right-clause-replayed
returns-then-not-rooms_right-clause-replayed c = window-none _ _ _ _ _ _ (sym c.rooms_right.ensures ∙ c.if-not-rooms_right.true)

pub loop-p-init : goal.loop-p-init
loop-p-init c =
    let rooms = roomy c.args.kept.now c.args.device.now.reply.now _ (sym c.rooms_right.ensures ∙ c.if-not-rooms_right.false) in
    record { loop = loop-start _ _ _ _ _ _ refl refl rooms.for-have; same = search rules }

pub loop-p-preserved : goal.loop-p-preserved
loop-p-preserved c =
    let before = c.loop-p.invariant in
    let room = room-true _ _ c.loop-p.out (sym c.has_room.ensures ∙ c.if-has_room.true) in
    record {
      loop = loop-turn before.loop c.loop-p-test.true room c.turn-p.ensures.turned (search rules) c.turn-p.ensures.same.reply-long (search rules);
      same = search rules;
    }

pub returns-else-has_room-clause-replayed : goal.returns-else-has_room-clause-replayed
returns-else-has_room-clause-replayed c =
    let rooms = roomy c.args.kept.now c.args.device.now.reply.now c.args.from.have (sym c.rooms_right.ensures ∙ c.if-not-rooms_right.false) in
    window-full rooms c.loop-p.invariant.loop (sym c.has_room.ensures ∙ c.if-has_room.false)

pub returns-after-loop-p-clause-replayed : goal.returns-after-loop-p-clause-replayed
returns-after-loop-p-clause-replayed c =
    let rooms = roomy c.args.kept.now c.args.device.now.reply.now c.args.from.have (sym c.rooms_right.ensures ∙ c.if-not-rooms_right.false) in
    window-all rooms c.loop-p.invariant.loop c.loop-p-test.false
