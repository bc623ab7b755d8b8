-- Two stores of a word are one of the number. A place behind the room's end is none.
use Rattle.std.proofs.Common.{◌+◌, ◌*◌, ◌/◌, ◌%◌, sym, ◌∙◌, arith, length}
use lib.Seq.{set_out}
use Rattle.wire.specs.Tables.{longs}
use Rattle.planning.specs.Rooms.{length-longs}
use Rattle.planning.proofs.Places.{put-longs, behind-put}
use Rattle.planning.proofs.room.U8Room.keep.Goals as goal

pub returns-then-i-room-clause-kept : goal.returns-then-i-room-clause-kept
returns-then-i-room-clause-kept c =
    put-longs c.args.room.now c.args.i c.args.v c.put_word.ensures c.put_word-then-i-room.ensures

pub returns-else-i-room-clause-kept : goal.returns-else-i-room-clause-kept
returns-else-i-room-clause-kept c =
    let room = c.args.room.now in
    sym (set_out (longs room) c.args.i c.args.v (omega (arith, length-longs room)))

pub returns-then-i-room-clause-behind : goal.returns-then-i-room-clause-behind
returns-then-i-room-clause-behind c =
    let room = c.args.room.now in
    let whole = length-longs room in
    let low = behind-put room (4 * length (longs room)) (4 * c.args.i) (c.args.v % 65536) c.put_word.ensures (omega arith) (omega arith) in
    let high =
    behind-put c.put_word.new.dst (4 * length (longs room)) (4 * c.args.i + 2) (c.args.v / 65536) c.put_word-then-i-room.ensures (omega arith) (omega (arith, low.1)) in
    high.0 ∙ low.0
