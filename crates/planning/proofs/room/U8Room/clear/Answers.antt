-- Every byte of a whole number is zero, and what lies behind them is as it was.
use Rattle.std.proofs.Common.{rules}
use Rattle.std.proofs.lemmas.List.{get_or_append_left}
use Rattle.std.proofs.lemmas.Slice.{drop-append-drop}
use Rattle.planning.specs.Rooms.{length-longs}
use Rattle.planning.proofs.Places.{zero-longs}
use Rattle.planning.proofs.room.U8Room.clear.Goals as goal

pub returns-clause-cleared : goal.returns-clause-cleared
returns-clause-cleared c = search (rules, zero-longs, get_or_append_left, c.fill.ensures.clones)

pub returns-clause-behind : goal.returns-clause-behind
returns-clause-behind c = rw length-longs (search (rules, drop-append-drop))
