-- The tests are those of refusal 1, where the lengths are right.
use borrow.Author.Tests.{lt-leb, le-leb, lt-ltb}
use Rattle.front_end.specs.State.{stopped}
use Rattle.front_end_tables.proofs.Lengths.{held-right}
use Rattle.front_end_tables.proofs.state.State.stops.Goals as goal

pub returns-then-reply-lt-REPLY_ROOM : goal.returns-then-reply-lt-REPLY_ROOM
unfolding stopped
returns-then-reply-lt-REPLY_ROOM g c = rw (held-right c.args.self.now g.T.Element.laws, lt-leb 512 _ c.if-reply-lt-REPLY_ROOM.true) (lt-ltb _ _ c.if-reply-lt-REPLY_ROOM.true)

pub returns-else-reply-lt-REPLY_ROOM : goal.returns-else-reply-lt-REPLY_ROOM
unfolding stopped
returns-else-reply-lt-REPLY_ROOM g c = rw (held-right c.args.self.now g.T.Element.laws, le-leb 512 _ c.if-reply-lt-REPLY_ROOM.false, ← c.in_range.ensures.test)
