use Rattle.playback.proofs.Turns.{turned_none, turned-one, rest-is}
use Rattle.playback.proofs.turn.Goals as goal

pub packet-requires : goal.packet-requires
packet-requires c = c.next-t.ensures.within.lies c.in-Some.is

pub returns-in-None-clause-turned : goal.returns-in-None-clause-turned
returns-in-None-clause-turned c = turned_none (rw rest-is at c.next-t.ensures) c.in-None.is c.requires.0 c.requires.4

pub returns-in-Some-clause-turned : goal.returns-in-Some-clause-turned
returns-in-Some-clause-turned c =
    turned-one c.in-Some.found (rw rest-is at c.next-t.ensures) c.in-Some.is c.requires.0 c.requires.4 c.requires.2
    (rw (c.packet.ensures, rest-is) at c.answer.ensures.answered)
