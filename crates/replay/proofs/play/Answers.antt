use Rattle.std.proofs.Common.{refl, rules}
use Rattle.replay.proofs.Turns.{play-start, play-on, play-all}
use Rattle.replay.proofs.play.Goals as goal

pub loop-at-init : goal.loop-at-init
loop-at-init c = record { playing = play-start _ _ _ _; same = search rules }

pub loop-at-preserved : goal.loop-at-preserved
loop-at-preserved c =
    record { playing = play-on c.loop-at.invariant.playing c.play_some-p.ensures.played c.if-p-eq0.false; same = search rules }

pub returns-after-loop-at-clause-played : goal.returns-after-loop-at-clause-played
returns-after-loop-at-clause-played c = play-all c.loop-at.invariant.playing refl refl refl refl
