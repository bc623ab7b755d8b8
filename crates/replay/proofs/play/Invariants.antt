use Rattle.std.proofs.Common.{◌-◌, length}
use Rattle.playback.specs.Device.{state_of, StillLent}
use Rattle.replay.proofs.Turns.{Playing}
use Rattle.replay.proofs.play.Given as goal

abbrev pub invariant-loop-at : goal.invariant-loop-at
invariant-loop-at l =
    record {
      playing : Playing l.window l.initial.p l.initial.kept (state_of l.initial.device) l.at l.p l.kept (state_of l.device);
      same : StillLent l.initial.device l.device;
    }

abbrev pub decreases-loop-at : goal.decreases-loop-at
decreases-loop-at l = length l.window - l.at
