use Rattle.std.proofs.Common.{◌-◌, length}
use Rattle.playback.specs.Device.{state_of, StillLent}
use Rattle.playback.proofs.Turns.{Loop}
use Rattle.playback.proofs.replay.Given as goal

abbrev pub invariant-loop-p : goal.invariant-loop-p
invariant-loop-p l =
    record {
      loop : Loop l.window l.initial.p l.initial.kept (state_of l.initial.device) l.initial.device.reply.now l.initial.out
          l.p l.kept (state_of l.device) l.device.reply.now l.out;
      same : StillLent l.initial.device l.device;
    }

abbrev pub decreases-loop-p : goal.decreases-loop-p
decreases-loop-p l = length l.window - l.p.at
