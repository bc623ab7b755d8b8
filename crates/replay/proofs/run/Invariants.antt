use Rattle.std.proofs.Common.{◌≡◌}
use Rattle.playback.specs.Device.{state_of}
use Rattle.replay.specs.declared.Way.TheVariants.{More}
use Rattle.replay.proofs.FromReset.{SoFar}
use Rattle.replay.proofs.run.Given as goal

abbrev pub invariant-loop : goal.invariant-loop
invariant-loop l = record { so_far : SoFar l.counter l.s l.kept (state_of l.device); goes_on : l.s.how ≡ More }
