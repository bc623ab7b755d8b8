-- What a replay is lent for its packets, as the front end's definitions speak of it.
use Rattle.std.specs.Prelude.{◌≡◌, length}
use Rattle.wire.specs.Refusals.{status_if, fault_if}
use Rattle.front_end.specs.declared.Outcome.{Outcome}
use Rattle.front_end.specs.State.{State, state}
use Rattle.front_end.specs.Step.{Out, out}
use Rattle.playback.specs.declared.Device.{Device}

abbrev pub state_of : Device → State
state_of d = state d.block.now d.staged.now d.live.now d.gains.now

-- What handling a packet has answered and left.
abbrev pub step_of : Outcome → Device → Out
step_of o d = out (status_if o.refused) (fault_if o.refused) o.size (state_of d) d.reply.now

-- The lists are the same that were lent, and as long.
pub record StillLent (d e : Device) : Type 0 where
  pub block : e.block.ghost_name ≡ d.block.ghost_name
  pub staged : e.staged.ghost_name ≡ d.staged.ghost_name
  pub live : e.live.ghost_name ≡ d.live.ghost_name
  pub gains : e.gains.ghost_name ≡ d.gains.ghost_name
  pub reply : e.reply.ghost_name ≡ d.reply.ghost_name
  pub block-long : length e.block.now ≡ length d.block.now
  pub staged-long : length e.staged.now ≡ length d.staged.now
  pub live-long : length e.live.now ≡ length d.live.now
  pub gains-long : length e.gains.now ≡ length d.gains.now
  pub reply-long : length e.reply.now ≡ length d.reply.now
