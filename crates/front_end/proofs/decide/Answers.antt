-- A refusal of reading stands; the command that reading gives is placed on the part of the packet
-- that holds its data.
use mathlib.Core.Path.{◌≡◌}
use native.Mathlib.Omega.{arith}
use Rattle.std.proofs.Common.{Err}
use Rattle.front_end.proofs.Bounds.{refusal-stands, command-placed}
use Rattle.front_end.proofs.decide.Goals as goal

pub returns-in_err-command : goal.returns-in_err-command
returns-in_err-command c =
    let up : c.from_residual.result ≡ Err c.in_err-command.field-0.0 = grind arith in
    rw up (refusal-stands _ _ _ _ c.in_err-command.ensures.outcome)

pub returns-then-runs_past : goal.returns-then-runs_past
returns-then-runs_past c =
    let past = rw c.data.ensures at c.runs_past.ensures in
    rw c.if-runs_past.true at (command-placed _ _ _ _ _ _ _ c.in_ok-command.ensures.outcome past)

pub returns : goal.returns
returns c =
    let past = rw c.data.ensures at c.runs_past.ensures in
    rw c.if-runs_past.false at (command-placed _ _ _ _ _ _ _ c.in_ok-command.ensures.outcome past)
