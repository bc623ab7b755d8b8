-- What the entries on bytes promise: their equation, the plain promise, which alone determines the
-- outcome, and what the entries on numbers promise besides.
use Rattle.std.specs.Prelude.{ℕ, ◌≡◌, ◌↔◌, List, drop}
use Rattle.front_end.specs.State.{reset_out}
use Rattle.front_end.specs.Demands.{Accepted, Handled, Resets}
use Rattle.front_end_bytes.specs.Bytes.{Lent, state_in, LentOut, numbers_out, step_bytes, LentReset, reset_bytes}
use Rattle.front_end_bytes.specs.Plain.{BytesLent, StepBytesPlain, ResetBytesPlain}

pub record HandledBytes (p : List ℕ) (l : Lent) (reply : List ℕ) (o : LentOut) : Type 0 where
  pub outcome : o ≡ step_bytes p l reply
  pub plain : StepBytesPlain p l reply o
  -- Rule 4.2: a status other than 0 leaves block, staged, live and gains, byte for byte, as they
  -- were.
  pub unchanged : (o.status ≡ 0 → ⊥) → o.lent ≡ l
  -- The reply buffer changes only where the reply is written.
  pub behind : drop o.size o.reply ≡ drop o.size reply
  pub exactly : (o.status ≡ 0) ↔ (BytesLent l × Accepted p (state_in l) reply)
  pub numbers : BytesLent l → Handled p (state_in l) reply (numbers_out o)

-- Rule 5.10, on bytes.
pub record ResetsBytes (l : Lent) (o : LentReset) : Type 0 where
  pub outcome : o ≡ reset_bytes l
  pub plain : ResetBytesPlain l o
  pub exactly : (o.status ≡ 0) ↔ BytesLent l
  pub numbers : BytesLent l → Resets (state_in l) (reset_out o.status (state_in o.lent))
