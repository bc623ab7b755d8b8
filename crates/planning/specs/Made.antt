-- Rules 6.4 and 6.5: what planning answers and leaves where nothing is refused.
use Rattle.std.specs.Prelude.{ℕ, ◌≡◌, ◌<◌, List, take, get_or}
use Rattle.wire.specs.Buffers.{over}
use Rattle.upload.specs.Plan.{followed}
use Rattle.upload.specs.Planning.{room_of, choices_of, PlanWritten}
use Rattle.batch.specs.declared.Sent.{Sent}

-- Numbers of 16 bits.
abbrev pub Small : List ℕ → Type 0
Small list = (k : ℕ) → get_or list k 0 < 65536

-- The room's first numbers and the choices are measured; plan and batch follow the choices.
pub record Made (n : ℕ) (held wanted plan₀ choices₀ batch₀ plan room choices batch : List ℕ) (sent : Sent) : Type 0 where
  pub room-is : room ≡ room_of held wanted
  pub choices-is : choices ≡ over (choices_of held wanted) choices₀
  pub written : PlanWritten wanted (followed 0 0 (take n choices)) plan₀ batch₀ plan batch sent.packets sent.bytes
