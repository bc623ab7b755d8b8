-- No refusal from 7 to 11 is given exactly if the data is allowed for the opcode under its options. The step between the two is `Silent`:
-- each of the five tests is false.
pub mod Fields
pub mod Lists
pub mod Commands
pub mod Reads
pub mod Passes
pub mod Varying
pub mod Writes
use Prim.Native.Nat.{ℕ, ◌<◌}
use mathlib.Core.Path.{◌≡◌}
use mathlib.Core.Logic.{◌↔◌}
use mathlib.Core.List.{List}
use native.Mathlib.Decide.{ℕ_discrete}
use native.Mathlib.Omega.{arith}
use lib.ListN.{get_or}
use Rattle.wire.specs.First.{first}
use Rattle.opcode.specs.Options.{is_read}
use Rattle.opcode.specs.Judgement.{judgement}
use Rattle.opcode.specs.Allowed.{Allowed}
use Rattle.wire.proofs.Tests.{Silent, silent-first, first-silent}
use Reads.{read-silent, silent-read}
use Writes.{write-silent, silent-write, silent-length}

-- This way elements need not be bytes.
silent-allowed : (op o : ℕ) (d : List ℕ) → Silent (judgement op o d) → Allowed op o d
unfolding judgement
silent-allowed op o d s =
    elim (ℕ_discrete (is_read o) 1) [
      | yes h ↦ Allowed.asks h (silent-read op o d h s)
      | no h ↦
          let w : is_read o ≡ 0 = omega arith in
          Allowed.sets w (silent-write op o d w s) (silent-length op o d w s)
    ]

allowed-silent : {op o : ℕ} {d : List ℕ} → ((k : ℕ) → get_or d k 0 < 256) → Allowed op o d → Silent (judgement op o d)
unfolding judgement
allowed-silent {op} {o} {d} b (Allowed.asks h r) = read-silent op o d b h r
allowed-silent {op} {o} {d} b (Allowed.sets h w l) = write-silent op o d b h w l

pub accepts : (op o : ℕ) (d : List ℕ) → ((k : ℕ) → get_or d k 0 < 256) → (first (judgement op o d) ≡ 0) ↔ Allowed op o d
unfolding judgement
accepts op o d b = (
  λ e. silent-allowed op o d (first-silent (judgement op o d) (omega arith) e),
  λ a. silent-first (judgement op o d) (allowed-silent b a),
)
