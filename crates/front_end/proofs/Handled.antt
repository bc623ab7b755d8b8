-- What the entries promise of one packet, from the equation that their code meets.
use Prim.Native.Nat.{ℕ, ◌<◌}
use mathlib.Core.Path.{◌≡◌, refl}
use mathlib.Core.List.{List, [], ◌∷◌}
use native.Mathlib.Omega.{arith}
use lib.ListN.{get_or}
use Rattle.opcode.proofs.Faults.{Located}
use Rattle.opcode.proofs.Faults.{located}
use Rattle.packet.specs.Frame.{opcode_of, options_of, data_of}
use Rattle.packet.specs.Reading.{frame_refusals}
use Rattle.packet.proofs.Exactly.{bytes-of-data}
use Rattle.front_end.specs.State.{State, stopped}
use Rattle.front_end.specs.Commands.{runs_past}
use Rattle.front_end.specs.Step.{Out, reads, number_of, step}
use Rattle.front_end.specs.Demands.{Handled}
use Rattle.front_end.proofs.Demands.{runs, right-running, demand1, accepted-exactly}
use Rattle.front_end.proofs.Plain.{step-plain}
use Rattle.front_end.proofs.ReadBack.{replied}
use Rattle.front_end.proofs.Kept.{tail-kept}
use Rattle.front_end.proofs.Live.{one_kept}
use Rattle.front_end.proofs.InRange.{stays_lent}
use Rattle.front_end.proofs.Applied.{applied, cleared_by}
use Rattle.front_end.proofs.Same.{same_write}
use Rattle.front_end.proofs.Unmarked.{unmarked}

-- Refusals 1 to 6 stand before those of the command, and 12 behind them.
step-located : (p : List ℕ) → ((k : ℕ) → get_or p k 0 < 256) → (s : State) (reply : List ℕ)
    → Located (opcode_of p) (options_of p) (data_of p) (step p s reply).status (step p s reply).fault-place
unfolding step number_of
step-located p bytes s reply =
    located (opcode_of p) (options_of p) (data_of p) ((1, stopped s reply) ∷ frame_refusals p)
    ((12, runs_past (opcode_of p) (reads p) (data_of p) s.block) ∷ []) (omega arith) (bytes-of-data p bytes) refl refl

pub handled : (p : List ℕ) → ((k : ℕ) → get_or p k 0 < 256) → (s : State) (reply : List ℕ) {o : Out} → o ≡ step p s reply → Handled p s reply o
handled p bytes s reply e =
    rw e
    (record {
      outcome = refl;
      plain = step-plain p bytes s reply (step-located p bytes s reply);
      exactly = accepted-exactly p bytes s reply;
      behind = (demand1 p s reply).behind;
      reply-meant = replied p s reply;
      stays = stays_lent p bytes s reply;
      tail = tail-kept p s reply;
      applied = applied p s reply;
      cleared_by = cleared_by p s reply;
      live = one_kept p s reply;
      unmarked = λ t h. unmarked p bytes s t reply h;
      same_write = λ l. same_write p s reply (runs s reply (right-running l));
    })
