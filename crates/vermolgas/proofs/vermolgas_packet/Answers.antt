-- Status, size and place are packed side by side: no reply is longer than 512 bytes, and a place lies within a packet.
use Prim.Native.Nat.{ℕ, ◌≤◌, ◌<◌}
use mathlib.Core.List.{List}
use mathlib.Core.Path.{◌≡◌, subst, sym}
use native.Mathlib.Omega.{arith}
use Rattle.front_end_bytes.specs.Bytes.{Lent, LentOut, step_bytes}
use Rattle.vermolgas.proofs.Packs.{out-packed}
use Rattle.vermolgas.proofs.Small.{step-bytes-small}
use Rattle.vermolgas.proofs.vermolgas_packet.Goals as goal

small : (p : List ℕ) (l : Lent) (reply : List ℕ) (o : LentOut) → o ≡ step_bytes p l reply → (o.size ≤ 512) × (o.fault-place < 512)
small p l reply o e =
    let s = step-bytes-small p l reply in
    subst (λ (o : LentOut). (o.size ≤ 512) × (o.fault-place < 512)) (sym e) (s.size, s.fault-place)

pub packed-requires : goal.packed-requires
packed-requires c =
    let s = small _ _ _ _ c.handle-o.ensures.outcome in
    (s.0, omega (arith, s, c.place.ensures))

pub returns : goal.returns
returns c =
    let s = small _ _ _ _ c.handle-o.ensures.outcome in
    out-packed _ _ _ _ _ (omega (arith, c.packed.ensures, c.status.ensures, c.place.ensures))
    (omega (arith, c.status.ensures), omega (arith, s), omega (arith, s)) c.handle-o.ensures
