-- The size is packed behind the status: a made packet is no longer than 512 bytes. A refusal has its place, which lies within one, beside its number.
use Prim.Native.Nat.{ℕ, ◌≤◌, ◌<◌}
use mathlib.Core.List.{List}
use mathlib.Core.Path.{◌≡◌, sym, subst}
use native.Mathlib.Omega.{arith}
use Rattle.packet.specs.Making.{Made, made}
use Rattle.packet.proofs.Frames.{refusal-few}
use Rattle.packet.proofs.Within.{made-within}
use Rattle.vermolgas.proofs.Packs.{make-packed}
use Rattle.vermolgas.proofs.vermolgas_make.Goals as goal

small : (op options : ℕ) (d buffer : List ℕ) (m : Made) → m ≡ made op options d buffer → (m.size ≤ 512) × (m.fault-place < 512)
small op options d buffer m e = subst (λ (m : Made). (m.size ≤ 512) × (m.fault-place < 512)) (sym e) (made-within op options d buffer)

pub packed-requires : goal.packed-requires
packed-requires c = let s = small _ _ _ _ _ c.in-Ok.ensures.outcome in (s.0, omega arith)

pub packed-requires-in-Err : goal.packed-requires-in-Err
packed-requires-in-Err c = let s = small _ _ _ _ _ c.in-Err.ensures.outcome in (omega arith, omega (arith, s))

pub returns-in-Ok : goal.returns-in-Ok
returns-in-Ok c =
    let s = small _ _ _ _ _ c.in-Ok.ensures.outcome in
    make-packed _ _ _ _ _ _ (omega (arith, c.packed.ensures)) (omega arith, omega (arith, s), omega arith) c.in-Ok.ensures

pub returns-in-Err : goal.returns-in-Err
returns-in-Err c =
    let few = refusal-few c.in-Err.why in
    let s = small _ _ _ _ _ c.in-Err.ensures.outcome in
    make-packed _ _ _ _ _ _ (omega (arith, c.packed-in-Err.ensures, c.number.ensures, c.place.ensures)) (omega (arith, few), omega arith, omega (arith, s)) c.in-Err.ensures
