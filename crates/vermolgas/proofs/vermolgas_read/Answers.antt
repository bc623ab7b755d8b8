-- A command's values are packed side by side, and none of them is large; a refusal has its place beside its number.
use Prim.Native.Nat.{ℕ}
use mathlib.Core.List.{List}
use mathlib.Core.Path.{◌≡◌, sym, subst}
use native.Mathlib.Omega.{arith}
use Rattle.packet.specs.Reading.{Answer, reading}
use Rattle.packet.proofs.Frames.{refusal-few}
use Rattle.packet.proofs.Within.{Within, reading-within}
use Rattle.vermolgas.proofs.Packs.{read-packed}
use Rattle.vermolgas.proofs.vermolgas_read.Goals as goal

-- What reading gave lies within the packet.
within : (p : List ℕ) (a : Answer) → a ≡ reading p → Within a p
within p a e = subst (λ (a : Answer). Within a p) (sym e) (reading-within p)

pub overflow_mul-result-in-Err : goal.overflow_mul-result-in-Err
overflow_mul-result-in-Err c = let w = within _ _ c.in-Err.ensures.outcome in omega (arith, w.fault-place)

pub overflow_add-result-in-Err : goal.overflow_add-result-in-Err
overflow_add-result-in-Err c = let w = within _ _ c.in-Err.ensures.outcome in omega (arith, w.fault-place)

pub returns-in-Ok : goal.returns-in-Ok
returns-in-Ok c =
    let w = within _ _ c.in-Ok.ensures.outcome in
    read-packed _ _ _ (omega arith)
    (omega arith, omega arith, omega arith, omega (arith, w.place), omega (arith, w.size), omega arith)
    c.in-Ok.ensures

pub returns-in-Err : goal.returns-in-Err
returns-in-Err c =
    let few = refusal-few c.in-Err.why in
    let w = within _ _ c.in-Err.ensures.outcome in
    read-packed _ _ _ (omega (arith, c.number.ensures, c.place.ensures))
    (omega (arith, few), omega arith, omega arith, omega arith, omega arith, omega (arith, w.fault-place))
    c.in-Err.ensures
