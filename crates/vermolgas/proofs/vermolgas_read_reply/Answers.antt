-- Status and size are packed side by side, and neither is large; a refusal has nothing beside its number.
use Prim.Native.Nat.{ℕ, ◌≤◌}
use mathlib.Core.List.{List}
use mathlib.Core.Path.{◌≡◌, sym, subst}
use mathlib.Core.Bool.{Bool}
use native.Mathlib.Omega.{arith}
use Rattle.reply.specs.Answer.{ReplyAnswer}
use Rattle.reply.specs.Reading.{reply_reading}
use Rattle.reply.proofs.Within.{reply-within}
use Rattle.vermolgas.proofs.Packs.{reply-packed}
use Rattle.vermolgas.proofs.vermolgas_read_reply.Goals as goal

-- What reply reading gives is no longer than a reply.
small : (r : List ℕ) (sum : Bool) (a : ReplyAnswer) → a ≡ reply_reading r sum → a.size ≤ 512
small r sum a e = subst (λ (a : ReplyAnswer). a.size ≤ 512) (sym e) (reply-within r sum)

pub overflow_mul-result-in-Ok : goal.overflow_mul-result-in-Ok
overflow_mul-result-in-Ok c = omega (arith, small _ _ _ c.in-Ok.ensures.outcome)

pub overflow_add-result : goal.overflow_add-result
overflow_add-result c = omega (arith, small _ _ _ c.in-Ok.ensures.outcome)

pub returns-in-Ok : goal.returns-in-Ok
returns-in-Ok c =
    let s = small _ _ _ c.in-Ok.ensures.outcome in
    reply-packed _ _ _ _ (omega arith) (omega arith, omega arith, omega (arith, s)) c.in-Ok.ensures

pub returns-in-Err : goal.returns-in-Err
returns-in-Err c =
    reply-packed _ _ _ _ (omega (arith, c.number.ensures)) (omega (arith, c.number.ensures), omega arith, omega arith)
    c.in-Err.ensures
