-- What is promised of tables of any elements is, of numbers as they are, what the rules say.
use Rattle.std.proofs.Common.{ℕ, ◌≡◌, Bool, true, false, refl, sym, List}
use Rattle.wire.specs.Elements.{themselves}
use Rattle.front_end.specs.State.{stopped, reset, reset_out}
use Rattle.front_end.specs.Step.{out, step}
use Rattle.front_end.proofs.Steps.{step-stopped}
use Rattle.front_end_tables.specs.Lent.{Lent, held, lengths_right, Handled, Reset}

pub stepped : {p : List ℕ} {l l₂ : Lent ℕ} {reply reply₂ : List ℕ} {status fault size : ℕ}
    → Handled 1 themselves p l reply status fault size l₂ reply₂
    → out status fault size (held themselves l₂) reply₂ ≡ step p (held themselves l) reply
unfolding stopped
stepped {p} {l} {l₂} {reply} {reply₂} {status} {fault} {size} h = go (lengths_right 1 l) refl
  where
    go : (b : Bool) → lengths_right 1 l ≡ b → out status fault size (held themselves l₂) reply₂ ≡ step p (held themselves l) reply
    go true e = h.right e
    go false e =
        let w = h.wrong e in
        rw (w.0, w.1, w.2, w.3, w.4) (sym (step-stopped p (held themselves l) reply (rw e refl)))

pub put-back : {l l₂ : Lent ℕ} {status : ℕ} → Reset 1 themselves l status l₂
    → reset_out status (held themselves l₂) ≡ reset (held themselves l)
unfolding reset
put-back {l} {l₂} {status} h = go (lengths_right 1 l) refl
  where
    go : (b : Bool) → lengths_right 1 l ≡ b → reset_out status (held themselves l₂) ≡ reset (held themselves l)
    go true e = let r = h.right e in rw (e, r.0, r.1) refl
    go false e = let w = h.wrong e in rw (e, w.0, w.1) refl
