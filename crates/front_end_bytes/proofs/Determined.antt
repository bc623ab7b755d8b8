-- The plain promises of one packet and of reset, on bytes, hold of one outcome at most: bytes that
-- hold the same numbers, and are as many, are the same.
use Prim.Native.Nat.{ℕ, ◌+◌, ◌*◌}
use mathlib.Core.Path.{◌≡◌, refl, sym, ap, ◌∙◌}
use mathlib.Core.Bool.{Bool, true, false}
use mathlib.Core.List.{List}
use native.Mathlib.Omega.{arith}
use lib.ListN.{length}
use Rattle.wire.specs.Tables.{words, bytes}
use Rattle.wire.specs.Plain.{Bytes}
use Rattle.tables.proofs.Bytes.{bytes-words}
use Rattle.front_end.specs.State.{State, ResetOut}
use Rattle.front_end.specs.Step.{Out}
use Rattle.front_end.proofs.Determined.{step-determined, reset-determined}
use Rattle.front_end_bytes.specs.Bytes.{Lent, state_in, byte_lengths_right, LentOut, numbers_out, LentReset}
use Rattle.front_end_bytes.specs.Plain.{BytesLent, AllBytes, StepBytesPlain, ResetBytesPlain, Pinned}
use Rattle.front_end_bytes.proofs.Ways.{sized}
use Rattle.front_end_bytes.proofs.Promises.{wrong}

pub pinned : Pinned
pinned =
    record {
      lists = λ b t l g. refl;
      held = λ l. refl;
      answer = λ status fault size l reply. refl;
      numbers-left = λ o. refl;
      reset-answer = λ status l. refl;
    }

pub same-words : (a b : List ℕ) (n : ℕ) → length a ≡ 2 * n → length b ≡ 2 * n → Bytes a → Bytes b → words a ≡ words b → a ≡ b
same-words a b n la lb ha hb e = sym (bytes-words a (omega arith) ha) ∙ ap bytes e ∙ bytes-words b (omega arith) hb

same-lent : {l k : Lent} → BytesLent l → BytesLent k → AllBytes l → AllBytes k → state_in l ≡ state_in k → l ≡ k
same-lent {l} {k} x y s t e =
    joined (ap (λ (u : State). u.block) e)
    (same-words l.staged k.staged 3968 x.staged y.staged s.staged t.staged (ap (λ (u : State). u.staged) e))
    (same-words l.live k.live 3968 x.live y.live s.live t.live (ap (λ (u : State). u.live) e))
    (same-words l.gains k.gains 6048 x.gains y.gains s.gains t.gains (ap (λ (u : State). u.gains) e))
  where
    joined : {b b' t t' l l' g g' : List ℕ} → b ≡ b' → t ≡ t' → l ≡ l' → g ≡ g'
        → ◌≡◌ {A = Lent} (record { block = b; staged = t; live = l; gains = g }) (record { block = b'; staged = t'; live = l'; gains = g' })
    joined b t l g = cc

lent-or : (l : Lent) {P : Type 0} → (BytesLent l → P) → ((BytesLent l → ⊥) → P) → P
lent-or l {P} right not_right = go (byte_lengths_right l) refl
  where
    go : (b : Bool) → byte_lengths_right l ≡ b → P
    go true e = right (sized l e)
    go false e = not_right (wrong l e)

pub step-determined-bytes : (p : List ℕ) → Bytes p → (l : Lent) (reply : List ℕ) (o q : LentOut) → AllBytes o.lent → AllBytes q.lent
    → StepBytesPlain p l reply o → StepBytesPlain p l reply q → o ≡ q
step-determined-bytes p bytes l reply o q small few f g =
    lent-or l
    (λ z.
    let e = step-determined p bytes (state_in l) reply (numbers_out o) (numbers_out q) (λ k h. small.block (865 + k)) (λ k h. few.block (865 + k)) (f.numbers z) (g.numbers z) in
    same (ap (λ (u : Out). u.status) e) (ap (λ (u : Out). u.fault-place) e) (ap (λ (u : Out). u.size) e)
    (same-lent (f.long z) (g.long z) small few (ap (λ (u : Out). u.state) e)) (ap (λ (u : Out). u.reply) e))
    (λ none.
    let x = f.wrong-length none in
    let y = g.wrong-length none in
    same (x.0 ∙ sym y.0) (x.1 ∙ sym y.1) (x.2 ∙ sym y.2) (x.3 ∙ sym y.3) (x.4 ∙ sym y.4))
  where
    same : {n n' f f' size size' : ℕ} {l l' : Lent} {r r' : List ℕ} → n ≡ n' → f ≡ f' → size ≡ size' → l ≡ l' → r ≡ r'
        → ◌≡◌ {A = LentOut} (record { status = n; fault-place = f; size = size; lent = l; reply = r })
        (record { status = n'; fault-place = f'; size = size'; lent = l'; reply = r' })
    same n f z l r = cc

pub reset-determined-bytes : (l : Lent) (o q : LentReset) → AllBytes o.lent → AllBytes q.lent → ResetBytesPlain l o → ResetBytesPlain l q → o ≡ q
reset-determined-bytes l o q small few f g =
    lent-or l
    (λ z.
    let e = reset-determined (state_in l) (record { status = o.status; state = state_in o.lent }) (record { status = q.status; state = state_in q.lent }) (f.numbers z) (g.numbers z) in
    same (ap (λ (u : ResetOut). u.status) e) (same-lent (f.long z) (g.long z) small few (ap (λ (u : ResetOut). u.state) e)))
    (λ none.
    let x = f.wrong-length none in
    let y = g.wrong-length none in
    same (x.0 ∙ sym y.0) (x.1 ∙ sym y.1))
  where
    same : {n n' : ℕ} {l l' : Lent} → n ≡ n' → l ≡ l' → ◌≡◌ {A = LentReset} (record { status = n; lent = l }) (record { status = n'; lent = l' })
    same n l = cc
