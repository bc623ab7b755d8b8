-- Several packets, one call after another, each on the state that the last one left.
use Rattle.std.specs.Prelude.{ℕ, List, [], ◌∷◌}
use Rattle.front_end.specs.State.{State}
use Rattle.front_end.specs.Step.{step}
use Rattle.front_end.specs.Writes.{Applies}

-- A call: the packet, and the reply buffer that is lent with it.
pub record Call : Type 0 where
  pub packet : List ℕ
  pub reply : List ℕ

-- The same reply buffer lent with each of some packets.
abbrev pub calls_of : List ℕ → List (List ℕ) → List Call
calls_of reply [] = []
calls_of reply (p ∷ ps) = record { packet = p; reply = reply } ∷ calls_of reply ps

-- The state that calls leave, one after another.
unfoldable pub state_after_all : List Call → State → State
state_after_all [] s = s
state_after_all (x ∷ xs) s = state_after_all xs (step x.packet s x.reply).state

-- Rule 5.6: no packet of the list applies, each judged on the state that it gets.
pub data NoneApplies : List Call → State → Type 0 where
  none : {s : State} → NoneApplies [] s
  next : {x : Call} {xs : List Call} {s : State}
      → (Applies x.packet (step x.packet s x.reply) → ⊥) → NoneApplies xs (step x.packet s x.reply).state
      → NoneApplies (x ∷ xs) s
