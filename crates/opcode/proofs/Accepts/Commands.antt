-- The list of commands walked: what holds of each command at its opcode, and of `none` at any, holds at every opcode of its command.
use Prim.Native.Nat.{ℕ, ◌<◌}
use mathlib.Core.Path.{◌≡◌, refl}
use mathlib.Core.Bool.{false, true≢false}
use mathlib.Core.List.{List, [], ◌∷◌}
use native.Mathlib.Decide.{ℕ_discrete}
use native.Mathlib.Omega.{arith}
use lib.Dec.{eqb}
use borrow.Author.Tests.{eq-eqb, ne_eqb}
use Rattle.opcode.specs.Commands.{Command, commands, command_of, look_up, none, not_carried, variable}
use Rattle.opcode.specs.Judgement.{unknown}
use Rattle.opcode.proofs.Accepts.Fields.{span, least}

-- Of each command of a list, written `first & second & .. & tt`.
infixr 4 ◌&◌
abbrev pub ◌&◌ : {A B : Type 0} → A → B → A × B
a & b = (a, b)

abbrev pub Each : (Command → Type 0) → List Command → Type 0
Each P [] = Unit
Each P (c ∷ cs) = P c × Each P cs

walk : (P : ℕ → Command → Type 0) → ((op : ℕ) → P op none) → (cs : List Command) → Each (λ c. P c.opcode c) cs
    → (op : ℕ) → P op (look_up op cs)
walk P n [] e op = n op
walk P n (c ∷ cs) e op =
    elim (ℕ_discrete op c.opcode)
    [ yes q ↦ rw (eq-eqb op c.opcode q, q) e.0 | no q ↦ rw (ne_eqb op c.opcode q) (walk P n cs e.1 op) ]

pub of-each : (P : ℕ → Command → Type 0) → ((op : ℕ) → P op none) → Each (λ c. P c.opcode c) commands → (op : ℕ) → P op (command_of op)
unfolding command_of
of-each P n e op = walk P n commands e op

pub of-all : (P : Command → Type 0) → P none → Each P commands → (op : ℕ) → P (command_of op)
of-all P n e op = of-each (λ op c. P c) (λ op. n) e op

if-carried : (P : ℕ → Type 0) (cs : List Command) → Each (λ c. P c.opcode) cs
    → Each (λ c. eqb c.kind not_carried ≡ false → P c.opcode) cs
if-carried P [] e = tt
if-carried P (c ∷ cs) e = (λ h. e.0, if-carried P cs e.1)

pub of-carried : (P : ℕ → Type 0) → Each (λ c. P c.opcode) commands → (op : ℕ) → unknown op ≡ false → P op
of-carried P e op =
    of-each (λ op c. eqb c.kind not_carried ≡ false → P op) (λ op h. absurd (true≢false h)) (if-carried P commands e) op

-- The sizes in the list are those of the fields.
pub asks_span : (op : ℕ) → span (command_of op).asks ≡ (command_of op).read
asks_span op = of-all (λ c. span c.asks ≡ c.read) refl (omega arith) op

pub asks-sized : (op : ℕ) → 0 < least (command_of op).asks
asks-sized op = of-all (λ c. 0 < least c.asks) (omega arith) (omega arith) op

pub sets_span : (op : ℕ) → ((command_of op).kind ≡ variable → ⊥) → span (command_of op).sets ≡ (command_of op).write
sets_span op = of-all (λ c. (c.kind ≡ variable → ⊥) → span c.sets ≡ c.write) (λ m. refl) (omega arith) op

pub sets-sized : (op : ℕ) → 0 < least (command_of op).sets
sets-sized op = of-all (λ c. 0 < least c.sets) (omega arith) (omega arith) op
