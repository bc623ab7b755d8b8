-- A row that passes a computed test is its command's, and an opcode that is not on the list of commands is none.
use Prim.Native.Nat.{ℕ, ◌/◌, ◌%◌, ◌≤◌, ◌<◌}
use mathlib.Core.Path.{◌≡◌, refl}
use mathlib.Core.Bool.{Bool, ◌&&◌}
use mathlib.Core.List.{List, [], ◌∷◌}
use native.Mathlib.Omega.{arith}
use borrow.Author.Tests.{ne_eqb}
use lib.Dec.{T, eqb, eqb→eq}
use Rattle.opcode.specs.Commands.{Command, commands, look_up, command_of, none, variable}
use Rattle.opcode.specs.Internal.{Sized}
use Rattle.opcode.proofs.Table.{and_left, and_right}
use Rattle.opcode.proofs.Accepts.Commands.{Each, of-all}

ruleset parts = (and_left, and_right, eqb→eq)

-- The test of a packed row.
unfoldable pub sized : ℕ → Command → Bool
sized x c = eqb (x / 4096 % 16) c.kind && eqb (x / 256 % 16) c.write && eqb (x / 16 % 16) c.read && eqb (x % 16) c.back

pub sizing : (x : ℕ) (c : Command) → T (sized x c) → Sized x c
unfolding sized
sizing x c t = search parts depth 12

-- An opcode that no command of the list has.
not_listed : (op : ℕ) (cs : List Command) → Each (λ c. op ≡ c.opcode → ⊥) cs → look_up op cs ≡ none
not_listed op [] e = refl
not_listed op (c ∷ cs) e = rw (ne_eqb op c.opcode e.0) (not_listed op cs e.1)

pub unlisted : (op : ℕ) → Each (λ c. op ≡ c.opcode → ⊥) commands → command_of op ≡ none
unfolding command_of
unlisted op e = not_listed op commands e

pub beyond : (op : ℕ) → 255 < op → command_of op ≡ none
beyond op h = unlisted op (omega arith)

-- No kind is above that of commands whose size varies.
pub few-kinds : (op : ℕ) → (command_of op).kind ≤ variable
few-kinds op = of-all (λ c. c.kind ≤ variable) (omega arith) (omega arith) op
