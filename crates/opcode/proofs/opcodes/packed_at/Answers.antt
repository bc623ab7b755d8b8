-- The sizes of the rows are their commands' by one test that is computed along all of them; an opcode over 255 is none of the commands.
use Prim.Native.Nat.{ℕ}
use mathlib.Core.Bool.{Bool}
use mathlib.Core.List.{List, [], ◌∷◌, ◌++◌}
use borrow.Author.Rules.{rules}
use lib.ListN.{get_or, replicate}
use Rattle.opcode.specs.Commands.{command_of, none}
use Rattle.opcode.proofs.Table.{everywhere}
use Rattle.opcode.proofs.Rows.{sized, sizing, beyond}
use Rattle.opcode.proofs.opcodes.packed_at.Goals as goal

-- The code's ROWS.
rows : List ℕ
rows =
    replicate 17 0
    ++ (0x1101 ∷ 0x1101 ∷ 0x1202 ∷ [])
    ++ replicate 6 0
    ++ (0x1101 ∷ 0x1101 ∷ 0x1101 ∷ 0x1101 ∷ [])
    ++ replicate 13 0
    ++ (0x2050 ∷ [])
    ++ replicate 8 0
    ++ (0x2040 ∷ 0x2000 ∷ 0x1101 ∷ 0 ∷ 0x2000 ∷ 0x1101 ∷ [])
    ++ replicate 38 0
    ++ (0x1413 ∷ 0x1211 ∷ 0 ∷ 0 ∷ 0 ∷ 0x1716 ∷ [])
    ++ replicate 6 0
    ++ (0x1101 ∷ 0x1B1A ∷ [])
    ++ replicate 146 0

right : ℕ → ℕ → Bool
right op x = sized x (command_of op)

pub returns-then-opcode-gt255 : goal.returns-then-opcode-gt255
unfolding command_of sized rows right
returns-then-opcode-gt255 c = rw (beyond c.args.opcode c.if-opcode-gt255.true) (sizing 0 none tt)

pub returns : goal.returns
unfolding command_of sized rows right
returns c = let op = c.args.opcode in sizing (get_or rows op 0) (command_of op) (everywhere right 0 rows tt op (search rules))
