-- What only functions inside the library need, to say what they do. No rule stands here.
use Rattle.std.specs.Prelude.{ℕ, zero, suc, ◌+◌, ◌*◌, ◌≤◌, ◌≡◌, false, cond, ◌||◌, List, set, eqb}
use Rattle.opcode.specs.Commands.{command_of}
use Rattle.opcode.specs.Judgement.{unknown}

-- How reset's code writes runs of equal bytes: v stored n times, from a place on and step places apart.
unfoldable pub spread_over : List ℕ → ℕ → ℕ → ℕ → ℕ → List ℕ
spread_over block place step v zero = block
spread_over block place step v (suc n) = set (spread_over block place step v n) (place + step * n) v

-- The bytes that a command of a fixed size has at its place: 0 for those whose size varies, and 1
-- for any other number.
unfoldable pub size_by_opcode : ℕ → ℕ
size_by_opcode op =
    cond (eqb op 0x13) 2
    (cond (eqb op 0x2B || eqb op 0x34 || eqb op 0x35 || eqb op 0x38) 0 (cond (eqb op 0x60) 3 (cond (eqb op 0x65) 6 (cond (eqb op 0x6D) 10 1))))

-- That size; of a carried command it is what the list of commands says; of any, few.
pub record KeptSize (op r : ℕ) : Type 0 where
  pub outcome : r ≡ size_by_opcode op
  pub carried : unknown op ≡ false → r ≡ (command_of op).back
  pub few : r ≤ 10
