-- Rules 4.1, 4.6 and 5.5 with the numbers themselves: what the rising test of 35h, called alone,
-- answers. No other answer meets this (proofs/Determined).
use Rattle.std.specs.Prelude.{ℕ, ◌+◌, ◌*◌, ◌≡◌, ◌↔◌, List, ◌∷◌, length}
use Rattle.opcode.specs.Allowed.{Allowed}
use Rattle.opcode.specs.Faults.{FirstFault}

-- Of a write of 35h with a length field (header bit 4), whose data is the mode 1 and the lists.
pub record RisingPlain (lists : List ℕ) (answer : ℕ) : Type 0 where
  -- 0 exactly if such a write is allowed, and 9 exactly if the lists are not 188 bytes.
  pub exactly : (answer ≡ 0) ↔ Allowed 0x35 16 (1 ∷ lists)
  pub nine : (answer ≡ 9) ↔ (length lists ≡ 188 → ⊥)
  -- Else 10, and in bits 32 and up the place of the first entry that is not above the one before
  -- it.
  pub ten : (answer ≡ 0 → ⊥) → (answer ≡ 9 → ⊥) → (fault : ℕ) × (answer ≡ 10 + 4294967296 * fault) × FirstFault 0x35 16 (1 ∷ lists) fault
