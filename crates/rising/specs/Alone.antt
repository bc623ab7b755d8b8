-- Rule 5.5: the rising test of 35h called alone, on the 188 bytes of its two lists: what the write that carries them in mode 1 is judged by.
use Rattle.std.specs.Prelude.{ℕ, ◌+◌, ◌*◌, ◌<◌, ◌≡◌, List, ◌∷◌, length, get_or, eqb}
use Rattle.wire.specs.First.{first}
use Rattle.opcode.specs.Judgement.{judgement, fault_place}
use Rattle.settings.specs.Ranges.{lists_rise}
use Rattle.rising.specs.Plain.{RisingPlain}

-- The write: its opcode, its options, which are bit 4 alone, a length field (rule 2.2), and its data, the mode 1 in front of the lists.
abbrev pub opcode : ℕ
opcode = 0x35

abbrev pub options : ℕ
options = 16

abbrev pub written : List ℕ → List ℕ
written lists = 1 ∷ lists

-- Rule 4.1: its refusal, 0 for none, and rule 4.6: the place that this names.
abbrev pub refusal : List ℕ → ℕ
refusal lists = first (judgement opcode options (written lists))

abbrev pub place : List ℕ → ℕ
place lists = fault_place (refusal lists) opcode options (written lists)

-- Rules 1.3 and 4.6: both in one number, as the C entries have them: status in bits 0-7, place in 32-47.
abbrev pub packed : ℕ → ℕ → ℕ
packed number fault = number + 4294967296 * fault

-- Rules 4.1, 4.6 and 5.5: what the entry promises of its answer.
pub record RisingTold (lists : List ℕ) (answer : ℕ) : Type 0 where
  pub judged : answer ≡ packed (refusal lists) (place lists)
  pub plain : RisingPlain lists answer
  -- Rule 4.1, 1: where the same bytes are stored as the lists of a shape, refusal 1's test of the lists decides alike.
  pub stored : (block : List ℕ) (shape : ℕ) → length lists ≡ 188 → ((k : ℕ) → k < 188 → get_or block (shape + 5 + k) 0 ≡ get_or lists k 0)
      → eqb answer 0 ≡ lists_rise block shape
