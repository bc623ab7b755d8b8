-- Rule 6.6: a batch under writing is the lent buffer and how far it is filled.
use Rattle.std.specs.Prelude.{ℕ, ◌+◌, ◌*◌, ◌≤◌, ◌<◌, List, ◌++◌, length}
use Rattle.std.proofs.lemmas.List.Edits.{sets}
use denote.Ref.{MutBor, at_last}
use Rattle.wire.specs.Numbers.{word_bytes}
use Rattle.batch.specs.declared.Batch.{Batch}

-- A batch of which so much is filled, and one with such bytes behind what was filled.
abbrev pub opened : MutBor (List ℕ) → ℕ → Batch
opened buffer filled = record { buffer = buffer; filled = filled }

abbrev pub behind : Batch → List ℕ → Batch
behind b s =
    opened (at_last b.buffer (sets b.buffer.now b.filled s)) (b.filled + length s)

-- A number of 16 bits has room from a place on.
abbrev pub WordFits : List ℕ → ℕ → ℕ → Type 0
WordFits buffer at v = (at + 2 ≤ length buffer) × (v < 65536)

-- Rules 2.1 and 6.3: header 14h and opcode as one number, and with it the length: what a packet
-- begins with.
abbrev pub head_of : ℕ → ℕ → List ℕ
head_of opcode size = word_bytes (0x14 + 256 * opcode) ++ word_bytes size

abbrev pub HeadFits : List ℕ → ℕ → ℕ → ℕ → Type 0
HeadFits buffer at opcode size = (at + 4 ≤ length buffer) × (opcode < 256) × (size < 65536)
