-- Rules 9.1 and 9.3: what the bytes of a session file are, said with the numbers themselves and
-- apart from any reading.
use Rattle.std.specs.Prelude.{ℕ, ◌+◌, ◌*◌, ◌≤◌, ◌<◌, ◌≡◌, List, [], ◌∷◌, ◌++◌, length, take}
use Rattle.wire.specs.Numbers.{word_at}

-- Rule 9.1: the file begins with `PJL` and the version 1 in two bytes.
abbrev pub HasPreamble : List ℕ → Type 0
HasPreamble file = take 5 file ≡ 0x50 ∷ 0x4A ∷ 0x4C ∷ 1 ∷ 0 ∷ []

-- Rule 9.3: no whole record stands at the start of the bytes: under two, or under what the length
-- asks for.
pub record Cut (h : List ℕ) : Type 0 where
  pub short : 2 ≤ length h → length h < 2 + word_at h 0

-- Rules 9.1 and 9.3: bytes are records, one behind the other, each with its length before it, and
-- what is left is none.
pub data Splits : List ℕ → List (List ℕ) → List ℕ → Type 0 where
  ends : {h : List ℕ} → Cut h → Splits h [] h
  next : {low high : ℕ} {packet rest : List ℕ} {packets : List (List ℕ)} {h : List ℕ}
      → low + 256 * high ≡ length packet → Splits rest packets h
      → Splits (low ∷ high ∷ (packet ++ rest)) (packet ∷ packets) h
