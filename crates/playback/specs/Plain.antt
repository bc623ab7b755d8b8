-- Rules 9.2 to 9.4: the text of a replay and its end state, said with the numbers themselves. What
-- a packet does (`step`) and what reset leaves are the controller's. And what the name means that
-- the contracts cite.
use Rattle.std.specs.Prelude.{ℕ, ◌+◌, ◌<◌, ◌≡◌, List, [], ◌∷◌, ◌++◌, length, take, drop, get_or}
use Rattle.text.specs.Plain.{Decimal, InHex}
use Rattle.session_file.specs.Plain.{HasPreamble, Splits}
use Rattle.front_end.specs.State.{State, state, reset_state}
use Rattle.front_end.specs.Step.{step}
use Rattle.playback.specs.declared.Device.{Device}
use Rattle.playback.specs.Device.{state_of}

-- Rule 9.6: so many records can be counted: fewer than 2^64 - 1; and those of a file can.
abbrev pub Counted : ℕ → Type 0
Counted n = n < 18446744073709551615

abbrev pub Countable : List ℕ → Type 0
Countable file = (packets : List (List ℕ)) (rest : List ℕ) → Splits (drop 5 file) packets rest → Counted (length packets)

-- The reply buffer of each record: 512 bytes, all 0.
pub record Fresh (buffer : List ℕ) : Type 0 where
  pub long : length buffer ≡ 512
  pub zeros : (k : ℕ) → get_or buffer k 0 ≡ 0

-- Rule 9.2: what a line says: number, status and reply, which read back; a blank between number and
-- status, and a newline at the end.
pub record Says (number status : ℕ) (reply text : List ℕ) : Type 0 where
  pub number-text : List ℕ
  pub status-text : List ℕ
  pub reply-text : List ℕ
  pub all : text ≡ number-text ++ (32 ∷ []) ++ status-text ++ reply-text ++ (10 ∷ [])
  pub number-there : Decimal number number-text
  pub status-there : Decimal status status-text
  pub reply-there : InHex reply reply-text

-- Rule 9.2: a line for each record, of the status and the reply that it gets on the state that the
-- one before it left; and the state that the last one leaves.
pub data Recounts (buffer : List ℕ) : ℕ → List (List ℕ) → State → List ℕ → State → Type 0 where
  none : {n : ℕ} {s : State} → Recounts buffer n [] s [] s
  next : {n : ℕ} {p : List ℕ} {ps : List (List ℕ)} {s t : State} {a rest : List ℕ}
      → Says (n + 1) (step p s buffer).status (take (step p s buffer).size (step p s buffer).reply) a
      → Recounts buffer (n + 1) ps (step p s buffer).state rest t → Recounts buffer n (p ∷ ps) s (a ++ rest) t

-- Rule 9.3: what stands behind the records: `end ` and their count; before it, if there are bytes
-- of one more, its number and ` cut`.
pub data Closes (number have : ℕ) : List ℕ → Type 0 where
  whole : {a : List ℕ} → have ≡ 0 → Decimal number a → Closes number have ((101 ∷ 110 ∷ 100 ∷ 32 ∷ []) ++ a ++ (10 ∷ []))
  cut : {a b : List ℕ} → 0 < have → Decimal (number + 1) b → Decimal number a
      → Closes number have (b ++ (32 ∷ 99 ∷ 117 ∷ 116 ∷ 10 ∷ []) ++ ((101 ∷ 110 ∷ 100 ∷ 32 ∷ []) ++ a ++ (10 ∷ [])))

-- Rules 9.2 to 9.4: all that is printed of a file, and its end state: `not a session` alone if its
-- first five bytes are not there or differ.
pub data Printed (file : List ℕ) : List ℕ → State → Type 0 where
  other : (HasPreamble file → ⊥)
      → Printed file (110 ∷ 111 ∷ 116 ∷ 32 ∷ 97 ∷ 32 ∷ 115 ∷ 101 ∷ 115 ∷ 115 ∷ 105 ∷ 111 ∷ 110 ∷ 10 ∷ []) reset_state
  session : {packets : List (List ℕ)} {rest buffer a b : List ℕ} {s : State} → HasPreamble file → Splits (drop 5 file) packets rest → Fresh buffer
      → Recounts buffer 0 packets reset_state a s → Closes (length packets) (length rest) b → Printed file (a ++ b) s

-- Rule 1.1: the state that a device holds is that of its lists.
pub record Pinned : Type 0 where
  pub device : (d : Device) → state_of d ≡ state d.block.now d.staged.now d.live.now d.gains.now
