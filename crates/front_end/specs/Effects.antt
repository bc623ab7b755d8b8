-- What an accepted write leaves, but for the row mark, and what an accepted read returns, command by command and row by row of docs/LAYOUT.md, with every place as a number:
-- said apart from the definitions by which the front end goes (Commands, and the places of the layout).
use Rattle.std.specs.Prelude.{ℕ, ◌+◌, ◌*◌, ◌≤◌, ◌≡◌, List, [], ◌∷◌, length, take, drop, get_or}
use Rattle.std.proofs.Math.Seq.{paste}
use Rattle.wire.specs.Tables.{words, bytes}
use Rattle.gain_words.specs.Pairs.{expand}
use Rattle.opcode.specs.Allowed.{two}
use Rattle.front_end.specs.State.{State, state}

-- The same state with bytes over a place of the block, numbers over a place of the staged map or of the gains.
abbrev pub block_with : State → ℕ → List ℕ → State
block_with s at new = state (paste s.block at new (length new)) s.staged s.live s.gains

abbrev pub staged_with : State → ℕ → List ℕ → State
staged_with s at new = state s.block (paste s.staged at new (length new)) s.live s.gains

abbrev pub gains_with : State → ℕ → List ℕ → State
gains_with s at new = state s.block s.staged s.live (paste s.gains at new (length new))

-- Rules 5.8 and 5.11: the compression flag, a write's words as bytes, and the gains that they stand for: themselves, or what pairs expand to.
pub data StandFor : ℕ → List ℕ → List ℕ → Type 0 where
  plain : {ws : List ℕ} → StandFor 0 ws (words ws)
  pairs : {ws : List ℕ} → StandFor 1 ws (expand (words ws))

-- Opcode, data, and the state that is left, before the row mark is worked out.
pub data Leaves (s : State) : ℕ → List ℕ → State → Type 0 where
  -- Rule 5.1.
  display : {v : ℕ} → Leaves s 0x11 (v ∷ []) (block_with s 0 (v ∷ []))
  latency : {v : ℕ} → Leaves s 0x12 (v ∷ []) (block_with s 1 (v ∷ []))
  look : {a b : ℕ} → Leaves s 0x13 (a ∷ b ∷ []) (block_with s 2 (a ∷ b ∷ []))
  curtain : {v : ℕ} → Leaves s 0x1A (v ∷ []) (block_with s 4 (v ∷ []))
  splash : {v : ℕ} → Leaves s 0x1B (v ∷ []) (block_with s 5 (v ∷ []))
  flip : {v : ℕ} → Leaves s 0x1C (v ∷ []) (block_with s 6 (v ∷ []))
  freeze : {v : ℕ} → Leaves s 0x1D (v ∷ []) (block_with s 7 (v ∷ []))
  update : {v : ℕ} → Leaves s 0x39 (v ∷ []) (block_with s 497 (v ∷ []))
  lock : {v : ℕ} → Leaves s 0x6C (v ∷ []) (block_with s 834 (v ∷ []))
  -- Rule 5.3: three bytes a pin, of which 61h has the middle one.
  pin : {p direction level drain : ℕ}
      → Leaves s 0x60 (p ∷ direction ∷ level ∷ drain ∷ []) (block_with s (498 + 3 * p) (direction ∷ level ∷ drain ∷ []))
  level : {p v : ℕ} → Leaves s 0x61 (p ∷ v ∷ []) (block_with s (499 + 3 * p) (v ∷ []))
  -- Rule 5.1: six bytes a port, 0-10 and then 13.
  pwm : {port a b c d duty on : ℕ} → port ≤ 10
      → Leaves s 0x65 (port ∷ a ∷ b ∷ c ∷ d ∷ duty ∷ on ∷ []) (block_with s (762 + 6 * port) (a ∷ b ∷ c ∷ d ∷ duty ∷ on ∷ []))
  pwm-13 : {a b c d duty on : ℕ}
      → Leaves s 0x65 (13 ∷ a ∷ b ∷ c ∷ d ∷ duty ∷ on ∷ []) (block_with s 828 (a ∷ b ∷ c ∷ d ∷ duty ∷ on ∷ []))
  uart : {port on baud bits stop parity flow trigger trigger' polarity source : ℕ}
      → Leaves s 0x6D (port ∷ on ∷ baud ∷ bits ∷ stop ∷ parity ∷ flow ∷ trigger ∷ trigger' ∷ polarity ∷ source ∷ [])
      (block_with s (835 + 10 * port) (on ∷ baud ∷ bits ∷ stop ∷ parity ∷ flow ∷ trigger ∷ trigger' ∷ polarity ∷ source ∷ []))
  -- Rule 5.4: two numbers a point.
  points : {s₀ s₁ : ℕ} {pts : List ℕ} → Leaves s 0x34 (s₀ ∷ s₁ ∷ pts) (staged_with s (2 * two s₀ s₁) (words pts))
  -- Rule 5.5: mode 0 keeps the lists behind its five bytes; mode 1 has the shape 62 × 32.
  shape : {c₀ c₁ r₀ r₁ : ℕ} → Leaves s 0x35 (0 ∷ c₀ ∷ c₁ ∷ r₀ ∷ r₁ ∷ []) (block_with s 8 (0 ∷ c₀ ∷ c₁ ∷ r₀ ∷ r₁ ∷ []))
  lists : {ls : List ℕ} → Leaves s 0x35 (1 ∷ ls) (block_with s 8 (1 ∷ 62 ∷ 0 ∷ 32 ∷ 0 ∷ ls))
  -- Rule 5.6.
  apply : Leaves s 0x36 (1 ∷ [])
      (state (paste (paste s.block 201 (1 ∷ []) 1) 202 (drop 8 s.block) 193) s.staged s.staged s.gains)
  clear : Leaves s 0x36 (0 ∷ []) (block_with s 201 (0 ∷ []))
  -- Rule 5.7.
  smooth : {d : List ℕ} → Leaves s 0x38 d (block_with s 395 d)
  -- Rule 5.8: red, green and blue are a third of the gains each, and colour 0 is all three.
  red : {flag n₀ n₁ s₀ s₁ : ℕ} {ws new : List ℕ} → StandFor flag ws new
      → Leaves s 0x2B (flag ∷ 1 ∷ n₀ ∷ n₁ ∷ s₀ ∷ s₁ ∷ ws) (gains_with s (two s₀ s₁) new)
  green : {flag n₀ n₁ s₀ s₁ : ℕ} {ws new : List ℕ} → StandFor flag ws new
      → Leaves s 0x2B (flag ∷ 2 ∷ n₀ ∷ n₁ ∷ s₀ ∷ s₁ ∷ ws) (gains_with s (2016 + two s₀ s₁) new)
  blue : {flag n₀ n₁ s₀ s₁ : ℕ} {ws new : List ℕ} → StandFor flag ws new
      → Leaves s 0x2B (flag ∷ 3 ∷ n₀ ∷ n₁ ∷ s₀ ∷ s₁ ∷ ws) (gains_with s (4032 + two s₀ s₁) new)
  all : {flag n₀ n₁ s₀ s₁ : ℕ} {ws new : List ℕ} → StandFor flag ws new
      → Leaves s 0x2B (flag ∷ 0 ∷ n₀ ∷ n₁ ∷ s₀ ∷ s₁ ∷ ws)
      (gains_with (gains_with (gains_with s (two s₀ s₁) new) (2016 + two s₀ s₁) new) (4032 + two s₀ s₁) new)

-- So many bytes of the block from a place on.
abbrev pub from_block : State → ℕ → ℕ → List ℕ
from_block s at n = take n (drop at s.block)

-- Opcode, what a read sends, and the data that it gets back.
pub data Returns (s : State) : ℕ → List ℕ → List ℕ → Type 0 where
  -- Rule 5.1.
  display : Returns s 0x11 [] (from_block s 0 1)
  latency : Returns s 0x12 [] (from_block s 1 1)
  look : Returns s 0x13 [] (from_block s 2 2)
  curtain : Returns s 0x1A [] (from_block s 4 1)
  splash : Returns s 0x1B [] (from_block s 5 1)
  flip : Returns s 0x1C [] (from_block s 6 1)
  freeze : Returns s 0x1D [] (from_block s 7 1)
  update : Returns s 0x39 [] (from_block s 497 1)
  lock : Returns s 0x6C [] (from_block s 834 1)
  pin : {p : ℕ} → Returns s 0x60 (p ∷ []) (from_block s (498 + 3 * p) 3)
  level : {p : ℕ} → Returns s 0x61 (p ∷ []) (from_block s (499 + 3 * p) 1)
  pwm : {port : ℕ} → port ≤ 10 → Returns s 0x65 (port ∷ []) (from_block s (762 + 6 * port) 6)
  pwm-13 : Returns s 0x65 (13 ∷ []) (from_block s 828 6)
  uart : {port : ℕ} → Returns s 0x6D (port ∷ []) (from_block s (835 + 10 * port) 10)
  -- Rule 5.4.
  points : {s₀ s₁ n₀ n₁ : ℕ}
      → Returns s 0x34 (s₀ ∷ s₁ ∷ n₀ ∷ n₁ ∷ []) (bytes (take (2 * two n₀ n₁) (drop (2 * two s₀ s₁) s.staged)))
  -- Rule 5.5: in mode 0 the five bytes; in mode 1 the mode and the lists.
  shape : get_or s.block 8 0 ≡ 0 → Returns s 0x35 [] (from_block s 8 5)
  lists : get_or s.block 8 0 ≡ 1 → Returns s 0x35 [] (1 ∷ from_block s 13 188)
  -- Rule 5.6: enable.
  enable : Returns s 0x36 [] (from_block s 201 1)
  -- Rule 5.7.
  smooth : Returns s 0x38 [] (from_block s 395 (2 + 4 * (get_or s.block 395 0 * get_or s.block 396 0)))
  -- Rule 5.8.
  red : {s₀ s₁ n₀ n₁ : ℕ} → Returns s 0x2B (1 ∷ s₀ ∷ s₁ ∷ n₀ ∷ n₁ ∷ []) (bytes (take (two n₀ n₁) (drop (two s₀ s₁) s.gains)))
  green : {s₀ s₁ n₀ n₁ : ℕ}
      → Returns s 0x2B (2 ∷ s₀ ∷ s₁ ∷ n₀ ∷ n₁ ∷ []) (bytes (take (two n₀ n₁) (drop (2016 + two s₀ s₁) s.gains)))
  blue : {s₀ s₁ n₀ n₁ : ℕ}
      → Returns s 0x2B (3 ∷ s₀ ∷ s₁ ∷ n₀ ∷ n₁ ∷ []) (bytes (take (two n₀ n₁) (drop (4032 + two s₀ s₁) s.gains)))
