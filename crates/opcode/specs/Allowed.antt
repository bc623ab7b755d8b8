-- When a command's data is right, line by line from rules 5.1, 5.4 to 5.9 and 5.11, and not by way of the refusals. Elements are bytes.
use Rattle.std.specs.Prelude.{ℕ, ◌+◌, ◌*◌, ◌≤◌, ◌<◌, ◌≡◌, List, [], ◌∷◌, ◌++◌, length, get_or}
use Rattle.wire.specs.Tables.{words}
use Rattle.gain_words.specs.Plain.{Pairs}
use Rattle.opcode.specs.Options.{has_length, is_read}

-- Rule 5.5: strictly rising.
pub data Rising : List ℕ → Type 0 where
  empty : Rising []
  single : {w : ℕ} → Rising (w ∷ [])
  next : {v w : ℕ} {ws : List ℕ} → v < w → Rising (w ∷ ws) → Rising (v ∷ w ∷ ws)

-- Rule 2.3: two bytes as a number, low byte first.
abbrev pub two : ℕ → ℕ → ℕ
two low high = low + 256 * high

-- Rules 5.1, 5.4 to 5.9 and 5.11: what a write of an opcode may carry.
pub data WriteData : ℕ → List ℕ → Type 0 where
  -- Rule 5.1, 11h: display 0-4.
  display : {v : ℕ} → v ≤ 4 → WriteData 0x11 (v ∷ [])
  -- Rule 5.1, 12h, 1Dh, 6Ch: 0-1.
  latency : {v : ℕ} → v ≤ 1 → WriteData 0x12 (v ∷ [])
  freeze : {v : ℕ} → v ≤ 1 → WriteData 0x1D (v ∷ [])
  lock : {v : ℕ} → v ≤ 1 → WriteData 0x6C (v ∷ [])
  -- Rule 5.1, 13h: look, any 16-bit number.
  look : {a b : ℕ} → WriteData 0x13 (a ∷ b ∷ [])
  -- Rule 5.1, 1Ah: curtain colour 0, 2-8.
  black : WriteData 0x1A (0 ∷ [])
  colour : {v : ℕ} → 2 ≤ v → v ≤ 8 → WriteData 0x1A (v ∷ [])
  -- Rule 5.1, 1Bh: splash, any byte.
  splash : {v : ℕ} → v ≤ 255 → WriteData 0x1B (v ∷ [])
  -- Rule 5.1, 1Ch: flip 0-3.
  flip : {v : ℕ} → v ≤ 3 → WriteData 0x1C (v ∷ [])
  -- Rule 5.1, 60h: pin 0-87; direction, level and drain, 0-1 each.
  pin : {p direction level drain : ℕ}
      → p ≤ 87 → direction ≤ 1 → level ≤ 1 → drain ≤ 1 → WriteData 0x60 (p ∷ direction ∷ level ∷ drain ∷ [])
  -- Rule 5.1, 61h: pin 0-87, level 0-1.
  level : {p v : ℕ} → p ≤ 87 → v ≤ 1 → WriteData 0x61 (p ∷ v ∷ [])
  -- Rule 5.1, 65h: port 0-10 or 13; frequency 20-10,390,000 in four bytes; duty 0-100; on 0-1.
  pwm : {port a b c d duty on : ℕ}
      → port ≤ 10 → 20 ≤ two a b + 65536 * two c d → two a b + 65536 * two c d ≤ 10_390_000 → duty ≤ 100 → on ≤ 1
      → WriteData 0x65 (port ∷ a ∷ b ∷ c ∷ d ∷ duty ∷ on ∷ [])
  pwm-13 : {a b c d duty on : ℕ}
      → 20 ≤ two a b + 65536 * two c d → two a b + 65536 * two c d ≤ 10_390_000 → duty ≤ 100 → on ≤ 1
      → WriteData 0x65 (13 ∷ a ∷ b ∷ c ∷ d ∷ duty ∷ on ∷ [])
  -- Rule 5.1, 6Dh: port 0-2, and its ten settings, each from 0 to what stands here.
  uart : {port on baud bits stop parity flow trigger trigger' polarity source : ℕ}
      → port ≤ 2 → on ≤ 1 → baud ≤ 11 → bits ≤ 3 → stop ≤ 1 → parity ≤ 2 → flow ≤ 1 → trigger ≤ 4 → trigger' ≤ 4 → polarity ≤ 1
      → source ≤ 1
      → WriteData 0x6D
      (port ∷ on ∷ baud ∷ bits ∷ stop ∷ parity ∷ flow ∷ trigger ∷ trigger' ∷ polarity ∷ source ∷ [])
  -- Rule 5.1, 39h: update mode 0 alone.
  update : WriteData 0x39 (0 ∷ [])
  -- Rule 5.4: a start, and one or more points of any numbers, four bytes each.
  points : {s₀ s₁ n : ℕ} {pts : List ℕ} → 1 ≤ n → length pts ≡ 4 * n → WriteData 0x34 (s₀ ∷ s₁ ∷ pts)
  -- Rule 5.5, mode 0: columns 2-62, rows 2-32.
  shape : {c₀ c₁ r₀ r₁ : ℕ}
      → 2 ≤ two c₀ c₁ → two c₀ c₁ ≤ 62 → 2 ≤ two r₀ r₁ → two r₀ r₁ ≤ 32 → WriteData 0x35 (0 ∷ c₀ ∷ c₁ ∷ r₀ ∷ r₁ ∷ [])
  -- Rule 5.5, mode 1: 62 numbers and then 32, both lists rising.
  lists : (xs ys : List ℕ)
      → length xs ≡ 124 → length ys ≡ 64 → Rising (words xs) → Rising (words ys) → WriteData 0x35 (1 ∷ (xs ++ ys))
  -- Rule 5.6: 0-1.
  apply : {v : ℕ} → v ≤ 1 → WriteData 0x36 (v ∷ [])
  -- Rule 5.7: columns 3-5, rows 3-5, and a point for each of columns × rows.
  smooth : {columns rows : ℕ} {pts : List ℕ}
      → 3 ≤ columns → columns ≤ 5 → 3 ≤ rows → rows ≤ 5 → length pts ≡ 4 * (columns * rows)
      → WriteData 0x38 (columns ∷ rows ∷ pts)
  -- Rule 5.8: flag 0, colour 0-3, a count of 1 or more, a start, and as many words of at most 8,191.
  gains : {colour n₀ n₁ s₀ s₁ : ℕ} {ws : List ℕ}
      → colour ≤ 3 → 1 ≤ two n₀ n₁ → length ws ≡ 2 * two n₀ n₁ → ((k : ℕ) → get_or (words ws) k 0 ≤ 8191)
      → WriteData 0x2B (0 ∷ colour ∷ n₀ ∷ n₁ ∷ s₀ ∷ s₁ ∷ ws)
  -- Rule 5.11: flag 1, colour 0-3, a count of 1 or more, a start, and as many words, which are pairs of a run 1-2,016 and a gain of at most 8,191.
  runs : {colour n₀ n₁ s₀ s₁ : ℕ} {ws : List ℕ}
      → colour ≤ 3 → 1 ≤ two n₀ n₁ → length ws ≡ 2 * two n₀ n₁ → Pairs (words ws)
      → WriteData 0x2B (1 ∷ colour ∷ n₀ ∷ n₁ ∷ s₀ ∷ s₁ ∷ ws)

-- Rule 5.1, and rules 5.5 to 5.7: the commands whose reads send nothing.
pub data SendsNothing : ℕ → Type 0 where
  read-11 : SendsNothing 0x11
  read-12 : SendsNothing 0x12
  read-13 : SendsNothing 0x13
  read-1A : SendsNothing 0x1A
  read-1B : SendsNothing 0x1B
  read-1C : SendsNothing 0x1C
  read-1D : SendsNothing 0x1D
  read-35 : SendsNothing 0x35
  read-36 : SendsNothing 0x36
  read-38 : SendsNothing 0x38
  read-39 : SendsNothing 0x39
  read-6C : SendsNothing 0x6C

-- Rules 5.1 and 5.4 to 5.8: what a read of an opcode may carry.
pub data ReadData : ℕ → List ℕ → Type 0 where
  -- Of the commands above.
  nothing : {op : ℕ} → SendsNothing op → ReadData op []
  -- Rule 5.1: reads that send the pin or port.
  pin : {p : ℕ} → p ≤ 87 → ReadData 0x60 (p ∷ [])
  level : {p : ℕ} → p ≤ 87 → ReadData 0x61 (p ∷ [])
  pwm : {port : ℕ} → port ≤ 10 → ReadData 0x65 (port ∷ [])
  pwm-13 : ReadData 0x65 (13 ∷ [])
  uart : {port : ℕ} → port ≤ 2 → ReadData 0x6D (port ∷ [])
  -- Rule 5.4: a start, and a count 1-127.
  points : {s₀ s₁ n₀ n₁ : ℕ} → 1 ≤ two n₀ n₁ → two n₀ n₁ ≤ 127 → ReadData 0x34 (s₀ ∷ s₁ ∷ n₀ ∷ n₁ ∷ [])
  -- Rule 5.8: a colour 1-3, a start, and a count 1-254.
  gains : {colour s₀ s₁ n₀ n₁ : ℕ}
      → 1 ≤ colour → colour ≤ 3 → 1 ≤ two n₀ n₁ → two n₀ n₁ ≤ 254 → ReadData 0x2B (colour ∷ s₀ ∷ s₁ ∷ n₀ ∷ n₁ ∷ [])

-- Rule 4.1, 8: the writes that must have a length field.
pub data NeedsLength : ℕ → Type 0 where
  write-2B : NeedsLength 0x2B
  write-34 : NeedsLength 0x34
  write-35 : NeedsLength 0x35
  write-38 : NeedsLength 0x38

-- Rules 5.1 to 5.9 and 5.11: data is allowed for an opcode under its options.
pub data Allowed : ℕ → ℕ → List ℕ → Type 0 where
  asks : {op o : ℕ} {d : List ℕ} → is_read o ≡ 1 → ReadData op d → Allowed op o d
  sets : {op o : ℕ} {d : List ℕ} → is_read o ≡ 0 → WriteData op d → (NeedsLength op → has_length o ≡ 1) → Allowed op o d
