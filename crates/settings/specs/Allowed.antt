-- Rule 4.1, 1: what a stored block holds where refusal 1 does not apply, row by row of the table in docs/LAYOUT.md, and not by way
-- of the test. Bytes that no line here names, those of the row mark among them, may be anything.
use Rattle.std.specs.Prelude.{ℕ, ◌+◌, ◌*◌, ◌≤◌, ◌≡◌, List, get_or, take, drop}
use Rattle.wire.specs.Tables.{words}
use Rattle.opcode.specs.Allowed.{Rising, two}

-- Rule 5.1, 1Ah: curtain colour 0, 2-8.
pub data CurtainColour : ℕ → Type 0 where
  black : CurtainColour 0
  colour : {v : ℕ} → 2 ≤ v → v ≤ 8 → CurtainColour v

-- Rule 5.5: mode, columns and rows of a shape: mode 0 with 2-62 columns and 2-32 rows, or mode 1 with exactly 62 and 32.
pub data ShapeCounts : ℕ → ℕ → ℕ → Type 0 where
  counted : {columns rows : ℕ} → 2 ≤ columns → columns ≤ 62 → 2 ≤ rows → rows ≤ 32 → ShapeCounts 0 columns rows
  listed : ShapeCounts 1 62 32

-- Rule 4.1, 1: a shape, of the 193 bytes from a place on: mode, columns, rows, and in either mode both lists strictly rising.
pub record ShapeAllowed (b : List ℕ) (at : ℕ) : Type 0 where
  pub counts : ShapeCounts (get_or b at 0) (two (get_or b (at + 1) 0) (get_or b (at + 2) 0)) (two (get_or b (at + 3) 0) (get_or b (at + 4) 0))
  pub columns-rise : Rising (words (take 124 (drop (at + 5) b)))
  pub rows-rise : Rising (words (take 64 (drop (at + 129) b)))

-- Rule 5.1, 60h, a pin's three bytes: direction, level, drain, 0-1 each.
pub record PinAllowed (b : List ℕ) (at : ℕ) : Type 0 where
  pub direction : get_or b at 0 ≤ 1
  pub level : get_or b (at + 1) 0 ≤ 1
  pub drain : get_or b (at + 2) 0 ≤ 1

-- Rule 5.1, 65h, a PWM port's frequency: four bytes, low byte first.
abbrev pub frequency : List ℕ → ℕ → ℕ
frequency b at = two (get_or b at 0) (get_or b (at + 1) 0) + 65536 * two (get_or b (at + 2) 0) (get_or b (at + 3) 0)

-- Rule 5.1, 65h, a PWM port's six bytes: frequency 20-10,390,000; then duty 0-100 and on 0-1.
pub record PwmAllowed (b : List ℕ) (at : ℕ) : Type 0 where
  pub slowest : 20 ≤ frequency b at
  pub fastest : frequency b at ≤ 10_390_000
  pub duty : get_or b (at + 4) 0 ≤ 100
  pub on : get_or b (at + 5) 0 ≤ 1

-- Rule 5.1, 6Dh, a UART port's ten bytes, each from 0 to what stands here.
pub record UartAllowed (b : List ℕ) (at : ℕ) : Type 0 where
  pub on : get_or b at 0 ≤ 1
  pub baud : get_or b (at + 1) 0 ≤ 11
  pub bits : get_or b (at + 2) 0 ≤ 3
  pub stop : get_or b (at + 3) 0 ≤ 1
  pub parity : get_or b (at + 4) 0 ≤ 2
  pub flow : get_or b (at + 5) 0 ≤ 1
  pub trigger : get_or b (at + 6) 0 ≤ 4
  pub trigger' : get_or b (at + 7) 0 ≤ 4
  pub polarity : get_or b (at + 8) 0 ≤ 1
  pub source : get_or b (at + 9) 0 ≤ 1

-- Rule 4.1, 1: the rows of docs/LAYOUT.md, in its order.
pub record SettingsAllowed (b : List ℕ) : Type 0 where
  -- 0, 11h: display 0-4.
  pub display : get_or b 0 0 ≤ 4
  -- 1, 12h: low latency 0-1.
  pub latency : get_or b 1 0 ≤ 1
  -- 2-3, 13h: look, any 16-bit number.
  pub look : two (get_or b 2 0) (get_or b 3 0) ≤ 65535
  -- 4, 1Ah: curtain colour.
  pub curtain : CurtainColour (get_or b 4 0)
  -- 5, 1Bh: splash index, any byte.
  pub splash : get_or b 5 0 ≤ 255
  -- 6, 1Ch: flip 0-3.
  pub flip : get_or b 6 0 ≤ 3
  -- 7, 1Dh: freeze 0-1.
  pub freeze : get_or b 7 0 ≤ 1
  -- 8-200, 35h: the staged shape.
  pub staged : ShapeAllowed b 8
  -- 201, 36h: enable 0-1.
  pub enable : get_or b 201 0 ≤ 1
  -- 202-394, 36h: the live shape.
  pub live : ShapeAllowed b 202
  -- 395-496, 38h: columns and rows of the smooth table 3-5 each, any points.
  pub smooth-columns : (3 ≤ get_or b 395 0) × (get_or b 395 0 ≤ 5)
  pub smooth-rows : (3 ≤ get_or b 396 0) × (get_or b 396 0 ≤ 5)
  -- 497, 39h: update mode 0 alone.
  pub update : get_or b 497 0 ≡ 0
  -- 498-761, 60h and 61h: pins 0-87, three bytes each.
  pub pins : (pin : ℕ) → pin ≤ 87 → PinAllowed b (498 + 3 * pin)
  -- 762-833, 65h: twelve PWM ports (0-10, and then 13), six bytes each.
  pub pwm : (slot : ℕ) → slot ≤ 11 → PwmAllowed b (762 + 6 * slot)
  -- 834, 6Ch: EEPROM lock 0-1.
  pub lock : get_or b 834 0 ≤ 1
  -- 835-864, 6Dh: UART ports 0-2, ten bytes each.
  pub uart : (port : ℕ) → port ≤ 2 → UartAllowed b (835 + 10 * port)
