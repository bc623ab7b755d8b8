-- Rule 4.6: where the first value at fault stands, from a list of all fields that can be at fault and not by way of the tests that find it. Elements are bytes.
use Rattle.std.specs.Prelude.{ℕ, ◌+◌, ◌*◌, ◌≤◌, ◌<◌, ◌≡◌, ◌⊎◌, List, length}
use Rattle.wire.specs.Numbers.{byte_at, word_at, long_at}
use Rattle.opcode.specs.Options.{is_read}

-- A write's opcode; then the place of a field in its data, its number, and the least and the most that this may be: command by command, in packet
-- order. Fields that take any number are left out, as they are never at fault.
pub data WriteField (d : List ℕ) : (op place value least most : ℕ) → Type 0 where
  -- Rule 5.1, one field each: 11h, 12h, 1Ah (black is 0, the others 2-8), 1Ch, 1Dh, 6Ch, and 39h, of which 1 is another refusal.
  display : WriteField d 0x11 0 (byte_at d 0) 0 4
  latency : WriteField d 0x12 0 (byte_at d 0) 0 1
  curtain : (byte_at d 0 ≡ 0 → ⊥) → WriteField d 0x1A 0 (byte_at d 0) 2 8
  flip : WriteField d 0x1C 0 (byte_at d 0) 0 3
  freeze : WriteField d 0x1D 0 (byte_at d 0) 0 1
  lock : WriteField d 0x6C 0 (byte_at d 0) 0 1
  update : WriteField d 0x39 0 (byte_at d 0) 0 1
  -- Rule 5.8, 2Bh: compression, colour, count.
  compression : WriteField d 0x2B 0 (byte_at d 0) 0 1
  gain-colour : WriteField d 0x2B 1 (byte_at d 1) 0 3
  gain-count : WriteField d 0x2B 2 (word_at d 2) 1 65535
  -- Rule 5.8: then, from byte 6 on, gains; rule 5.11: or pairs of four bytes, a run and a gain.
  gain : (k : ℕ) → byte_at d 0 ≡ 0 → 6 + 2 * k < length d → WriteField d 0x2B (6 + 2 * k) (word_at d (6 + 2 * k)) 0 8191
  run : (k : ℕ) → byte_at d 0 ≡ 1 → 6 + 4 * k < length d → WriteField d 0x2B (6 + 4 * k) (word_at d (6 + 4 * k)) 1 2016
  run-gain : (k : ℕ) → byte_at d 0 ≡ 1 → 8 + 4 * k < length d → WriteField d 0x2B (8 + 4 * k) (word_at d (8 + 4 * k)) 0 8191
  -- Rule 5.5, 35h: the mode; in mode 0 columns and rows.
  mode : WriteField d 0x35 0 (byte_at d 0) 0 1
  columns : byte_at d 0 ≡ 0 → WriteField d 0x35 1 (word_at d 1) 2 62
  rows : byte_at d 0 ≡ 0 → WriteField d 0x35 3 (word_at d 3) 2 32
  -- Rule 5.5: in mode 1 entries 0 to 61 and 62 to 93, each but a list's first above the one before it.
  column : (k : ℕ) → byte_at d 0 ≡ 1 → k + 1 < 62 → WriteField d 0x35 (1 + 2 * (k + 1)) (word_at d (1 + 2 * (k + 1))) (word_at d (1 + 2 * k) + 1) 65535
  row : (k : ℕ) → byte_at d 0 ≡ 1 → 62 ≤ k → k + 1 < 94
      → WriteField d 0x35 (1 + 2 * (k + 1)) (word_at d (1 + 2 * (k + 1))) (word_at d (1 + 2 * k) + 1) 65535
  -- Rule 5.6, 36h.
  apply : WriteField d 0x36 0 (byte_at d 0) 0 1
  -- Rule 5.7, 38h: columns and rows.
  smooth-columns : WriteField d 0x38 0 (byte_at d 0) 3 5
  smooth-rows : WriteField d 0x38 1 (byte_at d 1) 3 5
  -- Rule 5.1, 60h and 61h.
  pin : WriteField d 0x60 0 (byte_at d 0) 0 87
  direction : WriteField d 0x60 1 (byte_at d 1) 0 1
  level : WriteField d 0x60 2 (byte_at d 2) 0 1
  drain : WriteField d 0x60 3 (byte_at d 3) 0 1
  level-pin : WriteField d 0x61 0 (byte_at d 0) 0 87
  level-alone : WriteField d 0x61 1 (byte_at d 1) 0 1
  -- Rule 5.1, 65h: port 13, or 0-10; the frequency has four bytes.
  pwm-port : (byte_at d 0 ≡ 13 → ⊥) → WriteField d 0x65 0 (byte_at d 0) 0 10
  frequency : WriteField d 0x65 1 (long_at d 1) 20 10_390_000
  duty : WriteField d 0x65 5 (byte_at d 5) 0 100
  pwm-on : WriteField d 0x65 6 (byte_at d 6) 0 1
  -- Rule 5.1, 6Dh: the port, and its ten settings.
  uart-port : WriteField d 0x6D 0 (byte_at d 0) 0 2
  uart-on : WriteField d 0x6D 1 (byte_at d 1) 0 1
  baud : WriteField d 0x6D 2 (byte_at d 2) 0 11
  bits : WriteField d 0x6D 3 (byte_at d 3) 0 3
  stop : WriteField d 0x6D 4 (byte_at d 4) 0 1
  parity : WriteField d 0x6D 5 (byte_at d 5) 0 2
  flow : WriteField d 0x6D 6 (byte_at d 6) 0 1
  receiving : WriteField d 0x6D 7 (byte_at d 7) 0 4
  sending : WriteField d 0x6D 8 (byte_at d 8) 0 4
  polarity : WriteField d 0x6D 9 (byte_at d 9) 0 1
  source : WriteField d 0x6D 10 (byte_at d 10) 0 1

-- The same of a read's data.
pub data ReadField (d : List ℕ) : (op place value least most : ℕ) → Type 0 where
  -- Rule 5.8: colour, and behind the start the count.
  gain-colour : ReadField d 0x2B 0 (byte_at d 0) 1 3
  gain-count : ReadField d 0x2B 3 (word_at d 3) 1 254
  -- Rule 5.4: the count, behind the start.
  point-count : ReadField d 0x34 2 (word_at d 2) 1 127
  -- Rule 5.1: pin or port.
  pin : ReadField d 0x60 0 (byte_at d 0) 0 87
  level-pin : ReadField d 0x61 0 (byte_at d 0) 0 87
  pwm-port : (byte_at d 0 ≡ 13 → ⊥) → ReadField d 0x65 0 (byte_at d 0) 0 10
  uart-port : ReadField d 0x6D 0 (byte_at d 0) 0 2

-- Of a command under its options.
pub data FieldOf (op o : ℕ) (d : List ℕ) (place value least most : ℕ) : Type 0 where
  asks : is_read o ≡ 1 → ReadField d op place value least most → FieldOf op o d place value least most
  sets : is_read o ≡ 0 → WriteField d op place value least most → FieldOf op o d place value least most

-- Rule 4.6: a place is that of the first fault if a field stands there whose number is out of its range, and the number of every field before it is
-- within its own. There is one such place at most.
pub record FirstFault (op o : ℕ) (d : List ℕ) (place : ℕ) : Type 0 where
  pub value : ℕ
  pub least : ℕ
  pub most : ℕ
  pub field : FieldOf op o d place value least most
  pub out : (value < least) ⊎ (most < value)
  pub inside : place < length d
  pub before : {j v low high : ℕ} → j < place → FieldOf op o d j v low high → (low ≤ v) × (v ≤ high)
