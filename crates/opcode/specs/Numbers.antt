-- What the refusals 7, 8, 9 and 11 of a command mean, said from the rules and not by way of the
-- tests. Elements are bytes.
use Rattle.std.specs.Prelude.{ℕ, ◌+◌, ◌*◌, ◌≤◌, ◌<◌, ◌≡◌, ◌⊎◌, List, length}
use Rattle.wire.specs.Numbers.{byte_at, word_at}
use Rattle.opcode.specs.Options.{has_length, is_read}
use Rattle.opcode.specs.Allowed.{SendsNothing, NeedsLength}

-- Rules 5.1 and 5.6: the commands that write one byte.
pub data OneByte : ℕ → Type 0 where
  write-11 : OneByte 0x11
  write-12 : OneByte 0x12
  write-1A : OneByte 0x1A
  write-1B : OneByte 0x1B
  write-1C : OneByte 0x1C
  write-1D : OneByte 0x1D
  write-36 : OneByte 0x36
  write-39 : OneByte 0x39
  write-6C : OneByte 0x6C

-- Rules 5.1 and 5.9: the sizes that a write's data may have.
pub data WriteSize (d : List ℕ) : ℕ → Type 0 where
  one : {op : ℕ} → OneByte op → length d ≡ 1 → WriteSize d op
  look : length d ≡ 2 → WriteSize d 0x13
  pin : length d ≡ 4 → WriteSize d 0x60
  level : length d ≡ 2 → WriteSize d 0x61
  pwm : length d ≡ 7 → WriteSize d 0x65
  uart : length d ≡ 11 → WriteSize d 0x6D
  -- A start, and so many points.
  points : (n : ℕ) → 1 ≤ n → length d ≡ 2 + 4 * n → WriteSize d 0x34
  -- A head of six, and as many words as the count says; with compression 1 so many pairs (rule
  -- 5.11).
  gains : (byte_at d 0 ≡ 1 → ⊥) → length d ≡ 6 + 2 * word_at d 2 → WriteSize d 0x2B
  pairs : (n : ℕ) → byte_at d 0 ≡ 1 → word_at d 2 ≡ 2 * n → length d ≡ 6 + 2 * word_at d 2 → WriteSize d 0x2B
  -- By the mode; one above 1 has no size of its own.
  shape : byte_at d 0 ≡ 0 → length d ≡ 5 → WriteSize d 0x35
  lists : byte_at d 0 ≡ 1 → length d ≡ 189 → WriteSize d 0x35
  mode : 1 < byte_at d 0 → 1 ≤ length d → WriteSize d 0x35
  -- By columns and rows; out of range they have no size of their own.
  smooth : length d ≡ 2 + 4 * (byte_at d 0 * byte_at d 1) → WriteSize d 0x38
  columns : 2 ≤ length d → (byte_at d 0 < 3) ⊎ (5 < byte_at d 0) → WriteSize d 0x38
  rows : 2 ≤ length d → (byte_at d 1 < 3) ⊎ (5 < byte_at d 1) → WriteSize d 0x38

-- Rules 5.1, 5.4 and 5.8: the sizes that a read's data may have.
pub data ReadSize (d : List ℕ) : ℕ → Type 0 where
  nothing : {op : ℕ} → SendsNothing op → length d ≡ 0 → ReadSize d op
  pin : length d ≡ 1 → ReadSize d 0x60
  level : length d ≡ 1 → ReadSize d 0x61
  pwm : length d ≡ 1 → ReadSize d 0x65
  uart : length d ≡ 1 → ReadSize d 0x6D
  points : length d ≡ 4 → ReadSize d 0x34
  gains : length d ≡ 5 → ReadSize d 0x2B

-- Of a command under its options.
pub data SizeRight (op o : ℕ) (d : List ℕ) : Type 0 where
  asks : is_read o ≡ 1 → ReadSize d op → SizeRight op o d
  sets : is_read o ≡ 0 → WriteSize d op → SizeRight op o d

-- Rule 5.1: an opcode of the eighteen: its read sends nothing, or it is one of these six.
pub data Carried : ℕ → Type 0 where
  plain : {op : ℕ} → SendsNothing op → Carried op
  gains : Carried 0x2B
  points : Carried 0x34
  pin : Carried 0x60
  level : Carried 0x61
  pwm : Carried 0x65
  uart : Carried 0x6D

-- Rule 4.1, 8: a write that needs a length field and lacks it.
pub record LacksLength (op o : ℕ) : Type 0 where
  pub write : is_read o ≡ 0
  pub needs : NeedsLength op
  pub lacks : has_length o ≡ 0

-- Rule 4.1, 11: merge mode.
pub record Merges (op o : ℕ) (d : List ℕ) : Type 0 where
  pub write : is_read o ≡ 0
  pub update : op ≡ 0x39
  pub mode : byte_at d 0 ≡ 1
