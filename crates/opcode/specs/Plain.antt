-- Rules 2.2 and 4.1: the bits of a header, and when each of the refusals 7 to 11 applies to a
-- command, whatever the others do; with the numbers themselves.
use Rattle.std.specs.Prelude.{ℕ, ◌+◌, ◌*◌, ◌/◌, ◌%◌, ◌≡◌, List}
use Rattle.opcode.specs.Options.{two_byte, has_length, has_checksum, asks_reply, is_read, destination, options_in}
use Rattle.opcode.specs.Allowed.{two}
use Rattle.opcode.specs.Numbers.{Carried, LacksLength, SizeRight, Merges}
use Rattle.opcode.specs.Faults.{FirstFault}

-- Rule 2.2: bits 0 to 2 the destination, 3 an opcode of two bytes, 4 a length, 5 a checksum, 6 a
-- reply, 7 a read; bits 3 to 7, in place, are the options.
pub record Pinned : Type 0 where
  pub bit-3 : (h : ℕ) → two_byte h ≡ h / 8 % 2
  pub bit-4 : (h : ℕ) → has_length h ≡ h / 16 % 2
  pub bit-5 : (h : ℕ) → has_checksum h ≡ h / 32 % 2
  pub bit-6 : (h : ℕ) → asks_reply h ≡ h / 64 % 2
  pub bit-7 : (h : ℕ) → is_read h ≡ h / 128 % 2
  pub bits-0-2 : (h : ℕ) → destination h ≡ h % 8
  pub bits-3-7 : (h : ℕ) → options_in h ≡ h / 8 * 8
  pub low_first : (low high : ℕ) → two low high ≡ low + 256 * high

-- Rule 4.1: of an opcode, its options and its data.
pub data CommandRefuses (op o : ℕ) (d : List ℕ) : ℕ → Type 0 where
  not_carried : (Carried op → ⊥) → CommandRefuses op o d 7
  lacks-length : LacksLength op o → CommandRefuses op o d 8
  wrong_size : (SizeRight op o d → ⊥) → CommandRefuses op o d 9
  out_of_range : {place : ℕ} → FirstFault op o d place → CommandRefuses op o d 10
  merges : Merges op o d → CommandRefuses op o d 11
