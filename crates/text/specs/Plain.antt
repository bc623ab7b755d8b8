-- Rule 9.2: what is right of text, said with the numbers themselves and apart from how it is made:
-- it reads back.
use Rattle.std.specs.Prelude.{ℕ, ◌+◌, ◌*◌, ◌-◌, ◌/◌, ◌%◌, ◌≤◌, ◌<◌, ◌≡◌, List, [], ◌∷◌, length, get_or}
use Rattle.wire.specs.Plain.{Bytes}

-- The number that decimal digits stand for, behind a number that was read before them.
abbrev pub value_of : ℕ → List ℕ → ℕ
value_of v [] = v
value_of v (c ∷ cs) = value_of (10 * v + (c - 48)) cs

-- Rule 9.2: digits 0 to 9 alone.
pub data Digits : List ℕ → Type 0 where
  last : Digits []
  more : {c : ℕ} {cs : List ℕ} → 48 ≤ c → c ≤ 57 → Digits cs → Digits (c ∷ cs)

-- Rule 9.2: decimal, and no 0 in front: what begins with a 0 is that digit alone.
pub record Decimal (n : ℕ) (text : List ℕ) : Type 0 where
  pub some : 1 ≤ length text
  pub digits-only : Digits text
  pub value : value_of 0 text ≡ n
  pub no_zero : get_or text 0 0 ≡ 48 → length text ≡ 1

-- Rule 9.2: 0 to 9 for a number below ten, and from there A to F, upper case.
pub record HexDigit (d : ℕ) (c : ℕ) : Type 0 where
  pub below-ten : d < 10 → c ≡ 48 + d
  pub from-ten : 10 ≤ d → c ≡ 65 + (d - 10)

-- Rule 9.2: two digits a byte, and a blank before them.
pub data InHex : List ℕ → List ℕ → Type 0 where
  none : InHex [] []
  byte : {b c d : ℕ} {bs cs : List ℕ} → HexDigit (b / 16) c → HexDigit (b % 16) d → InHex bs cs → InHex (b ∷ bs) (32 ∷ c ∷ d ∷ cs)

-- The same of bytes, whose digits are those from 0 to F.
pub record Hex (bytes text : List ℕ) : Type 0 where
  pub all-bytes : Bytes bytes
  pub in-hex : InHex bytes text
