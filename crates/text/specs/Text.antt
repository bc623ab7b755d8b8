-- Rule 9.2: text as bytes in ASCII.
use Rattle.std.specs.Prelude.{ℕ, zero, suc, ◌+◌, ◌/◌, ◌%◌, ◌≡◌, cond, List, [], ◌∷◌, ◌++◌, length, ltb}
use Rattle.std.proofs.lemmas.List.Edits.{sets}

abbrev pub blank : ℕ
blank = 32

abbrev pub newline : ℕ
newline = 10

-- Rule 9.2: the sixteen digits; those from ten on are upper case.
abbrev pub digit : ℕ → ℕ
digit d = cond (ltb d 10) (48 + d) (55 + d)

-- Rule 9.2: the digits of a number, the highest first and no 0 in front of others; at most as many as the first argument says.
unfoldable pub digits : ℕ → ℕ → List ℕ
digits zero n = []
digits (suc k) n = cond (ltb n 10) (digit n ∷ []) (digits k (n / 10) ++ (digit (n % 10) ∷ []))

-- A number of 64 bits has at most so many digits.
abbrev pub most_digits : ℕ
most_digits = 20

abbrev pub decimal : ℕ → List ℕ
decimal n = digits most_digits n

-- Rule 9.2: bytes in hex, a blank before each.
unfoldable pub hex : List ℕ → List ℕ
hex [] = []
hex (b ∷ bs) = blank ∷ digit (b / 16) ∷ digit (b % 16) ∷ hex bs

-- Text was put into a buffer at a place, and ends at another; nothing else of the buffer changed.
pub record Puts (at : ℕ) (text : List ℕ) (entry exit : List ℕ) (end : ℕ) : Type 0 where
  pub ends : end ≡ at + length text
  pub exits : exit ≡ sets entry at text
