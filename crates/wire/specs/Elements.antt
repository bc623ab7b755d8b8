-- Rule 1.3: what holds of a list of 16-bit numbers, whatever it is made of.
use Rattle.std.specs.Prelude.{ℕ, ◌*◌, ◌≤◌, ◌≡◌, List, length, take, drop}

-- So many elements stand for a number. A part of the list holds that part of the numbers.
pub record ElementLaws {T : Type 0} (width : ℕ) (numbers : List T → List ℕ) : Type 0 where
  pub some : 1 ≤ width
  pub few : width ≤ 2
  pub short : (s : List T) → length (numbers s) ≤ length s
  pub long : (s : List T) → width * length (numbers s) ≤ length s
  pub counted : (s : List T) (n : ℕ) → length s ≡ width * n → length (numbers s) ≡ n
  pub taken : (s : List T) (n : ℕ) → numbers (take (width * n) s) ≡ take n (numbers s)
  pub dropped : (s : List T) (n : ℕ) → numbers (drop (width * n) s) ≡ drop n (numbers s)

-- Numbers that are lent as they are.
abbrev pub themselves : List ℕ → List ℕ
themselves s = s
