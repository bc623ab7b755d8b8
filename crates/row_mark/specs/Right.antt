-- Rules 11.1, 11.2 and 11.4: when a mark is right, point by point and bit by bit, which rows a write touches, and how many moved; said apart from the lists of Rows.
use Rattle.std.specs.Prelude.{ℕ, suc, ◌+◌, ◌*◌, ◌≤◌, ◌<◌, ◌≡◌, ◌↔◌, List, get_or}
use Rattle.row_mark.specs.Bits.{bit_at}

-- x or y of a point is another one in the other map.
pub record PointDiffers (staged live : List ℕ) (point : ℕ) : Type 0 where
  pub other : get_or staged (2 * point) 0 ≡ get_or live (2 * point) 0 → get_or staged (2 * point + 1) 0 ≡ get_or live (2 * point + 1) 0 → ⊥

-- A row of the shape that has such a point: point k of row r is point columns × r + k of the map.
pub record Moved (columns rows : ℕ) (staged live : List ℕ) (r : ℕ) : Type 0 where
  pub row : r < rows
  pub column : ℕ
  pub inside : column < columns
  pub differs : PointDiffers staged live (columns * r + column)

-- A mark whose bit r is set exactly if row r has moved; past the last row none is.
pub record RightFor (columns rows : ℕ) (staged live : List ℕ) (mark : ℕ) : Type 0 where
  pub each : (r : ℕ) → r < 32 → (bit_at mark r ≡ 1) ↔ Moved columns rows staged live r

-- Rule 11.2: a write of so many points from a start on touches a row: one of its points lies there.
pub record Touches (columns start count r : ℕ) : Type 0 where
  pub point : ℕ
  pub after-start : start ≤ point
  pub before-end : point < start + count
  pub row_first : columns * r ≤ point
  pub row_last : point < columns * r + columns

-- Rule 11.4: the lowest of the rows that moved, 32 if none has.
pub record LowestMoved (columns rows : ℕ) (staged live : List ℕ) (lowest : ℕ) : Type 0 where
  pub bound : lowest ≤ 32
  pub none_below : (r : ℕ) → r < lowest → Moved columns rows staged live r → ⊥
  pub here : lowest < 32 → Moved columns rows staged live lowest

-- Rule 11.4: of n rows from one on, so many moved.
pub data MovedFrom (columns rows : ℕ) (staged live : List ℕ) : ℕ → ℕ → ℕ → Type 0 where
  none : {r : ℕ} → MovedFrom columns rows staged live r 0 0
  moved : {r n count : ℕ} → Moved columns rows staged live r → MovedFrom columns rows staged live (suc r) n count
      → MovedFrom columns rows staged live r (suc n) (suc count)
  still : {r n count : ℕ} → (Moved columns rows staged live r → ⊥) → MovedFrom columns rows staged live (suc r) n count
      → MovedFrom columns rows staged live r (suc n) count

-- Rule 11.4: a count and a lowest row that are those of the rows that moved.
pub record RowsCounted (columns rows : ℕ) (staged live : List ℕ) (count lowest : ℕ) : Type 0 where
  pub counted : MovedFrom columns rows staged live 0 32 count
  pub lowest-moved : LowestMoved columns rows staged live lowest
