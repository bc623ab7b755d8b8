-- Rules 11.1 and 11.2: the rows of the staged shape that differ from the live map, and the mark of them. Points run row by row, x and then y.
use Rattle.std.specs.Prelude.{ℕ, zero, suc, ◌*◌, Bool, false, not, ◌&&◌, ◌||◌, List, [], ◌∷◌, take, drop, set, eqb, ltb}

-- Rule 11.1: a mark has a bit for so many rows, as many as the largest shape has.
abbrev pub mark_rows : ℕ
mark_rows = 32

-- Some number differs from that of the same index.
unfoldable pub differ : List ℕ → List ℕ → Bool
differ [] ys = false
differ (x ∷ xs) [] = false
differ (x ∷ xs) (y ∷ ys) = not (eqb x y) || differ xs ys

-- One of n points, from one on, differs; each has two numbers.
abbrev pub points_differ : ℕ → ℕ → List ℕ → List ℕ → Bool
points_differ start n staged live = differ (take (2 * n) (drop (2 * start) staged)) (take (2 * n) (drop (2 * start) live))

-- Rule 11.1: a row of a map of so many columns has a point that differs.
abbrev pub row_differs : ℕ → List ℕ → List ℕ → ℕ → Bool
row_differs columns staged live r = points_differ (columns * r) columns staged live

-- Rule 11.1: and it is a row of the shape. Rows past the last have not moved.
abbrev pub row_moved : ℕ → ℕ → List ℕ → List ℕ → ℕ → Bool
row_moved columns rows staged live r = ltb r rows && row_differs columns staged live r

-- A test of so many indices, from one on.
unfoldable pub each_from : (ℕ → Bool) → ℕ → ℕ → List Bool
each_from f r zero = []
each_from f r (suc n) = f r ∷ each_from f (suc r) n

-- Rule 11.1: the right mark.
abbrev pub right_mark : ℕ → ℕ → List ℕ → List ℕ → List Bool
right_mark columns rows staged live = each_from (row_moved columns rows staged live) 0 mark_rows

-- Rule 11.2: a mark with the bits of n rows, from r on, worked out afresh; the others are as they were.
unfoldable pub refreshed : (ℕ → Bool) → ℕ → ℕ → List Bool → List Bool
refreshed f r zero mark = mark
refreshed f r (suc n) mark = refreshed f (suc r) n (set mark r (f r))
