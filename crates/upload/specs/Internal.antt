-- What contracts inside the library need, and no rule: how code follows the least bytes from the last point back without a search. At a
-- point it knows the least bytes from there on. An open packet that may take points more saves at most the 6 bytes of opening one, and
-- costs and savings are even; so three numbers say the rest: how many points it must be able to take for 2, for 4 and for 6 bytes
-- fewer (126: it never can). Cost, plan and choices are defined without them.
use Rattle.std.specs.Prelude.{ℕ, ◌+◌, ◌≤◌, min, ◌≡◌, Bool, cond, List, set, ltb}
use Rattle.upload.specs.Sizes.{most_count}

-- What is carried from point to point.
pub record CostBehind : Type 0 where
  pub least : ℕ
  pub two : ℕ
  pub four : ℕ
  pub six : ℕ

abbrev pub costs : ℕ → ℕ → ℕ → ℕ → CostBehind
costs least two four six = record { least = least; two = two; four = four; six = six }

-- Behind the last point.
abbrev pub at_end : CostBehind
at_end = costs 0 most_count most_count most_count

-- At a point that does not differ: an open packet that takes it has 4 bytes less to save.
abbrev pub passed : CostBehind → CostBehind
passed p = costs p.least (min most_count (p.six + 1)) most_count most_count

-- At a point that differs: a packet opens at 10 bytes, the point's 4 and the 6 in front, and saves 2, 4 or all 6 of these if one can that
-- takes 125 points more. How many points it needs for that, with the point itself, is its count: `six` of what is left here.
abbrev pub opened : CostBehind → CostBehind
opened p =
    cond (ltb p.six most_count) (costs (p.least + 4) (p.two + 1) (p.four + 1) (p.six + 1))
    (cond (ltb p.four most_count) (costs (p.least + 6) 1 (p.two + 1) (p.four + 1))
    (cond (ltb p.two most_count) (costs (p.least + 8) 1 1 (p.two + 1)) (costs (p.least + 10) 1 1 1)))

abbrev pub at_point : Bool → CostBehind → CostBehind
at_point d p = cond d (opened p) (passed p)

-- A map's numbers: sums of 32 bits hold them, and a byte holds a count.
pub record Bounded (p : CostBehind) : Type 0 where
  pub least : p.least ≤ 65536
  pub two : p.two ≤ most_count
  pub four : p.four ≤ most_count
  pub six : p.six ≤ most_count

-- One point further to the front, that differs or not: what is carried on, and the point's choice. A place behind the end of the choices
-- is none.
pub record PointChosen (d : Bool) (p : CostBehind) (i : ℕ) (choices : List ℕ) (q : CostBehind) (left : List ℕ) : Type 0 where
  pub carried : q ≡ at_point d p
  pub chosen : left ≡ set choices i (cond d q.six 0)
