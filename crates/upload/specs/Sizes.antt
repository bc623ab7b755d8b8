-- Rules 6.1, 6.2 and 6.4: the numbers of planning, by name. What is right is said with the numbers themselves (Plain; Parts:
-- `Fits`), so that none of these is changed in definition and code alike unseen.
use Rattle.std.specs.Prelude.{ℕ}

-- Rule 6.1: the points of a full map, 62 × 32.
abbrev pub most_points : ℕ
most_points = 1984

-- Rule 6.1: the points of a full packet, and how many of them come behind its first.
abbrev pub most_count : ℕ
most_count = 126

abbrev pub most_more : ℕ
most_more = 125

-- Rule 6.4: the plan's 16-bit numbers, two for each point of a full map.
abbrev pub plan_size : ℕ
plan_size = 3968

-- Rule 6.4: the working room's 32-bit numbers, one for each of the first points.
abbrev pub room_size : ℕ
room_size = 127

-- Rule 6.4: the bytes for choices, one for each point of a full map.
abbrev pub choices_size : ℕ
choices_size = 1984

-- Rules 6.2 and 6.4: the bytes that the batch of a full map has at most.
abbrev pub batch_size : ℕ
batch_size = 8032
