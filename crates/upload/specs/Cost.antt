-- Rule 6.2: the least bytes for what is left of a map. A packet of count points costs 6 + 4 × count bytes, count 1-126 (rule 6.1).
use Rattle.std.specs.Prelude.{ℕ, zero, suc, ◌+◌, min, Bool, not, cond, ◌&&◌, List, [], ◌∷◌, eqb, leb}
use Rattle.upload.specs.Sizes.{most_more}

-- For each point, two numbers each, whether held differs from wanted there.
unfoldable pub differs : List ℕ → List ℕ → List Bool
differs [] w = []
differs (x ∷ []) w = []
differs (x ∷ y ∷ h) [] = []
differs (x ∷ y ∷ h) (a ∷ []) = []
differs (x ∷ y ∷ h) (a ∷ b ∷ w) = not (eqb x a && eqb y b) ∷ differs h w

-- The least bytes for what is left, where the open packet may still take k points at 4 bytes each. The list holds for each point that is
-- left, and at last for the end, the least bytes from there on with no packet open.
unfoldable pub best : ℕ → List ℕ → ℕ
best k [] = 0
best zero (x ∷ r) = x
best (suc k) (x ∷ r) = min x (4 + best k r)

-- Rule 6.2: a point that does not differ needs no packet; one that does opens one: 6 bytes and its own 4, with 125 points more to
-- take.
abbrev pub least : Bool → List ℕ → ℕ
least d r = cond d (10 + best most_more r) (best 0 r)

-- The numbers with one point more in front. They are an argument here, so that `rooms` names them once.
abbrev pub push : Bool → List ℕ → List ℕ
push d r = least d r ∷ r

-- Rule 6.2: at each point's index, the bytes that it and those behind it need at least, and 0 for the end. The lent room has the first
-- of them (Planning, `room_of`).
unfoldable pub rooms : List Bool → List ℕ
rooms [] = 0 ∷ []
rooms (d ∷ ds) = push d (rooms ds)

-- Rule 6.2: how many points more the open packet takes, of at most k: the smallest number that costs least.
unfoldable pub more : ℕ → List ℕ → ℕ
more zero r = 0
more (suc k) [] = 0
more (suc k) (x ∷ r) = cond (leb x (4 + best k r)) 0 (suc (more k r))

-- Rule 6.5: the count of the packet that the plan would begin at a point, r being the numbers behind it; 0 where the point does not
-- differ.
abbrev pub choice : Bool → List ℕ → ℕ
choice d r = cond d (suc (more most_more r)) 0

-- Rule 6.5: at each point's index its choice.
unfoldable pub choices : List Bool → List ℕ
choices [] = []
choices (d ∷ ds) = choice d (rooms ds) ∷ choices ds
