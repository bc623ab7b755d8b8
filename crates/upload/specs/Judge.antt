-- Rule 7.1: a list of packets of any bytes, judged on a map of N points. The map is held at first, and every packet writes on
-- what was left before it.
use Rattle.std.specs.Prelude.{ℕ, ◌+◌, ◌*◌, ◌<◌, ◌≡◌, true, List, [], ◌∷◌, length, get_or}
use Rattle.packet.specs.Points.{accepted_at, map_after}

-- Rule 7.1: the map that a list of packets leaves.
unfoldable pub maps_after : ℕ → List (List ℕ) → List ℕ → List ℕ
maps_after n [] map = map
maps_after n (p ∷ ps) map = maps_after n ps (map_after n p map)

-- Rule 7.2: the last map is wanted.
abbrev pub Turns : ℕ → List ℕ → List ℕ → List (List ℕ) → Type 0
Turns n held wanted ps = maps_after n ps held ≡ wanted

-- Rule 7.2: all packets' lengths together.
unfoldable pub total_bytes : List (List ℕ) → ℕ
total_bytes [] = 0
total_bytes (p ∷ ps) = length p + total_bytes ps

-- Rule 7.3: every packet of a list is accepted.
pub data AllAccepted (n : ℕ) : List (List ℕ) → Type 0 where
  none : AllAccepted n []
  next : {p : List ℕ} {ps : List (List ℕ)} → accepted_at n p ≡ true → AllAccepted n ps → AllAccepted n (p ∷ ps)

-- Rule 6.1: a map of N points: two numbers a point, each of 16 bits.
pub record MapOf (n : ℕ) (map : List ℕ) : Type 0 where
  pub long : length map ≡ 2 * n
  pub words : (k : ℕ) → get_or map k 0 < 65536
