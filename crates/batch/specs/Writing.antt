-- What the functions that write a batch ask for.
use Rattle.std.specs.Prelude.{ℕ, ◌+◌, ◌*◌, ◌%◌, ◌≤◌, ◌<◌, ◌≡◌, List, length}
use Rattle.upload.specs.Sizes.{most_count}

-- Rules 6.1 and 6.6: a packet of these points of such a map has room in a buffer behind what is
-- filled.
abbrev pub PacketFits : List ℕ → ℕ → List ℕ → ℕ → ℕ → Type 0
PacketFits buffer filled map start count =
    (filled + (6 + 4 * count) ≤ length buffer)
    × (1 ≤ count)
    × (count ≤ most_count)
    × (start < 65536)
    × (2 * (start + count) ≤ length map)
    × (length map % 2 ≡ 0)

-- Rules 5.11 and 10.3: a packet of these words has room behind what is filled, and its length a
-- field.
abbrev pub PairsFit : List ℕ → ℕ → List ℕ → ℕ → ℕ → Type 0
PairsFit buffer filled ws colour start =
    (filled + (10 + 2 * length ws) ≤ length buffer)
    × (6 + 2 * length ws < 65536)
    × (colour < 256)
    × (start < 65536)
