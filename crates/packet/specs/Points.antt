-- Rules 5.4 and 7.1: what a 34h write does to a map, and which packets are one. The front end and the judge of lists share this.
use Rattle.std.specs.Prelude.{ℕ, ◌+◌, ◌*◌, ◌-◌, ◌/◌, Bool, cond, ◌&&◌, List, length, drop, eqb, leb}
use Rattle.std.proofs.Math.Seq.{paste}
use Rattle.wire.specs.Numbers.{word_at}
use Rattle.wire.specs.Tables.{words}
use Rattle.opcode.specs.Options.{is_read}
use Rattle.packet.specs.Frame.{data_of}
use Rattle.packet.specs.Reading.{reading}

-- Rule 5.4: the points from start on become those given. Two numbers a point, x and y in turn.
abbrev pub write_points : ℕ → List ℕ → List ℕ → List ℕ
write_points start points map = paste map (2 * start) points (length points)

-- Rule 5.4, of a write's data: the start, the points' numbers and how many points they are.
abbrev pub start_of : List ℕ → ℕ
start_of d = word_at d 0

abbrev pub points_of : List ℕ → List ℕ
points_of d = words (drop 2 d)

-- Rule 5.4: a point has four bytes.
abbrev pub count_of : List ℕ → ℕ
count_of d = (length d - 2) / 4

-- Rule 7.1: reading takes the packet, and it is a 34h write.
abbrev pub writes_points : List ℕ → Bool
writes_points p = eqb (reading p).number 0 && eqb (reading p).opcode 0x34 && eqb (is_read (reading p).options) 0

-- Rule 7.1: such a packet is accepted on a map of n points if start + count is at most n.
abbrev pub accepted_at : ℕ → List ℕ → Bool
accepted_at n p = writes_points p && leb (start_of (data_of p) + count_of (data_of p)) n

-- Rule 7.1: an accepted packet writes its points; whatever else comes leaves the map.
unfoldable pub map_after : ℕ → List ℕ → List ℕ → List ℕ
map_after n p map = cond (accepted_at n p) (write_points (start_of (data_of p)) (points_of (data_of p)) map) map
