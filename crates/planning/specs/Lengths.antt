-- Rule 6.4: the lengths that are asked for, with so many elements for a number of map and plan, and
-- for a number of the room.
use Rattle.std.specs.Prelude.{ℕ, ◌*◌}
use Rattle.upload.specs.Sizes.{plan_size, room_size, choices_size, batch_size}
use Rattle.upload.specs.Planning.{Lengths, lengths}

abbrev pub asked : (width long points : ℕ) → Lengths
asked width long points =
    let map : ℕ = width * 2 * points in
    lengths map map (width * plan_size) (long * room_size) choices_size batch_size
