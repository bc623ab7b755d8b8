-- What the tests of planning say of the lists where nothing is refused.
use Rattle.std.proofs.Common.{ℕ, ◌*◌, ◌≤◌, ◌≡◌, false, ap, ◌∙◌, ◌++◌, arith, List, length, take, drop}
use lib.Seq.{take_all, take-append-le, length-take-le}
use native.Mathlib.Nat.{mul_assoc}
use Rattle.wire.proofs.Tests.{told}
use Rattle.wire.specs.Elements.{ElementLaws}
use Rattle.upload.specs.Judge.{MapOf}
use Rattle.upload.specs.Planning.{Lengths, points_wrong, lengths_wrong, room_of, room_for}
use Rattle.upload.proofs.Outcome.{points-tested}
use Rattle.planning.specs.Rooms.{RoomLaws}
use Rattle.planning.specs.Made.{Small}

pub record Agree (lent want : Lengths) : Type 0 where
  pub held : lent.held ≡ want.held
  pub wanted : lent.wanted ≡ want.wanted
  pub plan : lent.plan ≡ want.plan
  pub room : want.room ≤ lent.room
  pub choices : want.choices ≤ lent.choices
  pub batch : want.batch ≤ lent.batch

pub agree : (lent want : Lengths) → lengths_wrong lent want ≡ false → Agree lent want
agree lent want e =
    record {
      held = search (told, e);
      wanted = search (told, e);
      plan = search (told, e);
      room = search (told, e);
      choices = search (told, e);
      batch = search (told, e);
    }

pub few-points : {n : ℕ} → points_wrong n ≡ false → n ≤ 1984
few-points {n} e = ((points-tested n).0 e).few

-- A map of n points, whatever it is made of.
pub map-long : {T : Type 0} {w : ℕ} {numbers : List T → List ℕ} → ElementLaws w numbers → (n : ℕ) (map : List T) → length map ≡ w * 2 * n
    → length (numbers map) ≡ 2 * n
map-long {w = w} l n map e = l.counted map (2 * n) (e ∙ mul_assoc w 2 n)

pub map-of : {n : ℕ} {map : List ℕ} → length map ≡ 2 * n → Small map → MapOf n map
map-of e s = record { long = e; words = s }

-- The first numbers of a room, of which a part was measured.
pub room-cut : {R : Type 0} {v : ℕ} {longs : List R → List ℕ} → RoomLaws v longs → (held wanted : List ℕ) (new room : List R) (m : ℕ) → m ≡ v
    → v * 127 ≤ length room → length new ≡ length (take (m * 127) room)
    → longs new ≡ room_for (length (longs (take (m * 127) room))) held wanted
    → longs (take (v * 127) (new ++ drop (m * 127) room)) ≡ room_of held wanted
room-cut {v = v} {longs = longs} l held wanted new room m e h long r =
    let inside : m * 127 ≤ length room = omega arith in
    let wide : length (take (m * 127) room) ≡ v * 127 = omega (arith, length-take-le (m * 127) room inside) in
    let front : take (v * 127) (new ++ drop (m * 127) room) ≡ new =
    take-append-le (v * 127) new (drop (m * 127) room) (omega arith) ∙ take_all (v * 127) new (omega arith) in
    ap longs front ∙ r ∙ ap (λ (k : ℕ). room_for k held wanted) (l.counted (take (m * 127) room) 127 wide)
