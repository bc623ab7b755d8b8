-- Rules 6.4 and 6.5: what planning answers, and what it leaves in the lent lists, by definitions
-- that can be run; and what its code promises, by these and in plain terms (Plain).
use Rattle.std.specs.Prelude.{ℕ, zero, suc, ◌*◌, ◌≤◌, ◌≡◌, Bool, cond, not, ◌&&◌, ◌||◌, List, [], ◌∷◌, map, length, drop, eqb, leb, ltb}
use Rattle.wire.specs.First.{first}
use Rattle.wire.specs.Buffers.{over}
use Rattle.wire.specs.Tables.{words, bytes, longs, long_bytes}
use Rattle.upload.specs.Sizes.{most_points, plan_size, room_size, choices_size, batch_size}
use Rattle.upload.specs.Cost.{differs, rooms, choices}
use Rattle.upload.specs.Plan.{Part, plan_of, followed, cost, plan_numbers, packet_for, batch_of, joined}
use Rattle.upload.specs.Parts.{InOrder}
use Rattle.upload.specs.Plain.{PlanLists, PlanOut, PlanPlain, PlanBytesPlain, MeasuredPlain, MeasuredBytesPlain}

abbrev pub plan_lists : List ℕ → List ℕ → List ℕ → List ℕ → PlanLists
plan_lists plan room choices batch = record { plan = plan; room = room; choices = choices; batch = batch }

-- Rule 6.4, 10: a map has 1 to 1,984 points.
abbrev pub points_wrong : ℕ → Bool
points_wrong n = eqb n 0 || ltb most_points n

-- How long the lists are that planning is lent, or asks for.
pub record Lengths : Type 0 where
  pub held : ℕ
  pub wanted : ℕ
  pub plan : ℕ
  pub room : ℕ
  pub choices : ℕ
  pub batch : ℕ

abbrev pub lengths : ℕ → ℕ → ℕ → ℕ → ℕ → ℕ → Lengths
lengths held wanted plan room choices batch =
    record { held = held; wanted = wanted; plan = plan; room = room; choices = choices; batch = batch }

-- Rule 6.4, 1: a list is not as long as is asked for; room, choices and batch may be longer.
abbrev pub lengths_wrong : Lengths → Lengths → Bool
lengths_wrong lent asked =
    not
    (eqb lent.held asked.held
    && eqb lent.wanted asked.wanted
    && eqb lent.plan asked.plan
    && leb asked.room lent.room
    && leb asked.choices lent.choices
    && leb asked.batch lent.batch)

-- Rule 6.4: 10 is tried first.
abbrev pub refusals_of : ℕ → Lengths → Lengths → List (ℕ × Bool)
refusals_of n lent asked = (10, points_wrong n) ∷ (1, lengths_wrong lent asked) ∷ []

-- The same of lists, for so many numbers (or bytes) a point, in the plan and in the room.
abbrev pub refusals_with : ℕ → ℕ → ℕ → ℕ → List ℕ → List ℕ → PlanLists → List (ℕ × Bool)
refusals_with each plans places n held wanted s =
    refusals_of n
    (lengths (length held) (length wanted) (length s.plan) (length s.room) (length s.choices) (length s.batch))
    (lengths (each * n) (each * n) plans places choices_size batch_size)

-- Rule 6.4: maps and plan of 16-bit numbers, room of 32-bit ones, choices of bytes.
abbrev pub plan_refusals : ℕ → List ℕ → List ℕ → PlanLists → List (ℕ × Bool)
plan_refusals = refusals_with 2 plan_size room_size

abbrev pub plan_out : ℕ → ℕ → ℕ → PlanLists → PlanOut
plan_out status packets bytes s = record { status = status; packets = packets; bytes = bytes; left = s }

-- The first m numbers of a list, and 0 where it has no more.
unfoldable pub firsts : ℕ → List ℕ → List ℕ
firsts zero l = []
firsts (suc m) [] = 0 ∷ firsts m []
firsts (suc m) (x ∷ l) = x ∷ firsts m l

-- Rule 6.5: a room of so many numbers: the least bytes from each of the first points on, and 0 from N on. That of planning has 127.
abbrev pub room_for : ℕ → List ℕ → List ℕ → List ℕ
room_for numbers held wanted = firsts numbers (rooms (differs held wanted))

abbrev pub room_of : List ℕ → List ℕ → List ℕ
room_of = room_for room_size

-- Rule 6.5: so many choices, and 0 from N on. Planning has one for each point of a full map.
abbrev pub choices_for : ℕ → List ℕ → List ℕ → List ℕ
choices_for many held wanted = firsts many (choices (differs held wanted))

abbrev pub choices_of : List ℕ → List ℕ → List ℕ
choices_of = choices_for choices_size

-- ---- The two steps of planning that is not refused: measuring gives the least bytes and fills the room and the choices, writing
-- makes plan and batch by following the choices.

-- Rules 6.5 and 7.3, of measuring with so many numbers in the room and so many choices: the bytes
-- of the batch, what is left in both, and the same in plain terms.
pub record Measured (n : ℕ) (held wanted : List ℕ) (numbers many size : ℕ) (room choices : List ℕ) : Type 0 where
  pub bytes-are : size ≡ length (batch_of held wanted)
  pub room-is : room ≡ room_for numbers held wanted
  pub choices-are : choices ≡ choices_for many held wanted
  pub plain : MeasuredPlain n held wanted numbers many size room choices

-- Rule 1.3: the same of maps and a room that are lent as bytes; the room behind its numbers is as
-- it was.
pub record MeasuredBytes (n : ℕ) (held wanted room₀ choices₀ : List ℕ) (size : ℕ) (room choices : List ℕ) : Type 0 where
  pub bytes-are : size ≡ length (batch_of (words held) (words wanted))
  pub room-is : longs room ≡ room_for (length (longs room₀)) (words held) (words wanted)
  pub room-behind : drop (4 * length (longs room₀)) room ≡ drop (4 * length (longs room₀)) room₀
  pub choices-are : choices ≡ choices_for (length choices₀) (words held) (words wanted)
  pub plain : MeasuredBytesPlain n held wanted room₀ choices₀ size room choices

-- Rules 6.1 and 6.2: choices, one for each point, that can be followed: their parts lie inside the map, and their packets in a batch.
pub record Followable (choices : List ℕ) : Type 0 where
  pub few : length choices ≤ most_points
  pub in_order : InOrder (length choices) 0 (followed 0 0 choices)
  pub small : cost (followed 0 0 choices) ≤ batch_size

-- Rules 6.3 to 6.5, of writing these parts: how many packets and how many bytes; plan and batch written over the start of their
-- lists.
pub record PlanWritten (wanted : List ℕ) (parts : List Part) (plan₀ batch₀ plan batch : List ℕ) (packets size : ℕ) : Type 0 where
  pub packets-are : packets ≡ length parts
  pub bytes-are : size ≡ length (joined (map (packet_for wanted) parts))
  pub plan-is : plan ≡ over (plan_numbers parts) plan₀
  pub batch-is : batch ≡ over (joined (map (packet_for wanted) parts)) batch₀

-- Rules 6.2 to 6.5: what planning writes over the start of each list.
abbrev pub writes : List ℕ → List ℕ → PlanLists
writes held wanted =
    plan_lists (plan_numbers (plan_of held wanted)) (room_of held wanted) (choices_of held wanted) (batch_of held wanted)

abbrev pub over_all : PlanLists → PlanLists → PlanLists
over_all new s =
    plan_lists (over new.plan s.plan) (over new.room s.room) (over new.choices s.choices)
    (over new.batch s.batch)

-- Rules 6.4 and 6.5: a refusal leaves every list.
abbrev pub planned_by : ℕ → List Part → PlanLists → PlanLists → PlanOut
planned_by number plan new s =
    cond (eqb number 0) (plan_out 0 (length plan) (length new.batch) (over_all new s)) (plan_out number 0 0 s)

-- Rules 6.4 and 6.5.
unfoldable pub planned : ℕ → List ℕ → List ℕ → PlanLists → PlanOut
planned n held wanted s =
    planned_by (first (plan_refusals n held wanted s)) (plan_of held wanted) (writes held wanted) s

-- The promise of planning on numbers: its answer and every lent list, and the same in plain terms.
pub record Planned (n : ℕ) (held wanted : List ℕ) (before : PlanLists) (o : PlanOut) : Type 0 where
  pub outcome : o ≡ planned n held wanted before
  pub plain : PlanPlain n held wanted before o

-- ---- Lists lent as bytes, rule 1.3: the answers are the same.

abbrev pub lists_in : PlanLists → PlanLists
lists_in s = plan_lists (words s.plan) (longs s.room) s.choices s.batch

abbrev pub list_bytes : PlanLists → PlanLists
list_bytes s = plan_lists (bytes s.plan) (long_bytes s.room) s.choices s.batch

abbrev pub byte_plan_out : PlanOut → PlanOut
byte_plan_out o = plan_out o.status o.packets o.bytes (list_bytes o.left)

-- Rules 1.3 and 6.4.
abbrev pub byte_plan_refusals : ℕ → List ℕ → List ℕ → PlanLists → List (ℕ × Bool)
byte_plan_refusals = refusals_with 4 (2 * plan_size) (4 * room_size)

-- Rules 1.3 and 6.4: the same of the numbers in these bytes, written as bytes.
unfoldable pub planned_bytes : ℕ → List ℕ → List ℕ → PlanLists → PlanOut
planned_bytes n held wanted s =
    planned_by (first (byte_plan_refusals n held wanted s)) (plan_of (words held) (words wanted))
    (list_bytes (writes (words held) (words wanted))) s

-- Rule 1.3, the promise of planning on bytes, likewise.
pub record PlannedBytes (n : ℕ) (held wanted : List ℕ) (before : PlanLists) (o : PlanOut) : Type 0 where
  pub outcome : o ≡ planned_bytes n held wanted before
  pub plain : PlanBytesPlain n held wanted before o
