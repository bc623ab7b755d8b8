-- Sections 6 and 7 in plain terms and with the numbers themselves: what planning takes, what it
-- answers and leaves, and what the names mean that say so. Parts and Judge are plain files too.
use Rattle.std.specs.Prelude.{ℕ, suc, ◌+◌, ◌-◌, ◌*◌, ◌/◌, ◌%◌, ◌≤◌, ◌<◌, ◌≡◌, ◌↔◌, List, [], ◌∷◌, ◌++◌, map, length, take, drop, get_or}
use Rattle.wire.specs.Tables.{words, bytes, longs}
use Rattle.packet.specs.Points.{map_after}
use Rattle.upload.specs.Plan.{Part, cost, packet_for, joined, plan_numbers, followed}
use Rattle.upload.specs.Judge.{maps_after, total_bytes, Turns, AllAccepted}
use Rattle.upload.specs.Parts.{part, counts, Chosen}

-- ---- What names mean.

pub record Pinned : Type 0 where
  -- Rule 7.1: each packet is given the map that the one before it left.
  pub maps-0 : (n : ℕ) (m : List ℕ) → maps_after n [] m ≡ m
  pub maps-1 : (n : ℕ) (p : List ℕ) (ps : List (List ℕ)) (m : List ℕ)
      → maps_after n (p ∷ ps) m ≡ maps_after n ps (map_after n p m)
  -- Rule 7.2: the bytes of a list of packets.
  pub total-0 : total_bytes [] ≡ 0
  pub total-1 : (p : List ℕ) (ps : List (List ℕ)) → total_bytes (p ∷ ps) ≡ length p + total_bytes ps
  -- Rule 6.1: the bytes of a plan, and rule 6.2: its counts.
  pub cost-0 : cost [] ≡ 0
  pub cost-1 : (p : Part) (ps : List Part) → cost (p ∷ ps) ≡ 6 + 4 * p.count + cost ps
  pub counts-0 : counts [] ≡ []
  pub counts-1 : (p : Part) (ps : List Part) → counts (p ∷ ps) ≡ p.count ∷ counts ps
  -- Rule 6.4: start and count in turn.
  pub numbers-0 : plan_numbers [] ≡ []
  pub numbers-1 : (p : Part) (ps : List Part) → plan_numbers (p ∷ ps) ≡ p.start ∷ p.count ∷ plan_numbers ps
  -- Rule 6.3: packets one behind the other.
  pub joined-0 : joined [] ≡ []
  pub joined-1 : (p : List ℕ) (ps : List (List ℕ)) → joined (p ∷ ps) ≡ p ++ joined ps
  -- Rule 6.3: header 14h, opcode 34h, the length of the data, the start, and wanted's points. A
  -- point is two numbers of two bytes; `pts` are as many numbers as count says, from the start on.
  pub packet : (wanted : List ℕ) (p : Part) (pts : List ℕ) → pts ≡ take (2 * p.count) (drop (2 * p.start) wanted)
      → packet_for wanted p
      ≡ 0x14 ∷ 0x34 ∷ (2 + 2 * length pts) % 256 ∷ (2 + 2 * length pts) / 256 ∷ p.start % 256 ∷ p.start / 256 ∷ bytes pts
  -- Rule 6.5: following choices from point i on, with k points still to come in the packet that was
  -- begun last: at 0 one goes on by a point, elsewhere a packet of so many points begins.
  pub follow-end : (i k : ℕ) → followed i k [] ≡ []
  pub follow-inside : (i k c : ℕ) (cs : List ℕ) → followed i (suc k) (c ∷ cs) ≡ followed (i + 1) k cs
  pub follow-on : (i : ℕ) (cs : List ℕ) → followed i 0 (0 ∷ cs) ≡ followed (i + 1) 0 cs
  pub follow-begin : (i c : ℕ) (cs : List ℕ) → followed i 0 (suc c ∷ cs) ≡ part i (suc c) ∷ followed (i + 1) c cs

-- ---- What is lent and answered.

-- The lists that planning writes.
pub record PlanLists : Type 0 where
  pub plan : List ℕ
  pub room : List ℕ
  pub choices : List ℕ
  pub batch : List ℕ

-- Rule 6.4: the status, then how many packets and how many bytes, 0 and 0 if refused. Then the
-- lists, as they are left.
pub record PlanOut : Type 0 where
  pub status : ℕ
  pub packets : ℕ
  pub bytes : ℕ
  pub left : PlanLists

-- Rule 6.1: the numbers of points that a map may have.
pub record PointsRight (n : ℕ) : Type 0 where
  pub some : 1 ≤ n
  pub few : n ≤ 1984

-- Rule 6.4: the lengths that planning asks for: so many numbers (or bytes) a point, in the plan and
-- at least in the room, a choice for each point of a full map, and a batch that holds any upload.
pub record ListsRight (each plans places n : ℕ) (held wanted : List ℕ) (s : PlanLists) : Type 0 where
  pub held-long : length held ≡ each * n
  pub wanted-long : length wanted ≡ each * n
  pub plan-long : length s.plan ≡ plans
  pub room-long : places ≤ length s.room
  pub choices-long : 1984 ≤ length s.choices
  pub batch-long : 8032 ≤ length s.batch

-- Rule 6.4: maps and plan of 16-bit numbers, room of 32-bit ones, choices of bytes.
abbrev pub PlanNumbersRight : ℕ → List ℕ → List ℕ → PlanLists → Type 0
PlanNumbersRight = ListsRight 2 3968 127

-- Rule 1.3: the same as bytes.
abbrev pub PlanBytesRight : ℕ → List ℕ → List ℕ → PlanLists → Type 0
PlanBytesRight = ListsRight 4 7936 508

-- Rule 6.4: how many packets and bytes are answered on a refusal, and that every list is as it was.
pub record Nothing (before : PlanLists) (o : PlanOut) : Type 0 where
  pub packets : o.packets ≡ 0
  pub bytes : o.bytes ≡ 0
  pub plan : o.left.plan ≡ before.plan
  pub room : o.left.room ≡ before.room
  pub choices : o.left.choices ≡ before.choices
  pub batch : o.left.batch ≡ before.batch

-- Rule 6.4: nothing is refused exactly if points and lists are right; a wrong number of points is
-- 10, whatever the lists; else a wrong length is 1; and a refusal leaves all that was lent.
pub record PlanRefusals (n : ℕ) (Right : Type 0) (before : PlanLists) (o : PlanOut) : Type 0 where
  pub exactly : (o.status ≡ 0) ↔ (PointsRight n × Right)
  pub wrong-points : (PointsRight n → ⊥) → o.status ≡ 10
  pub wrong-length : PointsRight n → (Right → ⊥) → o.status ≡ 1
  pub refused : (o.status ≡ 0 → ⊥) → Nothing before o

-- ---- Room and choices, rule 6.5.

-- Rules 6.5 and 7.3, demand 3 of the points from i on, taken as a map of their own: there are
-- packets, all accepted, that turn these points of held into those of wanted and have just so many
-- bytes, and no list of packets that does so has fewer.
pub record LeastFrom (n : ℕ) (held wanted : List ℕ) (i number : ℕ) : Type 0 where
  pub packets : List (List ℕ)
  pub accepted : AllAccepted (n - i) packets
  pub turns : Turns (n - i) (drop (2 * i) held) (drop (2 * i) wanted) packets
  pub total : total_bytes packets ≡ number
  pub least : (ps : List (List ℕ)) → Turns (n - i) (drop (2 * i) held) (drop (2 * i) wanted) ps → number ≤ total_bytes ps

-- Rule 6.5: the first so many numbers of the room.
pub record RoomMeans (n : ℕ) (held wanted : List ℕ) (numbers : ℕ) (room : List ℕ) : Type 0 where
  pub below : (k : ℕ) → k < n → k < numbers → LeastFrom n held wanted k (get_or room k 0)
  pub beyond : (k : ℕ) → n ≤ k → k < numbers → get_or room k 0 ≡ 0

-- Both numbers of a point are the same in held and in wanted.
abbrev pub SamePoint : List ℕ → List ℕ → ℕ → Type 0
SamePoint held wanted i =
    (get_or held (2 * i) 0 ≡ get_or wanted (2 * i) 0) × (get_or held (2 * i + 1) 0 ≡ get_or wanted (2 * i + 1) 0)

-- Rules 6.2 and 6.5: of n points, where `from` gives the least bytes for those from a point on: a
-- packet that begins at point i costs 6 + 4 × count and what is left behind it. No count from 1 to
-- 126 within the map costs less than this one, and every smaller one costs more.
pub record SmallestCount (n : ℕ) (from : ℕ → ℕ) (i count : ℕ) : Type 0 where
  pub some : 1 ≤ count
  pub few : count ≤ 126
  pub within : i + count ≤ n
  pub attained : from i ≡ 6 + 4 * count + from (i + count)
  pub lower : (c : ℕ) → 1 ≤ c → c ≤ 126 → i + c ≤ n → from i ≤ 6 + 4 * c + from (i + c)
  pub smallest : (c : ℕ) → 1 ≤ c → c < count → from i < 6 + 4 * c + from (i + c)

-- Rule 6.5: the first so many choices: at a point that differs the smallest count of those that
-- cost least from there on.
pub record ChoicesMean (n : ℕ) (held wanted : List ℕ) (many : ℕ) (choices : List ℕ) : Type 0 where
  -- The least bytes for the points from each point on, and at n for none.
  pub from : ℕ → ℕ
  pub least : (i : ℕ) → i ≤ n → LeastFrom n held wanted i (from i)
  pub differing : (i : ℕ) → i < n → i < many → (SamePoint held wanted i → ⊥) → SmallestCount n from i (get_or choices i 0)
  pub same : (i : ℕ) → i < n → i < many → SamePoint held wanted i → get_or choices i 0 ≡ 0
  pub beyond : (i : ℕ) → n ≤ i → i < many → get_or choices i 0 ≡ 0

-- ---- Planning.

-- Rule 7.3, of an answer: the first so many bytes of the batch are packets back to back, as many as
-- answered, that turn held into wanted, all accepted, and every list of packets that turns held
-- into wanted has at least as many bytes.
pub record Fewest (n : ℕ) (held wanted : List ℕ) (many size : ℕ) (batch : List ℕ) : Type 0 where
  pub packets : List (List ℕ)
  -- Rule 6.4.
  pub as_many : length packets ≡ many
  pub back-to-back : joined packets ≡ take size batch
  pub accepted : AllAccepted n packets
  pub turns : Turns n held wanted packets
  pub total : total_bytes packets ≡ size
  pub least : (ps : List (List ℕ)) → Turns n held wanted ps → size ≤ total_bytes ps

-- Part k of a plan. Rules 6.3 and 6.4: its start and count are numbers 2k and 2k + 1 of the lent
-- list, and its packet stands in the batch behind the bytes of the parts before it.
abbrev pub part_at : List Part → ℕ → Part
part_at parts k = get_or parts k (part 0 0)

pub record PartInLists (wanted : List ℕ) (parts : List Part) (plan batch : List ℕ) (k : ℕ) : Type 0 where
  pub start-at : get_or plan (2 * k) 0 ≡ (part_at parts k).start
  pub count_at : get_or plan (2 * k + 1) 0 ≡ (part_at parts k).count
  pub packet-at : take (6 + 4 * (part_at parts k).count) (drop (cost (take k parts)) batch) ≡ packet_for wanted (part_at parts k)

-- Rule 6.2: the lent list begins with the plan: a list of (start, count), as many as answered, that
-- is chosen, and no other is.
pub record PlanChosen (n : ℕ) (held wanted : List ℕ) (many size : ℕ) (plan choices batch : List ℕ) : Type 0 where
  pub parts : List Part
  -- Rule 6.4.
  pub as_many : length parts ≡ many
  pub numbers : plan_numbers parts ≡ take (2 * many) plan
  pub placed : (k : ℕ) → k < many → PartInLists wanted parts plan batch k
  -- Rule 6.2.
  pub chosen : Chosen n held wanted parts
  pub only : (qs : List Part) → Chosen n held wanted qs → qs ≡ parts
  -- Rule 6.5: it is what following the choices from point 0 gives.
  pub follows : followed 0 0 (take n choices) ≡ parts
  -- Rule 6.1.
  pub total : cost parts ≡ size
  -- Rule 6.2: the bound on bytes, 8,032 where the map is full.
  pub bound : size ≤ 4 * n + 6 * ((n + 125) / 126)
  -- Rule 6.3: the batch is these parts' packets back to back.
  pub sent : joined (map (packet_for wanted) parts) ≡ take size batch

-- Rules 6.2 to 6.5 and 7.3: what planning that is not refused answers and leaves, for lists of
-- numbers.
pub record PlanDone (n : ℕ) (held wanted : List ℕ) (before : PlanLists) (packets size : ℕ) (left : PlanLists) : Type 0 where
  pub fewest : Fewest n held wanted packets size left.batch
  pub plan : PlanChosen n held wanted packets size left.plan left.choices left.batch
  pub room : RoomMeans n held wanted 127 left.room
  pub choices : ChoicesMean n held wanted 1984 left.choices
  -- Rule 6.2: equal maps need no packet.
  pub equal : held ≡ wanted → (packets ≡ 0) × (size ≡ 0)
  -- Rule 6.5: every list behind what is used is as it was, and no list has grown or shrunk.
  pub plan-behind : drop (2 * packets) left.plan ≡ drop (2 * packets) before.plan
  pub room-behind : drop 127 left.room ≡ drop 127 before.room
  pub choices-behind : drop 1984 left.choices ≡ drop 1984 before.choices
  pub batch-behind : drop size left.batch ≡ drop size before.batch
  pub plan-kept : length left.plan ≡ length before.plan
  pub room-kept : length left.room ≡ length before.room
  pub choices-kept : length left.choices ≡ length before.choices
  pub batch-kept : length left.batch ≡ length before.batch

-- Section 6 and rule 7.3, the plain promise of planning on numbers.
pub record PlanPlain (n : ℕ) (held wanted : List ℕ) (before : PlanLists) (o : PlanOut) : Type 0 where
  pub refusals : PlanRefusals n (PlanNumbersRight n held wanted before) before o
  pub done : o.status ≡ 0 → PlanDone n held wanted before o.packets o.bytes o.left

-- Rule 1.3, the plain promise of planning on bytes: unless it is refused, what is left holds what
-- planning on the numbers in these bytes leaves.
pub record PlanBytesPlain (n : ℕ) (held wanted : List ℕ) (before : PlanLists) (o : PlanOut) : Type 0 where
  pub refusals : PlanRefusals n (PlanBytesRight n held wanted before) before o
  pub numbers : o.status ≡ 0
      → PlanDone n (words held) (words wanted)
      (record { plan = words before.plan; room = longs before.room; choices = before.choices; batch = before.batch })
      o.packets o.bytes
      (record { plan = words o.left.plan; room = longs o.left.room; choices = o.left.choices; batch = o.left.batch })
  -- A part of the plan is four bytes, and so is a number of the room, which may end in a part of
  -- one.
  pub plan-behind : drop (4 * o.packets) o.left.plan ≡ drop (4 * o.packets) before.plan
  pub room-behind : drop 508 o.left.room ≡ drop 508 before.room
  pub plan-kept : length o.left.plan ≡ length before.plan
  pub room-kept : length o.left.room ≡ length before.room

-- ---- Measuring, rules 6.5 and 7.3: the least bytes, with a room of so many numbers and so many
-- choices. Whoever wants the bytes alone lends empty ones.

-- Rules 6.1 and 1.3, what is asked of the caller: two maps of n points, of so many numbers (or
-- bytes) a point.
pub record MapsLent (each n : ℕ) (held wanted : List ℕ) : Type 0 where
  pub few : n ≤ 1984
  pub held-long : length held ≡ each * n
  pub wanted-long : length wanted ≡ each * n

pub record MeasuredPlain (n : ℕ) (held wanted : List ℕ) (numbers many size : ℕ) (room choices : List ℕ) : Type 0 where
  pub least : LeastFrom n held wanted 0 size
  pub room-long : length room ≡ numbers
  pub room-means : RoomMeans n held wanted numbers room
  pub choices-long : length choices ≡ many
  pub choices-mean : ChoicesMean n held wanted many choices

-- Rule 1.3: the same of the numbers that bytes hold; the room was lent as bytes too, keeps its
-- length, and may end in a part of a number, whose bytes stay.
pub record MeasuredBytesPlain (n : ℕ) (held wanted room₀ choices₀ : List ℕ) (size : ℕ) (room choices : List ℕ) : Type 0 where
  pub numbers : MeasuredPlain n (words held) (words wanted) (length (longs room₀)) (length choices₀) size (longs room) choices
  pub room-kept : length room ≡ length room₀
  pub room-behind : (k : ℕ) → 4 * (length room₀ / 4) ≤ k → k < length room₀ → get_or room k 0 ≡ get_or room₀ k 0
