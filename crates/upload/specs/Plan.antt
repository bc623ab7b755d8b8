-- Rules 6.1 to 6.3: the plan, its parts of start and count, and its packets.
use Rattle.std.specs.Prelude.{ℕ, zero, suc, ◌+◌, ◌*◌, ◌≡◌, Bool, true, false, List, [], ◌∷◌, ◌++◌, map, length, take, drop}
use Rattle.wire.specs.Numbers.{word_bytes}
use Rattle.wire.specs.Tables.{bytes}
use Rattle.packet.specs.Frame.{announced}
use Rattle.packet.specs.Making.{packet_of}
use Rattle.upload.specs.Sizes.{most_more}
use Rattle.upload.specs.Cost.{differs, rooms, more}

-- Rule 6.1: one packet of a plan.
pub record Part : Type 0 where
  pub start : ℕ
  pub count : ℕ

-- Rule 6.2, from point i on, with k points more in the open packet.
unfoldable pub plan_from : ℕ → ℕ → List Bool → List Part
plan_from i k [] = []
plan_from i (suc k) (d ∷ ds) = plan_from (suc i) k ds
plan_from i zero (false ∷ ds) = plan_from (suc i) zero ds
plan_from i zero (true ∷ ds) =
    record { start = i; count = suc (more most_more (rooms ds)) } ∷ plan_from (suc i) (more most_more (rooms ds)) ds

-- Rule 6.2: the plan for a map held and one wanted.
unfoldable pub plan_of : List ℕ → List ℕ → List Part
plan_of held wanted = plan_from 0 0 (differs held wanted)

-- Rule 6.5: what following choices gives, from point i on, with k points more in the open packet: one begins where the choice is not
-- 0, with so many points.
unfoldable pub followed : ℕ → ℕ → List ℕ → List Part
followed i k [] = []
followed i (suc k) (c ∷ cs) = followed (suc i) k cs
followed i zero (zero ∷ cs) = followed (suc i) zero cs
followed i zero (suc c ∷ cs) = record { start = i; count = suc c } ∷ followed (suc i) c cs

-- Rule 6.1: 6 bytes for each packet and 4 for each of its points.
unfoldable pub cost : List Part → ℕ
cost [] = 0
cost (p ∷ ps) = 6 + 4 * p.count + cost ps

-- Rule 6.3: a part's packet: header 14h, length, start, and wanted's points.
unfoldable pub packet_for : List ℕ → Part → List ℕ
packet_for wanted p =
    packet_of 0x34 0x10 (word_bytes p.start ++ bytes (take (2 * p.count) (drop (2 * p.start) wanted)))

-- Rule 6.3: the packets of the plan, in order.
unfoldable pub packets_of : List ℕ → List ℕ → List (List ℕ)
packets_of held wanted = map (packet_for wanted) (plan_of held wanted)

unfoldable pub joined : List (List ℕ) → List ℕ
joined [] = []
joined (p ∷ ps) = p ++ joined ps

-- Rule 6.3: the packets of the plan, one behind the other.
unfoldable pub batch_of : List ℕ → List ℕ → List ℕ
batch_of held wanted = joined (packets_of held wanted)

-- Rule 2.4: packets back to back, whatever stands behind them, of which each has as many bytes as it announces: who walks by these
-- numbers finds just these packets.
pub data EachAnnounced (rest : List ℕ) : List (List ℕ) → Type 0 where
  none : EachAnnounced rest []
  next : {p : List ℕ} {ps : List (List ℕ)} → announced (p ++ (joined ps ++ rest)) ≡ length p → EachAnnounced rest ps
      → EachAnnounced rest (p ∷ ps)

-- Rule 6.4: the plan's numbers as they are lent: start and count in turn.
unfoldable pub plan_numbers : List Part → List ℕ
plan_numbers [] = []
plan_numbers (p ∷ ps) = p.start ∷ p.count ∷ plan_numbers ps
