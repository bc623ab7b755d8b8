-- Rule 6.5, what room and choices hold: in the room at a point's index the bytes of the batch for it and the points behind it, which
-- rule 7.3 says are the fewest; in choices at a point that differs the smallest count that attains them.
use Prim.Native.Nat.{ℕ, ◌+◌, ◌-◌, ◌*◌, ◌≤◌, ◌<◌}
use mathlib.Core.Path.{◌≡◌, refl, sym, ap, ◌∙◌}
use mathlib.Core.Bool.{Bool, true, false, not, ◌&&◌}
use mathlib.Core.List.{List}
use native.Mathlib.Omega.{arith}
use borrow.Author.Tests.{eqb-true, eq-eqb}
use lib.ListN.{length, drop, get_or, length-drop, get_or-append}
use lib.Seq.{get_or-drop}
use lib.Dec.{eqb}
use Rattle.wire.specs.Buffers.{over}
use Rattle.upload.specs.Cost.{differs, best, rooms, choices}
use Rattle.upload.specs.Plan.{packets_of, batch_of}
use Rattle.upload.specs.Judge.{MapOf}
use Rattle.upload.specs.Plain.{SmallestCount, LeastFrom, RoomMeans, SamePoint, ChoicesMean}
use Rattle.upload.specs.Planning.{firsts}
use Rattle.upload.proofs.Least.{room-at, smallest-count}
use Rattle.upload.proofs.Rooms.{length-firsts, firsts_at, room-end, choice-at, choice-end}
use Rattle.upload.proofs.Differs.{differs-long, differs-drop, differs_at}
use Rattle.upload.proofs.Lists.{demand3, plan-cost, batch-cost}

-- The points of a map from i on.
map-from : (n : ℕ) (map : List ℕ) (i : ℕ) → i ≤ n → MapOf n map → MapOf (n - i) (drop (2 * i) map)
map-from n map i h m =
    record {
      long = rw length-drop (omega (arith, m.long));
      words = λ k. rw get_or-drop (m.words (2 * i + k));
    }

-- The same count, where the least bytes are counted another way.
smallest-by : {n i count : ℕ} (from from' : ℕ → ℕ) → i ≤ n → ((k : ℕ) → k ≤ n → from k ≡ from' k) → SmallestCount n from i count
    → SmallestCount n from' i count
smallest-by {i = i} {count = count} from from' h e r =
    record {
      some = r.some;
      few = r.few;
      within = r.within;
      attained = omega (arith, r.attained, e i h, e (i + count) r.within);
      lower = λ c g k l. omega (arith, r.lower c g k l, e i h, e (i + c) l);
      smallest = λ c g k. omega (arith, r.smallest c g k, e i h, e (i + c) (omega (arith, r.within)));
    }

-- What is written over a list's start stands there.
pub written_at : (m : ℕ) (l list : List ℕ) (k : ℕ) → k < m → get_or (over (firsts m l) list) k 0 ≡ get_or l k 0
unfolding over
written_at m l list k h = get_or-append (firsts m l) _ 0 k (omega (arith, length-firsts m l)) ∙ firsts_at m l k h

-- The bytes of the batch for the points from i on, taken as a map of their own.
abbrev bytes_from : List ℕ → List ℕ → ℕ → ℕ
bytes_from held wanted i = length (batch_of (drop (2 * i) held) (drop (2 * i) wanted))

module _ (n : ℕ) (held wanted : List ℕ) (h : MapOf n held) (w : MapOf n wanted) where
  abbrev ds : List Bool
  ds = differs held wanted

  all : length ds ≡ n
  all = differs-long n held wanted h.long w.long

  low-bytes : (i : ℕ) → i ≤ n → best 0 (rooms (drop i ds)) ≡ bytes_from held wanted i
  low-bytes i l =
      let held' = map-from n held i l h in
      let wanted' = map-from n wanted i l w in
      ap (λ (l : List Bool). best 0 (rooms l)) (sym (differs-drop i held wanted))
      ∙ sym (plan-cost (n - i) (drop (2 * i) held) (drop (2 * i) wanted) held'.long wanted'.long)
      ∙ sym (batch-cost (n - i) (drop (2 * i) held) (drop (2 * i) wanted) held'.long wanted'.long)

  pub least-from : (i : ℕ) → i ≤ n → LeastFrom n held wanted i (bytes_from held wanted i)
  unfolding batch_of
  least-from i l =
      let d = demand3 (n - i) (drop (2 * i) held) (drop (2 * i) wanted) (map-from n held i l h) (map-from n wanted i l w) in
      record {
        packets = packets_of (drop (2 * i) held) (drop (2 * i) wanted);
        accepted = d.accepted;
        turns = d.turns;
        total = sym d.bytes;
        least = d.fewest;
      }

  -- A room that has the least bytes from each of the first points on.
  pub room-means : (numbers : ℕ) (room : List ℕ) → ((k : ℕ) → k < numbers → get_or room k 0 ≡ get_or (rooms ds) k 0) → RoomMeans n held wanted numbers room
  room-means numbers room at =
      record {
        below = λ k l g. rw (at k (omega arith) ∙ room-at ds k (omega (arith, all)) ∙ low-bytes k (omega arith)) (least-from k (omega arith));
        beyond = λ k l g. at k (omega arith) ∙ room-end ds k (omega (arith, all));
      }

  -- A point that differs, and one that does not.
  point-differs : (i : ℕ) → i < n → (SamePoint held wanted i → ⊥) → get_or ds i false ≡ true
  point-differs i l other = differs_at held wanted i (omega (arith, h.long)) (omega (arith, w.long)) ∙ go _ _ refl refl
    where
      go : (x y : Bool) → eqb (get_or held (2 * i) 0) (get_or wanted (2 * i) 0) ≡ x → eqb (get_or held (2 * i + 1) 0) (get_or wanted (2 * i + 1) 0) ≡ y
          → not (eqb (get_or held (2 * i) 0) (get_or wanted (2 * i) 0) && eqb (get_or held (2 * i + 1) 0) (get_or wanted (2 * i + 1) 0)) ≡ true
      go true true e f = absurd (other (eqb-true _ _ e, eqb-true _ _ f))
      go true false e f = rw (e, f)
      go false y e f = rw e

  point-same : (i : ℕ) → i < n → SamePoint held wanted i → get_or ds i false ≡ false
  point-same i l same =
      differs_at held wanted i (omega (arith, h.long)) (omega (arith, w.long)) ∙ rw (eq-eqb _ _ same.0, eq-eqb _ _ same.1)

  pub choices-mean : (many : ℕ) (list : List ℕ) → ((k : ℕ) → k < many → get_or list k 0 ≡ get_or (choices ds) k 0) → ChoicesMean n held wanted many list
  choices-mean many list at =
      record {
        from = bytes_from held wanted;
        least = least-from;
        differing = λ i l g other.
            let d = point-differs i l other in
            rw (at i (omega arith), choice-at ds i (omega (arith, all)), d)
            (smallest-by (λ (k : ℕ). best 0 (rooms (drop k ds))) (bytes_from held wanted) (omega arith) low-bytes (rw all at (smallest-count ds i (omega (arith, all)) d)));
        same = λ i l g s. at i (omega arith) ∙ choice-at ds i (omega (arith, all)) ∙ rw (point-same i l s);
        beyond = λ i l g. at i (omega arith) ∙ choice-end ds i (omega (arith, all));
      }
