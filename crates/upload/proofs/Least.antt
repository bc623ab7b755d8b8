-- `best`, `rooms` and `more` in the words of rule 6.2: the least over the counts 1 to 126, and the smallest count that attains it.
use Prim.Native.Nat.{ℕ, zero, suc, ◌+◌, ◌*◌, ◌≤◌, ◌<◌}
use mathlib.Core.Path.{◌≡◌, refl, sym}
use mathlib.Core.Bool.{Bool, true, false}
use mathlib.Core.List.{List, [], ◌∷◌}
use native.Mathlib.Omega.{arith}
use borrow.Author.Tests.{leb-true, leb-false}
use lib.ListN.{length, drop, get_or, length-drop}
use lib.Seq.{drop-cons, drop-drop}
use lib.Dec.{leb}
use Rattle.upload.specs.Cost.{best, least, rooms, more}
use Rattle.upload.specs.Plain.{SmallestCount}
use Rattle.upload.proofs.Best.{best-falls, best-end}

-- The least bytes from a point on, and at the end, out of all of them. They are those at the front for the points from there on;
-- RoomMeans says what that is.
abbrev room_at : List Bool → ℕ → ℕ
room_at ds i = get_or (rooms ds) i 0

pub room-at : (ds : List Bool) (i : ℕ) → i ≤ length ds → room_at ds i ≡ best 0 (rooms (drop i ds))
unfolding best rooms
room-at [] zero h = refl
room-at [] (suc i) h = absurd (omega arith)
room-at (d ∷ ds) zero h = refl
room-at (d ∷ ds) (suc i) h = room-at ds i (omega arith)

-- Of the counts c from 0 to k within what is left: the least of 4 × c + the least bytes c further on, and the smallest count that
-- attains it.
pub record Least (ds : List Bool) (k : ℕ) : Type 0 where
  pub lower : (c : ℕ) → c ≤ k → c ≤ length ds → best k (rooms ds) ≤ 4 * c + room_at ds c
  pub most : more k (rooms ds) ≤ k
  pub within : more k (rooms ds) ≤ length ds
  pub attained : best k (rooms ds) ≡ 4 * more k (rooms ds) + room_at ds (more k (rooms ds))
  pub smallest : (c : ℕ) → c < more k (rooms ds) → best k (rooms ds) < 4 * c + room_at ds c

best-lower : (ds : List Bool) (k c : ℕ) → c ≤ k → c ≤ length ds → best k (rooms ds) ≤ 4 * c + room_at ds c
unfolding best rooms
best-lower [] k c h l = omega (arith, best-end k)
best-lower (d ∷ ds) k zero h l = omega (arith, best-falls 0 k (rooms (d ∷ ds)) h)
best-lower (d ∷ ds) zero (suc c) h l = absurd (omega arith)
best-lower (d ∷ ds) (suc k) (suc c) h l = omega (arith, best-lower ds k c (omega arith) (omega arith))

-- Where no count is smallest but 0.
stops : (ds : List Bool) (k : ℕ) → more k (rooms ds) ≡ 0 → best k (rooms ds) ≡ room_at ds 0 → Least ds k
stops ds k e f =
    record {
      lower = best-lower ds k;
      most = omega arith;
      within = omega arith;
      attained = rw e (omega arith);
      smallest = λ c h. absurd (omega arith);
    }

further : (b : Bool) (d : Bool) (ds : List Bool) (k : ℕ) → leb (least d (rooms ds)) (4 + best k (rooms ds)) ≡ b → Least ds k → Least (d ∷ ds) (suc k)
unfolding best rooms more
further true d ds k e r = stops (d ∷ ds) (suc k) (rw e) (omega (arith, leb-true))
further false d ds k e r =
    record {
      lower = best-lower (d ∷ ds) (suc k);
      most = rw e (omega arith);
      within = rw e (omega arith);
      attained = rw e (omega (arith, leb-false, r.attained));
      smallest = rw e smaller;
    }
  where
    smaller : (c : ℕ) → c < suc (more k (rooms ds)) → best (suc k) (rooms (d ∷ ds)) < 4 * c + room_at (d ∷ ds) c
    smaller zero h = omega (arith, leb-false)
    smaller (suc c) h = omega (arith, leb-false, r.smallest c (omega arith))

pub least-count : (ds : List Bool) (k : ℕ) → Least ds k
unfolding best rooms more
least-count [] zero = stops [] 0 refl refl
least-count [] (suc k) = stops [] (suc k) refl refl
least-count (d ∷ ds) zero = stops (d ∷ ds) 0 refl refl
least-count (d ∷ ds) (suc k) = further _ d ds k refl (least-count ds k)

-- The plan's count at a point i that differs.
module _ (ds : List Bool) (i : ℕ) (inside : i < length ds) (d : get_or ds i false ≡ true) where
  abbrev rest : List Bool
  rest = drop (suc i) ds

  abbrev from : ℕ → ℕ
  from k = best 0 (rooms (drop k ds))

  here : from i ≡ 10 + best 125 (rooms rest)
  unfolding best rooms
  here = rw (drop-cons ds i false inside, d)

  behind : (c : ℕ) → c ≤ length rest → from (i + suc c) ≡ room_at rest c
  behind c h =
      let e : i + suc c ≡ suc i + c = omega arith in
      rw (e, ← drop-drop c (suc i) ds) (sym (room-at rest c h))

  left : length rest + suc i ≡ length ds
  left = rw length-drop (omega arith)

  pub smallest-count : SmallestCount (length ds) from i (suc (more 125 (rooms rest)))
  smallest-count =
      record {
        some = omega arith;
        few = omega (arith, r.most);
        within = omega (arith, left, r.within);
        attained = omega (arith, here, r.attained, behind (more 125 (rooms rest)) r.within);
        lower = lower;
        smallest = smallest;
      }
    where
      r : Least rest 125
      r = least-count rest 125

      lower : (c : ℕ) → 1 ≤ c → c ≤ 126 → i + c ≤ length ds → from i ≤ 6 + 4 * c + from (i + c)
      lower zero h g l = absurd (omega arith)
      lower (suc c) h g l =
          let within : c ≤ length rest = omega (arith, left) in
          omega (arith, here, r.lower c (omega arith) within, behind c within)

      smallest : (c : ℕ) → 1 ≤ c → c < suc (more 125 (rooms rest)) → from i < 6 + 4 * c + from (i + c)
      smallest zero h g = absurd (omega arith)
      smallest (suc c) h g = omega (arith, here, r.smallest c (omega arith), behind c (omega (arith, r.within)))
