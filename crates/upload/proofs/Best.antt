-- Laws of the least bytes. `best k (rooms ds)` is what the points ds cost where the open packet may still take k points, so each law
-- goes by recursion on the points.
use Prim.Native.Nat.{ℕ, zero, suc, ◌+◌, ◌*◌, ◌≤◌}
use mathlib.Core.Path.{◌≡◌, refl}
use mathlib.Core.Bool.{Bool, true, false}
use mathlib.Core.List.{List, [], ◌∷◌, ◌++◌}
use native.Mathlib.Omega.{arith}
use lib.ListN.{length}
use Rattle.upload.specs.Cost.{best, rooms}

-- More points to take never cost more.
pub best-falls : (k m : ℕ) (r : List ℕ) → k ≤ m → best m r ≤ best k r
unfolding best
best-falls k m [] h = omega arith
best-falls zero zero (x ∷ r) h = omega arith
best-falls zero (suc m) (x ∷ r) h = omega arith
best-falls (suc k) zero (x ∷ r) h = absurd (omega arith)
best-falls (suc k) (suc m) (x ∷ r) h = omega (arith, best-falls k m r (omega arith))

pub best-end : (k : ℕ) → best k (rooms []) ≡ 0
unfolding best rooms
best-end zero = refl
best-end (suc k) = omega arith

-- An open packet is worth at most the 6 bytes that it takes to open one.
pub best-opens : (k : ℕ) (ds : List Bool) → k ≤ 126 → best 0 (rooms ds) ≤ 6 + best k (rooms ds)
unfolding best rooms
best-opens k [] h = omega arith
best-opens zero (d ∷ ds) h = omega arith
best-opens (suc k) (false ∷ ds) h = omega (arith, best-opens k ds (omega arith))
best-opens (suc k) (true ∷ ds) h = omega (arith, best-falls k 125 (rooms ds) (omega arith))

-- One point more never costs less.
pub best-grows : (d : Bool) (ds : List Bool) → best 0 (rooms ds) ≤ best 0 (rooms (d ∷ ds))
unfolding best rooms
best-grows false ds = omega arith
best-grows true ds = omega (arith, best-opens 125 ds (omega arith))

-- An open packet covers points b, whichever of them differ, at 4 bytes each. So they cost at most that much more than any others b' in
-- their place.
pub cover : (b b' c : List Bool) (k m : ℕ) → length b ≡ length b' → length b ≤ m → k ≤ m
    → best m (rooms (b ++ c)) ≤ 4 * length b + best k (rooms (b' ++ c))
unfolding best rooms
cover [] [] c k m e h l = omega (arith, best-falls k m (rooms c) l)
cover [] (d' ∷ b') c k m e h l = absurd (omega arith)
cover (d ∷ b) [] c k m e h l = absurd (omega arith)
cover (d ∷ b) (d' ∷ b') c k zero e h l = absurd (omega arith)
cover (d ∷ b) (d' ∷ b') c zero (suc m) e h l =
    omega (arith, cover b b' c 0 m (omega arith) (omega arith) (omega arith), best-grows d' (b' ++ c))
cover (d ∷ b) (d' ∷ b') c (suc k) (suc m) e h l =
    omega (
      arith,
      cover b b' c 0 m (omega arith) (omega arith) (omega arith),
      cover b b' c k m (omega arith) (omega arith) (omega arith),
      best-grows d' (b' ++ c),
    )

-- One packet of up to 126 points turns b' into b anywhere.
pub one-packet : (a b b' c : List Bool) (k : ℕ) → length b ≡ length b' → length b ≤ 126 → k ≤ 126
    → best k (rooms (a ++ (b ++ c))) ≤ 6 + 4 * length b + best k (rooms (a ++ (b' ++ c)))
unfolding best rooms
one-packet [] b b' c k e h l =
    omega (arith, best-falls 0 k (rooms (b ++ c)) (omega arith), best-opens 126 (b ++ c) (omega arith), cover b b' c k 126 e h l)
one-packet (false ∷ a) b b' c zero e h l = omega (arith, one-packet a b b' c 0 e h l)
one-packet (true ∷ a) b b' c zero e h l = omega (arith, one-packet a b b' c 125 e h (omega arith))
one-packet (false ∷ a) b b' c (suc k) e h l =
    omega (arith, one-packet a b b' c 0 e h (omega arith), one-packet a b b' c k e h (omega arith))
one-packet (true ∷ a) b b' c (suc k) e h l =
    omega (arith, one-packet a b b' c 125 e h (omega arith), one-packet a b b' c k e h (omega arith))

-- Rule 6.2, the bound on bytes: with q packets to open.
pub best-bound : (k q : ℕ) (ds : List Bool) → length ds ≤ k + 126 * q → best k (rooms ds) ≤ 4 * length ds + 6 * q
unfolding best rooms
best-bound k q [] h = omega (arith, best-end k)
best-bound (suc k) q (d ∷ ds) h = omega (arith, best-bound k q ds (omega arith))
best-bound zero zero (d ∷ ds) h = absurd (omega arith)
best-bound zero (suc q) (false ∷ ds) h = omega (arith, best-bound 0 (suc q) ds (omega arith))
best-bound zero (suc q) (true ∷ ds) h = omega (arith, best-bound 125 q ds (omega arith))
