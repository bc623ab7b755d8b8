-- A point as one number of 32 bits: it is the same exactly if x and y are.
use Prim.Native.Nat.{ℕ, zero, suc, ◌+◌, ◌*◌, ◌<◌}
use mathlib.Core.Path.{◌≡◌, sym, ◌∙◌}
use native.Mathlib.Omega.{arith}
use mathlib.Core.List.{List}
use lib.ListN.{length, get_or}
use Rattle.wire.specs.Numbers.{long_at}
use Rattle.wire.specs.Tables.{words}
use Rattle.wire.proofs.Tables.{word-at, pairs_below}
use Rattle.row_mark.proofs.Walk.{PointSame}

-- Points of two maps that lie as bytes.
module _ (a b : List ℕ) (k : ℕ) (la : 4 * k + 3 < length a) (lb : 4 * k + 3 < length b) where
  point_at : (s : List ℕ) → 4 * k + 3 < length s → long_at s (4 * k) ≡ get_or (words s) (2 * k) 0 + 65536 * get_or (words s) (2 * k + 1) 0
  point_at s l =
      let low : 4 * k ≡ 2 * (2 * k) = omega arith in
      let high : 2 * (2 * k) + 2 ≡ 2 * (2 * k + 1) = omega arith in
      rw (low, high, word-at s (2 * k) (omega arith), word-at s (2 * k + 1) (omega arith))

  pub long_same : get_or (words a) (2 * k) 0 ≡ get_or (words b) (2 * k) 0 → get_or (words a) (2 * k + 1) 0 ≡ get_or (words b) (2 * k + 1) 0
      → long_at a (4 * k) ≡ long_at b (4 * k)
  long_same x y = point_at a la ∙ rw (x, y) (sym (point_at b lb))

  pub other-point : (long_at a (4 * k) ≡ long_at b (4 * k) → ⊥)
      → get_or (words a) (2 * k) 0 ≡ get_or (words b) (2 * k) 0 → get_or (words a) (2 * k + 1) 0 ≡ get_or (words b) (2 * k + 1) 0 → ⊥
  other-point other x y = other (long_same x y)

  pub same_point : ((i : ℕ) → get_or a i 0 < 256) → ((i : ℕ) → get_or b i 0 < 256) → long_at a (4 * k) ≡ long_at b (4 * k)
      → (get_or (words a) (2 * k) 0 ≡ get_or (words b) (2 * k) 0) × (get_or (words a) (2 * k + 1) 0 ≡ get_or (words b) (2 * k + 1) 0)
  same_point sa sb same =
      let e = sym (point_at a la) ∙ same ∙ point_at b lb in
      let ax = pairs_below 256 a sa (2 * k) in
      let bx = pairs_below 256 b sb (2 * k) in
      (omega arith, omega arith)

-- ---- Four points, as two numbers of 64 bits.

abbrev pub two_longs : List ℕ → ℕ → ℕ
two_longs s at = long_at s at + 4294967296 * long_at s (at + 4)

long-small : (s : List ℕ) → ((i : ℕ) → get_or s i 0 < 256) → (at : ℕ) → long_at s at < 4294967296
long-small s h at = omega (arith, h at, h (at + 1), h (at + 2), h (at + 2 + 1))

module _ (a b : List ℕ) (k : ℕ) (la : 4 * k + 15 < length a) (lb : 4 * k + 15 < length b) where
  -- Where each of them stands.
  second : 4 * (k + 1) ≡ 4 * k + 4
  second = omega arith

  third : 4 * (k + 2) ≡ 4 * k + 8
  third = omega arith

  fourth : 4 * (k + 3) ≡ 4 * k + 8 + 4
  fourth = omega arith

  pub four_same : ((i : ℕ) → get_or a i 0 < 256) → ((i : ℕ) → get_or b i 0 < 256) → two_longs a (4 * k) ≡ two_longs b (4 * k)
      → two_longs a (4 * k + 8) ≡ two_longs b (4 * k + 8) → (t : ℕ) → t < 4 → PointSame (words a) (words b) (k + t)
  four_same sa sb e f t l = same_point a b (k + t) (omega arith) (omega arith) sa sb (at t l)
    where
      low_same : (i : ℕ) → two_longs a i ≡ two_longs b i → (long_at a i ≡ long_at b i) × (long_at a (i + 4) ≡ long_at b (i + 4))
      low_same i g = (omega (arith, long-small a sa i, long-small b sb i), omega (arith, long-small a sa i, long-small b sb i))

      at : (t : ℕ) → t < 4 → long_at a (4 * (k + t)) ≡ long_at b (4 * (k + t))
      at zero l = let z : k + 0 ≡ k = omega arith in rw z (low_same (4 * k) e).0
      at (suc zero) l = rw second (low_same (4 * k) e).1
      at (suc (suc zero)) l = rw third (low_same (4 * k + 8) f).0
      at (suc (suc (suc zero))) l = rw fourth (low_same (4 * k + 8) f).1
      at (suc (suc (suc (suc t)))) l = absurd (omega arith)

  pub four-other : (two_longs a (4 * k) ≡ two_longs b (4 * k) → two_longs a (4 * k + 8) ≡ two_longs b (4 * k + 8) → ⊥)
      → ((t : ℕ) → t < 4 → PointSame (words a) (words b) (k + t)) → ⊥
  four-other other same =
      let long : (t : ℕ) → t < 4 → long_at a (4 * (k + t)) ≡ long_at b (4 * (k + t)) =
      λ t l. long_same a b (k + t) (omega arith) (omega arith) (same t l).0 (same t l).1 in
      let z : k + 0 ≡ k = omega arith in
      let one = rw z at (long 0 (omega arith)) in
      let two = rw second at (long 1 (omega arith)) in
      let three = rw third at (long 2 (omega arith)) in
      let four = rw fourth at (long 3 (omega arith)) in
      other (rw (one, two)) (rw (three, four))
