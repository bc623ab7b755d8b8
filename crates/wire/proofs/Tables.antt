-- Tables of numbers and the digits that hold them, over every base: there and back, lengths, parts, copies, elements and bounds.
-- Each law goes by recursion on the list, a number or two digits at a time.
use Prim.Native.Nat.{ℕ, zero, suc, ◌+◌, ◌*◌, ◌/◌, ◌%◌, ◌<◌}
use mathlib.Core.Path.{◌≡◌, refl, sym}
use mathlib.Core.List.{List, [], ◌∷◌, ◌++◌}
use native.Mathlib.Nat.{zero-add, mul-pos, mod-add-div, mod-lt, mod-eq_of_lt, div-eq_of_lt, add-mul-mod_self_left, add-mul-div_left, div-lt_iff_lt-mul, mul-le-mul_left}
use native.Mathlib.Omega.{arith}
use lib.ListN.{length, take, drop, get_or, set, length-drop}
use lib.Seq.{take-nil, drop-nil, get_or-drop, sets, paste}
use Rattle.wire.specs.Numbers.{word_at, long_at}
use Rattle.wire.specs.Buffers.{over}
use Rattle.wire.specs.Tables.{pairs, halves, words, longs, long_bytes}
pub use Rattle.wire.specs.ElementsHeld.{length_pairs, pairs-take, pairs-drop}

double : (n : ℕ) → 2 * suc n ≡ suc (suc (2 * n))
double n = omega arith

-- There and back.
pub pairs-halves : (b : ℕ) (l : List ℕ) → pairs b (halves b l) ≡ l
pairs-halves b [] = refl
pairs-halves b (n ∷ r) = rw (mod-add-div n b, pairs-halves b r)

pub halves_pairs : (b : ℕ) (l : List ℕ) → length l % 2 ≡ 0 → ((k : ℕ) → get_or l k 0 < b) → halves b (pairs b l) ≡ l
halves_pairs b [] e h = refl
halves_pairs b (x ∷ []) e h = absurd (omega arith)
halves_pairs b (x ∷ y ∷ r) e h =
    let low : x < b = h 0 in
    let pos : 0 < b = omega arith in
    rw (
      add-mul-mod_self_left x b y,
      add-mul-div_left x y pos,
      mod-eq_of_lt low,
      div-eq_of_lt low,
      zero-add,
      halves_pairs b r (omega arith) (λ k. h (suc (suc k))),
    )

-- Lengths.
pub length-halves : (b : ℕ) (l : List ℕ) → length (halves b l) ≡ 2 * length l
length-halves b [] = refl
length-halves b (n ∷ r) = omega (arith, length-halves b r)

-- Parts.
pub pairs-append : (b : ℕ) (s t : List ℕ) → length s % 2 ≡ 0 → pairs b (s ++ t) ≡ pairs b s ++ pairs b t
pairs-append b [] t e = refl
pairs-append b (x ∷ []) t e = absurd (omega arith)
pairs-append b (x ∷ y ∷ s) t e = rw (pairs-append b s t (omega arith))

pub halves-append : (b : ℕ) (l m : List ℕ) → halves b (l ++ m) ≡ halves b l ++ halves b m
halves-append b [] m = refl
halves-append b (n ∷ l) m = rw (halves-append b l m)

pub halves-take : (b n : ℕ) (l : List ℕ) → halves b (take n l) ≡ take (2 * n) (halves b l)
halves-take b zero l = refl
halves-take b (suc n) [] = sym (take-nil (2 * suc n))
halves-take b (suc n) (x ∷ l) = rw (double n, halves-take b n l)

pub halves-drop : (b n : ℕ) (l : List ℕ) → halves b (drop n l) ≡ drop (2 * n) (halves b l)
halves-drop b zero l = refl
halves-drop b (suc n) [] = sym (drop-nil (2 * suc n))
halves-drop b (suc n) (x ∷ l) = rw (double n, halves-drop b n l)

-- Numbers written over a list's start are their digits written over the list's digits.
pub halves-over : (b : ℕ) (s l : List ℕ) → halves b (over s l) ≡ over (halves b s) (halves b l)
unfolding over
halves-over b s l = rw (halves-append b s (drop (length s) l), halves-drop b (length s) l, length-halves b s)

pub pairs-over : (b : ℕ) (s l : List ℕ) → pairs b (over (halves b s) l) ≡ over s (pairs b l)
unfolding over
pairs-over b s l =
    rw (
      pairs-append b (halves b s) (drop (length (halves b s)) l) (omega (arith, length-halves b s)),
      pairs-halves b s,
      length-halves b s,
      pairs-drop b (length s) l,
    )

-- Copies and stores.
pub halves-paste : (b : ℕ) (d : List ℕ) (at : ℕ) (s : List ℕ) (n : ℕ) → halves b (paste d at s n) ≡ paste (halves b d) (2 * at) (halves b s) (2 * n)
halves-paste b d at s n =
    let e : 2 * at + 2 * n ≡ 2 * (at + n) = omega arith in
    simp (halves-append, halves-take, halves-drop, e)

pub halves_set : (b : ℕ) (l : List ℕ) (i n : ℕ) → halves b (set l i n) ≡ sets (halves b l) (2 * i) (n % b ∷ n / b ∷ [])
halves_set b [] i n = refl
halves_set b (x ∷ l) zero n = refl
halves_set b (x ∷ l) (suc i) n = rw (double i, halves_set b l i n)

pub pairs_set : (b : ℕ) (s : List ℕ) (i n : ℕ) → pairs b (sets s (2 * i) (n % b ∷ n / b ∷ [])) ≡ set (pairs b s) i n
pairs_set b [] i n = refl
pairs_set b (x ∷ []) zero n = refl
pairs_set b (x ∷ []) (suc i) n = rw (double i)
pairs_set b (x ∷ y ∷ s) zero n = rw (mod-add-div n b)
pairs_set b (x ∷ y ∷ s) (suc i) n = rw (double i, pairs_set b s i n)

-- Elements.
pub pair-at : (b : ℕ) (s : List ℕ) (i : ℕ) → 2 * i + 1 < length s → get_or s (2 * i) 0 + b * get_or s (2 * i + 1) 0 ≡ get_or (pairs b s) i 0
pair-at b [] i h = absurd (omega arith)
pair-at b (x ∷ []) i h = absurd (omega arith)
pair-at b (x ∷ y ∷ s) zero h = refl
pair-at b (x ∷ y ∷ s) (suc i) h =
    let e : 2 * suc i + 1 ≡ suc (suc (2 * i + 1)) = omega arith in
    rw (e, double i) (pair-at b s i (omega arith))

pub word-at : (s : List ℕ) (i : ℕ) → 2 * i + 1 < length s → word_at s (2 * i) ≡ get_or (words s) i 0
word-at s i h = pair-at 256 s i h

-- A number from a place on is made of the two bytes there.
pub number_at : (s : List ℕ) (from i : ℕ) → from + 2 * i + 1 < length s → word_at s (from + 2 * i) ≡ get_or (words (drop from s)) i 0
number_at s from i h =
    let e : from + 2 * i + 1 ≡ from + (2 * i + 1) = omega arith in
    rw e (simp get_or-drop at (word-at (drop from s) i (rw length-drop (omega arith))))

pub long-at : (s : List ℕ) (i : ℕ) → 4 * i + 3 < length s → long_at s (4 * i) ≡ get_or (longs s) i 0
long-at s i h =
    let low : 4 * i ≡ 2 * (2 * i) = omega arith in
    let high : 2 * (2 * i) + 2 ≡ 2 * (2 * i + 1) = omega arith in
    rw (low, high, word-at s (2 * i) (omega arith), word-at s (2 * i + 1) (omega arith))
    (pair-at 65536 (words s) i (rw length_pairs (omega arith)))

-- Bounds.
pub pairs_below : (b : ℕ) (s : List ℕ) → ((k : ℕ) → get_or s k 0 < b) → (k : ℕ) → get_or (pairs b s) k 0 < b * b
pairs_below b [] h k = mul-pos (h 0) (h 0)
pairs_below b (x ∷ []) h k = mul-pos (h 1) (h 1)
pairs_below b (x ∷ y ∷ s) h zero = omega (arith, h 0, mul-le-mul_left b (h 1))
pairs_below b (x ∷ y ∷ s) h (suc k) = pairs_below b s (λ j. h (suc (suc j))) k

base-pos : (b : ℕ) {n : ℕ} → n < b * b → 0 < b
base-pos zero h = absurd (omega arith)
base-pos (suc b) h = omega arith

pub halves-below : (b : ℕ) (l : List ℕ) → ((k : ℕ) → get_or l k 0 < b * b) → (k : ℕ) → get_or (halves b l) k 0 < b
halves-below b [] h k = base-pos b (h 0)
halves-below b (n ∷ l) h zero = mod-lt n (base-pos b (h 0))
halves-below b (n ∷ l) h (suc zero) = (div-lt_iff_lt-mul (base-pos b (h 0))).1 (h 0)
halves-below b (n ∷ l) h (suc (suc k)) = halves-below b l (λ j. h (suc j)) k

-- 32-bit numbers: two steps of the same.
pub bytes-longs : (s : List ℕ) → length s % 4 ≡ 0 → ((k : ℕ) → get_or s k 0 < 256) → long_bytes (longs s) ≡ s
bytes-longs s e h =
    rw (
      halves_pairs 65536 (words s) (rw length_pairs (omega arith)) (pairs_below 256 s h),
      halves_pairs 256 s (omega arith) h,
    )
