-- Data as its bytes one by one, its 16-bit numbers as a table's, and the test on a list that rises: the index of the first
-- number at fault is the list's length exactly if none is, and it is the first that is not above the one before it.
use Prim.Native.Nat.{ℕ, zero, suc, ◌+◌, ◌*◌, ◌≤◌, ◌<◌}
use mathlib.Core.Path.{◌≡◌, refl, sym, ap, ◌∙◌}
use mathlib.Core.List.{List, [], ◌∷◌, ◌++◌, append-nil}
use native.Mathlib.Decide.{dec_lt}
use native.Mathlib.Numerals.{add-one, add-two}
use native.Mathlib.Omega.{arith}
use lib.ListN.{length, take, drop, get_or, length-drop, drop_of_length-le}
use lib.Seq.{drop-cons, take_all}
use borrow.Author.Tests.{lt-ltb, le-ltb}
use Rattle.wire.specs.Numbers.{word_at}
use Rattle.wire.specs.Tables.{words}
use Rattle.gain_words.proofs.Places.{FirstWrong, wrong-none, wrong-here, wrong-past}
use Rattle.opcode.specs.Fields.{words_at, rise_from, rise}
use Rattle.opcode.specs.Allowed.{Rising, empty, single, next}

-- The n elements from a place on.
abbrev pub bytes_at : List ℕ → ℕ → ℕ → List ℕ
bytes_at d at zero = []
bytes_at d at (suc n) = get_or d at 0 ∷ bytes_at d (at + 1) n

bytes-from : (n : ℕ) (d : List ℕ) (at : ℕ) → at + n ≤ length d → drop at d ≡ bytes_at d at n ++ drop (at + n) d
bytes-from zero d at h = let e : at + 0 ≡ at = omega arith in rw e
bytes-from (suc n) d at h =
    let e : at + suc n ≡ at + 1 + n = omega arith in
    rw (drop-cons d at 0 (omega arith), e, ← add-one at, bytes-from n d (at + 1) (omega arith))

-- Data with n bytes at least, its first n shown.
pub headed : (d : List ℕ) (n : ℕ) → n ≤ length d → d ≡ bytes_at d 0 n ++ drop n d
headed d n h = let e : 0 + n ≡ n = omega arith in rw e at (bytes-from n d 0 (omega arith))

-- Data of n bytes, each shown.
pub exactly : (d : List ℕ) (n : ℕ) → length d ≡ n → d ≡ bytes_at d 0 n
exactly d n e = headed d n (omega arith) ∙ rw (drop_of_length-le d {i = n} (omega arith), append-nil)

-- The numbers from a place on are the words of that part.
pub words-part : (n : ℕ) (d : List ℕ) (at : ℕ) → at + 2 * n ≤ length d → words_at d at n ≡ words (take (2 * n) (drop at d))
unfolding words_at
words-part zero d at h = refl
words-part (suc n) d at h =
    let e : 2 * suc n ≡ suc (suc (2 * n)) = omega arith in
    rw (
      e,
      drop-cons d at 0 (omega arith),
      drop-cons d (suc at) 0 (omega arith),
      add-one at,
      add-two at,
      words-part n d (suc (suc at)) (omega arith),
    )

pub words-rest : (n : ℕ) (d : List ℕ) (at : ℕ) → length d ≡ at + 2 * n → words_at d at n ≡ words (drop at d)
words-rest n d at e =
    let short : length (drop at d) ≤ 2 * n = rw length-drop (omega arith) in
    words-part n d at (omega arith) ∙ rw take_all

pub length-words_at : (n : ℕ) (d : List ℕ) (at : ℕ) → length (words_at d at n) ≡ n
unfolding words_at
length-words_at zero d at = refl
length-words_at (suc n) d at = ap suc (length-words_at n d (at + 2))

-- Strictly rising.
from-rising : {last : ℕ} {ws : List ℕ} → Rising (last ∷ ws) → rise_from last ws ≡ length ws
unfolding rise_from
from-rising single = refl
from-rising {last} (next {w = w} h r) = rw (lt-ltb last w h) (ap suc (from-rising r))

rising-from : (last : ℕ) (ws : List ℕ) → length ws ≤ rise_from last ws → Rising (last ∷ ws)
unfolding rise_from
rising-from last [] h = single
rising-from last (w ∷ ws) h =
    elim (dec_lt last w) [
      | yes l ↦ next l (rising-from w ws (omega (arith, rw (lt-ltb last w l) at h)))
      | no l ↦ absurd (omega (arith, rw (le-ltb last w (omega arith)) at h))
    ]

pub rising-rise : {ws : List ℕ} → Rising ws → rise ws ≡ length ws
unfolding rise
rising-rise empty = refl
rising-rise single = refl
rising-rise (next {v = v} h r) = ap suc (from-rising {last = v} (next h r))

pub rise-rising : (ws : List ℕ) → length ws ≤ rise ws → Rising ws
unfolding rise
rise-rising [] h = empty
rise-rising (w ∷ ws) h = rising-from w ws (omega arith)

-- Numbers one behind the other: the i-th one's place, and that it is above the one before it, if it is not the first.
abbrev place_from : ℕ → ℕ → ℕ
place_from at zero = at
place_from at (suc i) = place_from (at + 2) i

place-from : (at i : ℕ) {p : ℕ} → p ≡ at + 2 * i → p ≡ place_from at i
place-from at zero e = omega arith
place-from at (suc i) e = place-from (at + 2) i (omega arith)

abbrev Above : List ℕ → ℕ → ℕ → Type 0
Above d at zero = Unit
Above d at (suc i) = word_at d (place_from at i) < word_at d (place_from (at + 2) i)

from_first : (n : ℕ) (d : List ℕ) (at : ℕ) → FirstWrong (λ i. Above d at (suc i)) n (rise_from (word_at d at) (words_at d (at + 2) n))
unfolding words_at rise_from
from_first zero d at = wrong-none
from_first (suc n) d at =
    elim (dec_lt (word_at d at) (word_at d (at + 2))) [
      | yes l ↦ rw (lt-ltb (word_at d at) (word_at d (at + 2)) l) (wrong-past l (from_first n d (at + 2)))
      | no l ↦ rw (le-ltb (word_at d at) (word_at d (at + 2)) (omega arith)) (wrong-here l)
    ]

module _ (n : ℕ) (d : List ℕ) (at : ℕ) where
  rise-first : FirstWrong (Above d at) (suc n) (rise (words_at d at (suc n)))
  unfolding words_at rise
  rise-first = wrong-past tt (from_first n d at)

  pub rises : (i : ℕ) {p q : ℕ} → p ≡ at + 2 * i → q ≡ at + 2 * (i + 1) → i + 1 < rise (words_at d at (suc n)) → word_at d p < word_at d q
  rises i e f h = rw (place-from at i e, place-from (at + 2) i (f ∙ omega arith)) (rise-first.before (suc i) (omega arith))

  pub stops : rise (words_at d at (suc n)) < suc n
      → (i : ℕ) × (rise (words_at d at (suc n)) ≡ i + 1) × (word_at d (at + 2 * (i + 1)) ≤ word_at d (at + 2 * i))
  stops h = go (rise (words_at d at (suc n))) refl (rise-first.here h)
    where
      go : (r : ℕ) → rise (words_at d at (suc n)) ≡ r → ¬ Above d at r
          → (i : ℕ) × (rise (words_at d at (suc n)) ≡ i + 1) × (word_at d (at + 2 * (i + 1)) ≤ word_at d (at + 2 * i))
      go zero e w = absurd (w tt)
      go (suc i) e w =
          (i, e ∙ sym (add-one i), rw (place-from at i {p = at + 2 * i} refl, place-from (at + 2) i {p = at + 2 * (i + 1)} (omega arith)) (omega arith))
