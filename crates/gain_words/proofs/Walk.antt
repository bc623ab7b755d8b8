-- What the loops keep: gains are passed one at a time, pairs two words at a time. ws are all words, i is how many are passed.
use Prim.Native.Nat.{ℕ, suc, ◌+◌, ◌*◌, ◌≤◌, ◌<◌}
use mathlib.Core.Path.{◌≡◌, refl, ◌∙◌}
use mathlib.Core.Bool.{true, false}
use mathlib.Core.List.{List, [], ◌∷◌}
use native.Mathlib.Numerals.{add-one, add-two}
use native.Mathlib.Omega.{arith}
use borrow.Author.Tests.{le-leb, lt-leb}
use lib.ListN.{length, get_or, drop, length-drop, drop_of_length-le}
use lib.Seq.{drop-cons}
use Rattle.wire.specs.Numbers.{byte_at, word_at}
use Rattle.wire.specs.Tables.{words}
use Rattle.wire.proofs.Tables.{length_pairs, number_at}
use Rattle.gain_words.specs.Gains.{first_large}
use Rattle.gain_words.specs.Pairs.{sum_runs, pair_fault, run_wrong}

-- What a list of one word, or of none, gives.
alone-fault : (ws : List ℕ) → length ws ≤ 1 → pair_fault ws ≡ 0
unfolding pair_fault
alone-fault [] h = refl
alone-fault (w ∷ []) h = refl
alone-fault (w ∷ v ∷ ws) h = absurd (omega arith)

alone-sum : (ws : List ℕ) → length ws ≤ 1 → sum_runs ws ≡ 0
unfolding sum_runs
alone-sum [] h = refl
alone-sum (w ∷ []) h = refl
alone-sum (w ∷ v ∷ ws) h = absurd (omega arith)

module _ (ws : List ℕ) (i : ℕ) where
  pub large-turn : i < length ws → get_or ws i 0 ≤ 8191 → first_large (drop i ws) ≡ suc (first_large (drop (i + 1) ws))
  unfolding first_large
  large-turn h w = rw (drop-cons ws i 0 h, le-leb _ _ w, add-one i)

  pub large-stop : i < length ws → 8191 < get_or ws i 0 → first_large (drop i ws) ≡ 0
  unfolding first_large
  large-stop h w = rw (drop-cons ws i 0 h, lt-leb _ _ w)

  pub large-done : length ws ≤ i → first_large (drop i ws) ≡ 0
  unfolding first_large
  large-done h = rw (drop_of_length-le ws {i = i} h)

  -- A pair, and the words behind it.
  module _ (h : i + 1 < length ws) where
    pub pair_turn : drop i ws ≡ get_or ws i 0 ∷ get_or ws (i + 1) 0 ∷ drop (i + 2) ws
    pair_turn = rw (drop-cons ws i 0 (omega arith), drop-cons ws (suc i) 0 (omega arith), add-one i, add-two i)

    -- Its run and its gain, as the code has them.
    module _ {run gain : ℕ} (r : run ≡ get_or ws i 0) (g : gain ≡ get_or ws (i + 1) 0) where
      pub fault-gain : run_wrong run ≡ false → 8191 < gain → pair_fault (drop i ws) ≡ 1
      unfolding pair_fault
      fault-gain e w = rw (pair_turn, ← r, ← g, e, lt-leb _ _ w)

      pub fault-turn : run_wrong run ≡ false → gain ≤ 8191 → pair_fault (drop i ws) ≡ suc (suc (pair_fault (drop (i + 2) ws)))
      unfolding pair_fault
      fault-turn e w = rw (pair_turn, ← r, ← g, e, le-leb _ _ w)

    pub fault-run : {run : ℕ} → run ≡ get_or ws i 0 → run_wrong run ≡ true → pair_fault (drop i ws) ≡ 0
    unfolding pair_fault
    fault-run r e = rw (pair_turn, ← r, e)

    pub sum-turn : sum_runs (drop i ws) ≡ get_or ws i 0 + sum_runs (drop (i + 2) ws)
    unfolding sum_runs
    sum-turn = rw pair_turn

  -- The end: no pair is left.
  module _ (h : length ws ≤ i + 1) where
    pub fault-done : pair_fault (drop i ws) ≡ 0
    fault-done = alone-fault (drop i ws) (rw length-drop (omega arith))

    pub sum_done : sum_runs (drop i ws) ≡ 0
    sum_done = alone-sum (drop i ws) (rw length-drop (omega arith))

-- Where the next pair begins.
pub next-pair : (k : ℕ) → 2 * (k + 1) ≡ 2 * k + 2
next-pair k = omega arith

-- Words as bytes from a place on: so many of them at least.
pub words_count : (s : List ℕ) (at n : ℕ) → at + 2 * n ≤ length s → n ≤ length (words (drop at s))
words_count s at n h = rw (length_pairs, length-drop) (omega arith)

-- And so many at most.
pub words-few : (s : List ℕ) (at n : ℕ) → length s ≤ at + 2 * n + 1 → length (words (drop at s)) ≤ n
words-few s at n h = rw (length_pairs, length-drop) (omega arith)

-- A gain among words as bytes from a place on.
pub word_in : (s : List ℕ) (at i : ℕ) → at + 2 * i + 1 < length s
    → (i < length (words (drop at s))) × (word_at s (at + 2 * i) ≡ get_or (words (drop at s)) i 0)
word_in s at i h = (omega (arith, words_count s at (i + 1) (omega arith)), number_at s at i h)

-- A pair there, the i-th word and the next.
pub record PairAt (s : List ℕ) (at i run gain : ℕ) : Type 0 where
  pub within : i + 1 < length (words (drop at s))
  pub run_at : run ≡ get_or (words (drop at s)) i 0
  pub gain-at : gain ≡ get_or (words (drop at s)) (i + 1) 0

-- It is so of what the four bytes there give.
pub pair-at : (s : List ℕ) (at i : ℕ) {run gain : ℕ} → at + 2 * i + 3 < length s
    → run ≡ word_at s (at + 2 * i)
    → gain ≡ byte_at s (at + 2 * i + 2) + 256 * byte_at s (at + 2 * i + 3) → PairAt s at i run gain
pair-at s at i h r g =
    let low : at + 2 * i + 2 ≡ at + 2 * (i + 1) = omega arith in
    let high : at + 2 * i + 3 ≡ at + 2 * (i + 1) + 1 = omega arith in
    record {
      within = omega (arith, words_count s at (i + 2) (omega arith));
      run_at = r ∙ number_at s at i (omega arith);
      gain-at = rw (low, high) at g ∙ number_at s at (i + 1) (omega arith);
    }
