-- Writes whose size varies and which can have a value at fault, 38h, 2Bh and 35h: before the fault, and at it.
use Prim.Native.Nat.{ℕ, suc, ◌+◌, ◌-◌, ◌*◌, ◌/◌, ◌%◌, ◌≤◌, ◌<◌, min}
use mathlib.Core.Path.{◌≡◌, refl}
use mathlib.Core.Bool.{Bool, true, false, cond, ◌&&◌}
use mathlib.Core.List.{List, [], ◌∷◌}
use native.Mathlib.Decide.{dec_lt, ℕ_discrete}
use native.Mathlib.Omega.{arith}
use lib.ListN.{length, drop, get_or}
use lib.Dec.{eqb}
use borrow.Author.Tests.{lt-ltb, le-ltb, ne_eqb, eqb-false}
use Rattle.wire.specs.Numbers.{byte_at, word_at}
use Rattle.wire.specs.Tables.{words}
use Rattle.gain_words.specs.Gains.{first_large}
use Rattle.gain_words.specs.Pairs.{pair_fault}
use Rattle.opcode.specs.Options.{is_read}
use Rattle.opcode.specs.Fields.{word, fault, words_at, rise}
use Rattle.opcode.specs.Commands.{command_of, flag}
use Rattle.opcode.specs.Judgement.{in_pairs, gains_size_wrong, control_size_wrong, smooth_size_wrong, words_fault, gains_fault, lists_fault, control_fault, smooth_fault}
use Rattle.opcode.specs.Faults.{WriteField, FieldOf}
use Rattle.wire.proofs.Tests.{told}
use Rattle.wire.proofs.Tables.{number_at}
use Rattle.gain_words.proofs.Places.{FirstWrong, Ranged, gain_range, pair_range, run-range, gain-range, gains-first, pairs_first}
use Rattle.opcode.proofs.Accepts.Fields.{All, fault-here}
use Rattle.opcode.proofs.Accepts.Lists.{rises, stops}
use Rattle.opcode.proofs.Accepts.Varying.{words_long}
use Rattle.opcode.proofs.Faults.Fields.{up_to, reached, IfWrong, stopped, behind-head, stopped-head, FaultAt, fault-of}

-- 38h.
module _ (d : List ℕ) (size : smooth_size_wrong d ≡ false) where
  pub smooth-long : 2 ≤ length d
  unfolding smooth_size_wrong
  smooth-long = search told

  pub smooth-before : (j : ℕ) → min (suc j) (length d) ≤ smooth_fault d → All (up_to j (command_of 0x38).sets) d 0
  unfolding command_of smooth_fault
  smooth-before j m =
      reached (command_of 0x38).sets (omega arith) d 0 j
      (omega (arith, smooth-long, (behind-head (fault (command_of 0x38).sets d 0) 2 (length d) (min (suc j) (length d)) m).0))

  pub smooth-at : (o : ℕ) → IfWrong (FaultAt 0x38 o d) (command_of 0x38).sets d 0 → smooth_fault d < length d → FaultAt 0x38 o d (smooth_fault d)
  unfolding command_of smooth_fault
  smooth-at o p h =
      stopped-head (FaultAt 0x38 o d) (command_of 0x38).sets d 2 (length d) (length d) refl p (λ l k. absurd (omega arith)) h

-- 2Bh: four fields, then words. The range of a word is that of its index.
abbrev pub range_in : List ℕ → ℕ → ℕ × ℕ
range_in d i = cond (in_pairs d) (pair_range i) (gain_range i)

module _ (d : List ℕ) (size : gains_size_wrong d ≡ false) where
  pub gains-long : (6 ≤ length d) × (length d ≡ 6 + 2 * word_at d 2)
  unfolding gains_size_wrong
  gains-long = (search told, search told)

  pub even : in_pairs d ≡ true → length (words (drop 6 d)) % 2 ≡ 0
  unfolding gains_size_wrong
  even t =
      let odd : (in_pairs d && eqb (word_at d 2 % 2) 1) ≡ false = search told in
      omega (arith, words_long d gains-long.1, eqb-false (word_at d 2 % 2) 1 (rw t at odd))

  -- Which words are right depends on the flag.
  words-first : FirstWrong (Ranged (range_in d) (words (drop 6 d))) (length (words (drop 6 d))) (words_fault d)
  unfolding words_fault
  words-first = go (in_pairs d) even
    where
      ws : List ℕ
      ws = words (drop 6 d)

      go : (t : Bool) → (t ≡ true → length ws % 2 ≡ 0)
          → FirstWrong (Ranged (λ i. cond t (pair_range i) (gain_range i)) ws) (length ws) (cond t (pair_fault ws) (first_large ws))
      go true e = pairs_first ws (e refl)
      go false e = gains-first ws

  pub gains-before : (j : ℕ) → min (suc j) (length d) ≤ gains_fault d → All (up_to j (command_of 0x2B).sets) d 0
  unfolding command_of gains_fault
  gains-before j m =
      reached (command_of 0x2B).sets (omega arith) d 0 j
      (omega (arith, gains-long, (behind-head (fault (command_of 0x2B).sets d 0) 6 (6 + 2 * words_fault d) (min (suc j) (length d)) m).0))

  -- A word at a place, by its index.
  module _ (p i : ℕ) (e : p ≡ 6 + 2 * i) (h : p < length d) where
    word_of : word_at d p ≡ get_or (words (drop 6 d)) i 0
    word_of = rw e (number_at d 6 i (omega (arith, gains-long)))

    pub word-before : min (suc p) (length d) ≤ gains_fault d → ((range_in d i).0 ≤ word_at d p) × (word_at d p ≤ (range_in d i).1)
    unfolding gains_fault
    word-before m =
        let behind = (behind-head (fault (command_of 0x2B).sets d 0) 6 (6 + 2 * words_fault d) (min (suc p) (length d)) m).1 (omega arith) in
        rw word_of (words-first.before i (omega arith))

    word-here : i ≡ words_fault d → ¬ (((range_in d i).0 ≤ word_at d p) × (word_at d p ≤ (range_in d i).1))
    word-here f = rw (word_of, f) (words-first.here (omega (arith, words_long d gains-long.1, gains-long)))

  module _ (o : ℕ) (r : is_read o ≡ 0) where
    words-at : byte_at d 0 ≤ 1 → (i : ℕ) → i ≡ words_fault d → 6 + 2 * i < length d → FaultAt 0x2B o d (6 + 2 * i)
    words-at s i f h =
        let k = i / 2 in
        elim (ℕ_discrete (byte_at d 0) 1) [
          | no n ↦
              let z : byte_at d 0 ≡ 0 = omega arith in
              fault-of (FieldOf.sets r (WriteField.gain i z h)) (rw z at (word-here (6 + 2 * i) i refl h f))
          | yes one ↦
              elim (ℕ_discrete (i % 2) 0) [
                | yes q ↦
                    let place : 6 + 2 * i ≡ 6 + 4 * k = omega arith in
                    rw place (fault-of (FieldOf.sets r (WriteField.run k one (omega arith)))
                    (rw (one, run-range k) at (word-here (6 + 4 * k) (2 * k) (omega arith) (omega arith) (omega arith))))
                | no q ↦
                    let place : 6 + 2 * i ≡ 8 + 4 * k = omega arith in
                    rw place (fault-of (FieldOf.sets r (WriteField.run-gain k one (omega arith)))
                    (rw (one, gain-range k) at (word-here (8 + 4 * k) (2 * k + 1) (omega arith) (omega arith) (omega arith))))
              ]
        ]

    pub gains-at : IfWrong (FaultAt 0x2B o d) (command_of 0x2B).sets d 0 → gains_fault d < length d → FaultAt 0x2B o d (gains_fault d)
    unfolding command_of gains_fault
    gains-at p h =
        stopped-head (FaultAt 0x2B o d) (command_of 0x2B).sets d 6 (6 + 2 * words_fault d) (length d) refl p
        (λ l k. words-at (omega (arith, reached (command_of 0x2B).sets (omega arith) d 0 0 (omega arith))) (words_fault d) refl k) h

-- 35h: the mode; then columns and rows, or lists.
module _ (d : List ℕ) (size : control_size_wrong d ≡ false) where
  pub some : 0 < length d
  unfolding control_size_wrong
  some = let s : eqb (length d) 0 ≡ false = search told in omega (arith, eqb-false (length d) 0 s)

  pub shape-long : byte_at d 0 ≡ 0 → length d ≡ 5
  unfolding control_size_wrong
  shape-long z = let s = rw z at size in search told

  pub lists-long : byte_at d 0 ≡ 1 → length d ≡ 189
  unfolding control_size_wrong
  lists-long one = let s = rw one at size in search told

  -- A mode above 1 has no size of its own, and is the fault.
  pub mode-before : min 1 (length d) ≤ control_fault d → byte_at d 0 ≤ 1
  unfolding command_of control_fault
  mode-before m =
      elim (ℕ_discrete (byte_at d 0) 1) [
        | yes one ↦ omega arith
        | no n ↦
            let behind = rw (ne_eqb (byte_at d 0) 1 n) at m in
            omega (arith, reached (command_of 0x35).sets (omega arith) d 0 0 (omega (arith, some)))
      ]

  pub shape-before : (j : ℕ) → byte_at d 0 ≡ 0 → min (suc j) (length d) ≤ control_fault d → All (up_to j (command_of 0x35).sets) d 0
  unfolding command_of control_fault
  shape-before j z m = let behind = rw z at m in reached (command_of 0x35).sets (omega arith) d 0 j (omega (arith, shape-long z))

  -- In mode 1 the place found lies behind a number of a list only if that list rises so far.
  lists-before : byte_at d 0 ≡ 1 → (j : ℕ) → min (suc j) (length d) ≤ control_fault d
      → (min (suc j) 125 ≤ 1 + 2 * rise (words_at d 1 62)) × (125 < j → min (suc j) 189 ≤ 125 + 2 * rise (words_at d 125 32))
  unfolding control_fault lists_fault
  lists-before one j m =
      let columns = rise (words_at d 1 62) in
      let behind = rw (one, lists-long one) at m in
      elim (dec_lt columns 62)
      [ yes l ↦ omega (arith, rw (lt-ltb columns 62 l) at behind) | no l ↦ omega (arith, rw (le-ltb columns 62 (omega arith)) at behind) ]

  pub column-before : (k : ℕ) → byte_at d 0 ≡ 1 → k + 1 < 62 → min (suc (1 + 2 * (k + 1))) (length d) ≤ control_fault d
      → word_at d (1 + 2 * k) < word_at d (1 + 2 * (k + 1))
  column-before k one h m = rises 61 d 1 k refl refl (omega (arith, (lists-before one (1 + 2 * (k + 1)) m).0))

  pub row_before : (k : ℕ) → byte_at d 0 ≡ 1 → 62 ≤ k → k + 1 < 94 → min (suc (1 + 2 * (k + 1))) (length d) ≤ control_fault d
      → word_at d (1 + 2 * k) < word_at d (1 + 2 * (k + 1))
  row_before k one l h m =
      rises 31 d 125 (k - 62) (omega arith) (omega arith) (omega (arith, (lists-before one (1 + 2 * (k + 1)) m).1 (omega arith)))

  module _ (o : ℕ) (r : is_read o ≡ 0) where
    lists_at : byte_at d 0 ≡ 1 → lists_fault d < 189 → FaultAt 0x35 o d (lists_fault d)
    unfolding lists_fault
    lists_at one h =
        let columns = rise (words_at d 1 62) in
        elim (dec_lt columns 62) [
          | yes l ↦
              let stop = stops 61 d 1 l in
              rw (lt-ltb columns 62 l, stop.1)
              (fault-of (FieldOf.sets r (WriteField.column stop.0 one (omega arith))) (λ in-range. omega arith))
          | no l ↦
              let inside = rw (le-ltb columns 62 (omega arith)) at h in
              let stop = stops 31 d 125 (omega arith) in
              let k = 62 + stop.0 in
              let place : 125 + 2 * (stop.0 + 1) ≡ 1 + 2 * (k + 1) = omega arith in
              let last : 125 + 2 * stop.0 ≡ 1 + 2 * k = omega arith in
              let not-above = rw (place, last) at stop.2 in
              rw (le-ltb columns 62 (omega arith), stop.1, place)
              (fault-of (FieldOf.sets r (WriteField.row k one (omega arith) (omega arith))) (λ in-range. omega arith))
        ]

    pub control-at : (byte_at d 0 ≡ 0 → IfWrong (FaultAt 0x35 o d) (command_of 0x35).sets d 0) → control_fault d < length d
        → FaultAt 0x35 o d (control_fault d)
    unfolding command_of control_fault
    control-at p h =
        elim (ℕ_discrete (byte_at d 0) 1) [
          | yes one ↦ rw one (lists_at one (omega (arith, lists-long one, rw one at h)))
          | no n ↦
              let inside = rw (ne_eqb (byte_at d 0) 1 n) at h in
              rw (ne_eqb (byte_at d 0) 1 n)
              (elim (ℕ_discrete (byte_at d 0) 0) [
                | yes z ↦ stopped (FaultAt 0x35 o d) (command_of 0x35).sets d 0 (p z) (omega (arith, shape-long z))
                | no z ↦
                    rw (fault-here flag (word 2 62 ∷ word 2 32 ∷ []) d 0 (omega arith))
                    (fault-of (FieldOf.sets r WriteField.mode) (omega arith))
              ])
        ]
