-- Writes whose size varies: 34h, 38h, 2Bh and 35h, each from its tests to its data and back.
use Prim.Native.Nat.{ℕ, ◌+◌, ◌-◌, ◌*◌, ◌/◌, ◌%◌, ◌≤◌}
use mathlib.Core.Path.{◌≡◌, refl, sym, subst, ◌∙◌}
use mathlib.Core.Bool.{false, cond, not, ◌&&◌}
use mathlib.Core.List.{List, [], ◌∷◌, ◌++◌}
use native.Mathlib.Decide.{dec_lt, ℕ_discrete}
use native.Mathlib.Omega.{arith}
use lib.ListN.{length, take, drop, get_or, length-append, length-take, length-drop, take-append-drop}
use lib.Seq.{take_at, drop_at, drop-drop}
use lib.Dec.{eqb, ltb}
use borrow.Author.Tests.{ltb-false, eqb-false, lt-ltb, le-ltb, le-leb, eq-eqb, ne_eqb}
use Rattle.wire.specs.Numbers.{byte_at, word_at}
use Rattle.wire.specs.Tables.{words}
use Rattle.opcode.specs.Fields.{word, fault, words_at, rise}
use Rattle.opcode.specs.Commands.{command_of, flag}
use Rattle.opcode.specs.Judgement.{points_size_wrong, smooth_size_wrong, smooth_fault, in_pairs, gains_size_wrong, words_fault, gains_fault, control_size_wrong, control_fault, lists_fault}
use Rattle.opcode.specs.Allowed.{WriteData, points, smooth, shape, lists, Rising}
use Rattle.gain_words.specs.Plain.{Pairs}
use Rattle.wire.proofs.Tests.{told}
use Rattle.wire.proofs.Tables.{length_pairs}
use Rattle.gain_words.proofs.Right.{small-gains, gains-small, fault-pairs, pairs-fault, pairs-even}
use Rattle.opcode.proofs.Accepts.Fields.{All, Right, right-value, tests-right, all-fault, fault-all, fault-here}
use Rattle.opcode.proofs.Accepts.Lists.{headed, exactly, words-part, words-rest, length-words_at, rising-rise, rise-rising}
use Rattle.opcode.proofs.Accepts.Passes.{Passes}

-- 34h.
pub passes-points : (d : List ℕ) → Passes 0x34 d → WriteData 0x34 d
unfolding command_of points_size_wrong
passes-points d p =
    let count = (length d - 2) / 4 in
    let size : points_size_wrong d ≡ false = p.size in
    let long : 6 ≤ length d = search told in
    let whole : length d % 4 ≡ 2 = search told in
    let some : 1 ≤ count = omega arith in
    let rest : length (drop 2 d) ≡ 4 * count = rw length-drop (omega arith) in
    rw (headed d 2 (omega arith)) (points some rest)

pub points-passes : (d : List ℕ) (n : ℕ) → 1 ≤ n → length d ≡ 2 + 4 * n → Passes 0x34 d
unfolding command_of points_size_wrong
points-passes d n h e =
    record {
      size = rw (le-leb 6 (length d) (omega arith), eq-eqb (length d % 4) 2 (omega arith));
      value = le-ltb (length d) (length d) (omega arith);
      named_only = refl;
    }

-- A head of n bytes and then the rest: no fault in the whole is none in the head.
past_head : (head n rest all : ℕ) → n ≤ all → ltb (cond (ltb head n) head rest) all ≡ false → n ≤ head
past_head head n rest all h e =
    elim (dec_lt head n)
    [ yes l ↦ absurd (omega (arith, ltb-false head all (rw (lt-ltb head n l) at e))) | no l ↦ omega arith ]

-- 38h.
pub passes-smooth : (d : List ℕ) → Passes 0x38 d → WriteData 0x38 d
unfolding command_of smooth_size_wrong smooth_fault
passes-smooth d p =
    let head = fault (command_of 0x38).sets d 0 in
    let size : smooth_size_wrong d ≡ false = p.size in
    let long : 2 ≤ length d = search told in
    let behind : 2 ≤ head = past_head head 2 (length d) (length d) long p.value in
    let points-size = rw (le-ltb head 2 behind) at size in
    let whole : length d ≡ 2 + 4 * (byte_at d 0 * byte_at d 1) = search told in
    let values : All (command_of 0x38).sets d 0 = fault-all (command_of 0x38).sets (omega arith) d 0 behind in
    let rest : length (drop 2 d) ≡ 4 * (byte_at d 0 * byte_at d 1) = rw length-drop (omega arith) in
    rw (headed d 2 long) (search (smooth, arith))

pub smooth-passes : (d : List ℕ) → All (command_of 0x38).sets d 0 → length d ≡ 2 + 4 * (byte_at d 0 * byte_at d 1) → Passes 0x38 d
unfolding command_of smooth_size_wrong smooth_fault
smooth-passes d a e =
    let behind : fault (command_of 0x38).sets d 0 ≡ 2 = all-fault (command_of 0x38).sets d 0 a in
    record {
      size = rw (behind, le-ltb (length d) 2 (omega arith), eq-eqb (length d) (2 + 4 * (byte_at d 0 * byte_at d 1)) e);
      value = rw behind (le-ltb (length d) (length d) (omega arith));
      named_only = refl;
    }

-- 2Bh: as many words as the count says.
pub words_long : (d : List ℕ) → length d ≡ 6 + 2 * word_at d 2 → length (words (drop 6 d)) ≡ word_at d 2
words_long d e = rw (length_pairs, length-drop) (omega arith)

-- What the tests tell before the flag does.
record Tested (d : List ℕ) : Type 0 where
  long : 6 ≤ length d
  whole : length d ≡ 6 + 2 * word_at d 2
  values : All (command_of 0x2B).sets d 0
  words_right : length (words (drop 6 d)) ≤ words_fault d

gains-tested : (d : List ℕ) → Passes 0x2B d → Tested d
unfolding command_of gains_size_wrong gains_fault
gains-tested d p =
    let head = fault (command_of 0x2B).sets d 0 in
    let size : gains_size_wrong d ≡ false = p.size in
    let long : 6 ≤ length d = search told in
    let whole : length d ≡ 6 + 2 * word_at d 2 = search told in
    let behind : 6 ≤ head = past_head head 6 _ (length d) long p.value in
    let no-fault = ltb-false (6 + 2 * words_fault d) (length d) (rw (le-ltb head 6 behind) at p.value) in
    record {
      long = long;
      whole = whole;
      values = fault-all (command_of 0x2B).sets (omega arith) d 0 behind;
      words_right = omega (arith, words_long d whole);
    }

pub passes-gains : (d : List ℕ) → Passes 0x2B d → WriteData 0x2B d
unfolding command_of words_fault
passes-gains d p =
    let t = gains-tested d p in
    let ws = words (drop 6 d) in
    let values = t.values in
    let rest : length (drop 6 d) ≡ 2 * word_at d 2 = rw length-drop (omega (arith, t.whole)) in
    elim (ℕ_discrete (byte_at d 0) 1) [
      | yes one ↦
          let sent : Pairs ws = fault-pairs ws (rw one at t.words_right) in
          rw (headed d 6 t.long, one) (search (WriteData.runs, arith))
      | no one ↦
          let plain : byte_at d 0 ≡ 0 = omega arith in
          let small : (k : ℕ) → get_or ws k 0 ≤ 8191 = gains-small ws (rw plain at t.words_right) in
          rw (headed d 6 t.long, plain) (search (WriteData.gains, arith))
    ]

-- Its size, whatever its values are.
pub gains-sized : (d : List ℕ) → length d ≡ 6 + 2 * word_at d 2 → in_pairs d && eqb (word_at d 2 % 2) 1 ≡ false → gains_size_wrong d ≡ false
unfolding gains_size_wrong
gains-sized d e h = rw (le-leb 6 (length d) (omega arith), eq-eqb (length d) (6 + 2 * word_at d 2) e, h)

-- Of data of the right size, with its fields in range and no word at fault; pairs, of an even count.
module _ (d : List ℕ) (a : All (command_of 0x2B).sets d 0) (e : length d ≡ 6 + 2 * word_at d 2) where
  valued : words_fault d ≡ length (words (drop 6 d)) → ltb (gains_fault d) (length d) ≡ false
  unfolding command_of gains_fault
  valued h =
      let behind : fault (command_of 0x2B).sets d 0 ≡ 6 = all-fault (command_of 0x2B).sets d 0 a in
      rw behind (le-ltb (6 + 2 * words_fault d) (length d) (omega (arith, words_long d e)))

  pub gains-passes : byte_at d 0 ≡ 0 → ((k : ℕ) → get_or (words (drop 6 d)) k 0 ≤ 8191) → Passes 0x2B d
  unfolding command_of words_fault
  gains-passes z h =
      record { size = gains-sized d e (rw z); value = valued (rw z (small-gains (words (drop 6 d)) h)); named_only = refl }

  pub runs-passes : byte_at d 0 ≡ 1 → Pairs (words (drop 6 d)) → Passes 0x2B d
  unfolding command_of words_fault
  runs-passes z h =
      let even : word_at d 2 % 2 ≡ 0 = omega (arith, words_long d e, pairs-even h) in
      record { size = gains-sized d e (rw (z, even)); value = valued (rw z (pairs-fault h)); named_only = refl }

-- 35h, mode 0.
right-shape : (d : List ℕ) → byte_at d 0 ≡ 0 → Right 5 (command_of 0x35).sets d → WriteData 0x35 d
unfolding command_of
right-shape d z r = rw (exactly d 5 r.sized, z) (search (shape, arith))

pub shape-passes : (d : List ℕ) → byte_at d 0 ≡ 0 → Right 5 (command_of 0x35).sets d → Passes 0x35 d
unfolding command_of control_size_wrong control_fault
shape-passes d z r = record { size = rw (z, r.sized); value = rw z (right-value refl r); named_only = refl }

-- Mode 1: both lists rise.
pub record Lists (d : List ℕ) : Type 0 where
  pub mode : byte_at d 0 ≡ 1
  pub sized : length d ≡ 189
  pub columns : Rising (words_at d 1 62)
  pub rows : Rising (words_at d 125 32)

fault-lists : (d : List ℕ) → byte_at d 0 ≡ 1 → length d ≡ 189 → ltb (lists_fault d) (length d) ≡ false → Lists d
unfolding lists_fault
fault-lists d m l e =
    let columns = rise (words_at d 1 62) in
    let rows = rise (words_at d 125 32) in
    elim (dec_lt columns 62) [
      | yes h ↦ absurd (omega (arith, ltb-false (1 + 2 * columns) (length d) (rw (lt-ltb columns 62 h) at e)))
      | no h ↦
          let enough : 62 ≤ columns = omega arith in
          let value = ltb-false (125 + 2 * rows) (length d) (rw (le-ltb columns 62 enough) at e) in
          record {
            mode = m;
            sized = l;
            columns = rise-rising (words_at d 1 62) (omega (arith, length-words_at 62 d 1));
            rows = rise-rising (words_at d 125 32) (omega (arith, length-words_at 32 d 125));
          }
    ]

lists-fault : (d : List ℕ) → Lists d → ltb (lists_fault d) (length d) ≡ false
unfolding lists_fault
lists-fault d r =
    rw (rising-rise r.columns, rising-rise r.rows, length-words_at 62 d 1, length-words_at 32 d 125, r.sized)

lists-data : (d : List ℕ) → Lists d → WriteData 0x35 d
lists-data d r =
    let whole : d ≡ 1 ∷ (take 124 (drop 1 d) ++ drop 125 d) =
    headed d 1 (omega arith) ∙ rw (r.mode, ← drop-drop 124 1 d, take-append-drop 124 (drop 1 d)) in
    subst (WriteData 0x35) (sym whole)
    (lists (take 124 (drop 1 d)) (drop 125 d) (simp (length-take, length-drop) (omega arith)) (rw length-drop (omega arith))
    (rw (words-part 62 d 1 (omega arith)) at r.columns) (rw (words-rest 32 d 125 r.sized) at r.rows))

pub joined-lists : (xs ys : List ℕ) → length xs ≡ 124 → length ys ≡ 64 → Rising (words xs) → Rising (words ys) → Lists (1 ∷ (xs ++ ys))
joined-lists xs ys ex ey rx ry =
    let l : length (1 ∷ (xs ++ ys)) ≡ 189 = rw length-append (omega arith) in
    record {
      mode = refl;
      sized = l;
      columns = rw (words-part 62 (1 ∷ (xs ++ ys)) 1 (omega arith), take_at xs ys 124 ex) rx;
      rows = rw (words-rest 32 (1 ∷ (xs ++ ys)) 125 l, drop_at xs ys 124 ex) ry;
    }

pub lists-passes : (d : List ℕ) → Lists d → Passes 0x35 d
unfolding command_of control_size_wrong control_fault
lists-passes d r = record { size = rw (r.mode, r.sized); value = rw r.mode (lists-fault d r); named_only = refl }

pub passes-control : (d : List ℕ) → Passes 0x35 d → WriteData 0x35 d
unfolding command_of control_size_wrong control_fault
passes-control d p =
    elim (ℕ_discrete (byte_at d 0) 0) [
      | yes z ↦
          let size = rw z at p.size in
          let five : not (eqb (length d) 5) ≡ false = search told in
          right-shape d z (tests-right 5 (command_of 0x35).sets d (omega arith) refl five (rw z at p.value))
      | no z ↦
          elim (ℕ_discrete (byte_at d 0) 1) [
            | yes m ↦
                let size = rw m at p.size in
                let l : length d ≡ 189 = search told in
                lists-data d (fault-lists d m l (rw m at p.value))
            | no m ↦
                let size = p.size in
                let some : eqb (length d) 0 ≡ false = search told in
                let value = ltb-false (fault (command_of 0x35).sets d 0) (length d) (rw (ne_eqb (byte_at d 0) 1 m) at p.value) in
                let here = fault-here flag (word 2 62 ∷ word 2 32 ∷ []) d 0 (omega arith) in
                absurd (omega (arith, eqb-false (length d) 0 some))
          ]
    ]
