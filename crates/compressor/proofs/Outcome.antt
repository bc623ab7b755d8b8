-- What the compressor promises, from what its code leaves: which refusal it gives, and that nothing changes then; else the pairs written are
-- the fewest. Once for both families; each says what its tests mean.
use Prim.Native.Nat.{ℕ, zero, suc, ◌*◌, ◌/◌, ◌%◌, ◌≤◌}
use mathlib.Core.Path.{◌≡◌, refl, sym, ap, subst, ◌∙◌}
use mathlib.Core.Logic.{◌↔◌}
use mathlib.Core.Bool.{Bool, true, false, cond, not, ◌||◌}
use mathlib.Core.List.{List, [], ◌∷◌, ◌++◌, append_assoc}
use native.Mathlib.Nat.{mul-le-mul_left}
use native.Mathlib.Decide.{dec_lt}
use native.Mathlib.Omega.{arith}
use borrow.Author.Tests.{ltb-false, lt-ltb, le-ltb, le-leb, eq-eqb, ne_eqb}
use lib.ListN.{length, take, drop, length-append, length-drop, take-append-drop}
use lib.Seq.{drop_at, length-take-le, drop-append-le}
use lib.Dec.{eqb, ltb}
use Rattle.wire.specs.First.{first}
use Rattle.wire.specs.Tables.{words, bytes}
use Rattle.wire.specs.Buffers.{over}
use Rattle.wire.proofs.Laws.{take-over}
use Rattle.wire.proofs.Tables.{length_pairs, pairs-over, halves-over}
use Rattle.wire.proofs.Tests.{told}
use Rattle.gain_words.specs.Gains.{first_large}
use Rattle.gain_words.proofs.Right.{gains-small, small-gains}
use Rattle.compressor.specs.Compress.{compressed}
use Rattle.compressor.specs.Plain.{CompressOut, Compressible, GainBytesRight, CompressPlain, CompressPlainNumbers, CompressPlainBytes}
use Rattle.compressor.specs.Compressing.{compress_out, pairs_room, count_wrong, some_large, compress_refusals, byte_refusals, compressed_by, compressing, compressing_bytes, CompressedNumbers, numbers_in, CompressedBytes}
use Rattle.compressor.specs.Internal.{refusals_of, PairsWritten}
use Rattle.compressor.specs.declared.Refusal.{Refusal}
use Rattle.compressor.specs.declared.Refusal.TheVariants.{GainsWrong, LentWrong}
use Rattle.compressor.specs.Refusals.{number_of as code}
use Rattle.tables.proofs.Bytes.{Below, bytes-words}
use Rattle.compressor.proofs.Fewest.{compressed-two, compressed-length, fewest-pairs}
use Rattle.compressor.proofs.Writing.{Way, as-numbers, as_bytes}

-- The tests of count and gains say what can be compressed.
gains-tested : (odd : Bool) (gains : List ℕ)
    → (odd || count_wrong (length gains) || some_large gains ≡ false) ↔ ((odd ≡ false) × Compressible gains)
gains-tested odd gains = (
  λ e. (
    search (told, e),
    record {
      some = search (told, e);
      few = search (told, e);
      small = gains-small gains (search (told, e));
    },
  ),
  λ (even, r).
      let behind : length gains ≤ first_large gains = omega (arith, small-gains gains r.small) in
      rw (even, le-leb 1 (length gains) r.some, le-leb (length gains) 2016 r.few, le-ltb _ _ behind),
)

-- The number where count or gains are wrong, where the room is short, and where neither is so. Tests with one number, one behind the other, are
-- one test.
abbrev number_of : Bool → Bool → ℕ
number_of wrong short = cond wrong 10 (cond short 1 0)

pub tens : (odd count large : Bool) (behind : ℕ) → cond odd 10 (cond count 10 (cond large 10 behind)) ≡ cond (odd || count || large) 10 behind
tens true count large behind = refl
tens false true large behind = refl
tens false false large behind = refl

never : {b : Bool} → b ≡ true → b ≡ false → ⊥
never e f = let z : ◌≡◌ {A = ℕ} 0 1 = cc in omega arith

-- What lies behind elements that are written over the start of a room.
behind-over : (s room : List ℕ) → drop (length s) (over s room) ≡ drop (length s) room
unfolding over
behind-over s room = drop_at s _ _ refl

-- They fit, so the room keeps its length.
length_over : (s room : List ℕ) → length s ≤ length room → length (over s room) ≡ length room
unfolding over
length_over s room h = rw length-append (omega (arith, length-drop (length s) room))

-- A refusal's number is none of what is taken.
coded : (why : Refusal) → code why ≡ 0 → ⊥
coded GainsWrong e = omega (arith, e)
coded LentWrong e = omega (arith, e)

below-front : (a b : List ℕ) → Below 256 (a ++ b) → Below 256 a
below-front [] b h k = omega arith
below-front (x ∷ a) b h zero = h 0
below-front (x ∷ a) b h (suc k) = below-front a b (λ j. h (suc j)) k

module _ {each : ℕ} {put read : List ℕ → List ℕ} (way : Way each put read) {right : Type 0} (gains room : List ℕ) (wrong : Bool)
    (tested : (wrong ≡ false) ↔ right) (can : right → Compressible gains) where
  abbrev short : Bool
  short = ltb (length room) (each * 2016)

  -- Nothing is refused: all is right.
  fit : number_of wrong short ≡ 0 → right × (each * 2016 ≤ length room)
  fit = go wrong short refl refl
    where
      go : (a b : Bool) → wrong ≡ a → short ≡ b → number_of a b ≡ 0 → right × (each * 2016 ≤ length room)
      go true b e f z = absurd (omega arith)
      go false true e f z = absurd (omega arith)
      go false false e f z = (tested.0 e, ltb-false (length room) (each * 2016) f)

  promised : CompressPlain each read right gains room (compressed_by (number_of wrong short) put gains room)
  promised = go wrong short refl refl
    where
      go : (a b : Bool) → wrong ≡ a → short ≡ b → CompressPlain each read right gains room (compressed_by (number_of a b) put gains room)
      go true b e f =
          record {
            exactly = (λ z. absurd (omega arith), λ r. absurd (never e (tested.1 r.0)));
            ten = (λ z r. never e (tested.1 r), λ w. refl);
            one = λ r l. absurd (never e (tested.1 r));
            found = λ z. absurd (omega arith);
            few = omega arith;
            refused = λ h. (refl, refl);
            behind = refl;
            long = refl;
          }
      go false true e f =
          record {
            exactly = (λ z. absurd (omega arith), λ r. absurd (never f (le-ltb (length room) (each * 2016) r.1)));
            ten = (λ z. absurd (omega arith), λ w. absurd (w (tested.0 e)));
            one = λ r l. refl;
            found = λ z. absurd (omega arith);
            few = omega arith;
            refused = λ h. (refl, refl);
            behind = refl;
            long = refl;
          }
      go false false e f =
          let r = tested.0 e in
          let ws = compressed gains in
          let size = way.long ws (length ws / 2) (compressed-two gains) in
          let most : length ws / 2 ≤ 2016 = omega (arith, compressed-length gains, (can r).few) in
          record {
            exactly = (λ z. (r, ltb-false (length room) (each * 2016) f), λ h. refl);
            ten = (λ z. absurd (omega arith), λ w. absurd (w r));
            one = λ h l. absurd (never (lt-ltb (length room) (each * 2016) l) f);
            few = most;
            found = λ z. rw (← size, take-over (put ws) room, way.back ws) (fewest-pairs gains (can r));
            refused = λ h. absurd (h refl);
            behind = rw (← size) (behind-over (put ws) room);
            long = length_over (put ws) room (omega (arith, size, mul-le-mul_left each most, ltb-false (length room) (each * 2016) f));
          }

-- On numbers.
module _ (gains room : List ℕ) where
  abbrev wrong : Bool
  wrong = count_wrong (length gains) || some_large gains

  abbrev pub refusal : ℕ
  refusal = first (compress_refusals gains (ltb (length room) pairs_room))

  -- The code's number is this one: no number is half there.
  pub asked : {number : ℕ} → number ≡ first (refusals_of (not (eqb (length gains % 1) 0)) (length gains) (some_large gains) (ltb (length room) pairs_room))
      → number ≡ refusal
  asked e = let whole : length gains % 1 ≡ 0 = omega arith in rw whole at e

  judged : refusal ≡ number_of wrong (ltb (length room) pairs_room)
  judged = tens false (count_wrong (length gains)) (some_large gains) _

  tested : (wrong ≡ false) ↔ Compressible gains
  tested = (λ e. ((gains-tested false gains).0 e).1, λ r. (gains-tested false gains).1 (refl, r))

  pub fit-numbers : refusal ≡ 0 → Compressible gains × (4032 ≤ length room)
  fit-numbers z = fit as-numbers gains room wrong tested (λ r. r) (sym judged ∙ z)

  -- The promise, from the equation.
  pub compressed-numbers : {o : CompressOut} → o ≡ compressing gains room → CompressedNumbers gains room o
  unfolding compressing
  compressed-numbers e =
      record {
        outcome = e;
        plain =
            subst (λ (o : CompressOut). CompressPlainNumbers gains room o) (sym (e ∙ rw judged))
            (promised as-numbers gains room wrong tested (λ r. r));
      }

  pub refused : (why : Refusal)
      → code why ≡ first (refusals_of (not (eqb (length gains % 1) 0)) (length gains) (some_large gains) (ltb (length room) pairs_room))
      → CompressedNumbers gains room (compress_out (code why) 0 room)
  unfolding compressing
  refused why e = compressed-numbers (rw (← asked e, ne_eqb (code why) 0 (coded why)))

  pub fitting : 0 ≡ first (refusals_of (not (eqb (length gains % 1) 0)) (length gains) (some_large gains) (ltb (length room) pairs_room))
      → Compressible gains × (4032 ≤ length room)
  fitting e = fit-numbers (sym (asked e))

  pub done : {pairs : ℕ} {left : List ℕ}
      → 0 ≡ first (refusals_of (not (eqb (length gains % 1) 0)) (length gains) (some_large gains) (ltb (length room) pairs_room))
      → PairsWritten (λ ws. ws) gains room pairs left → CompressedNumbers gains room (compress_out 0 pairs left)
  unfolding compressing
  done e w = compressed-numbers (rw (sym (asked e), w.many, w.room-is))

-- On bytes.
module _ (gains room : List ℕ) where
  abbrev odd : Bool
  odd = not (eqb (length gains % 2) 0)

  abbrev wrong-bytes : Bool
  wrong-bytes = odd || count_wrong (length (words gains)) || some_large (words gains)

  abbrev pub refusal-bytes : ℕ
  refusal-bytes = first (byte_refusals gains room)

  judged-bytes : refusal-bytes ≡ number_of wrong-bytes (ltb (length room) (2 * pairs_room))
  judged-bytes = tens odd (count_wrong (length (words gains))) (some_large (words gains)) _

  tested-bytes : (wrong-bytes ≡ false) ↔ GainBytesRight gains
  tested-bytes = (
    λ e. let r = (gains-tested odd (words gains)).0 e in record { even = search (told, r.0); numbers = r.1 },
    λ r. (gains-tested odd (words gains)).1 (rw (eq-eqb _ _ r.even), r.numbers),
  )

  pub fit-bytes : refusal-bytes ≡ 0 → GainBytesRight gains × (8064 ≤ length room)
  fit-bytes z = fit as_bytes (words gains) room wrong-bytes tested-bytes (λ r. r.numbers) (sym judged-bytes ∙ z)

  -- Of an even number of bytes the answer on numbers: the same number, and the same pairs over the start of the room's numbers.
  same-short : ltb (length room) (2 * pairs_room) ≡ ltb (length (words room)) pairs_room
  same-short =
      let long = length_pairs 256 room in
      elim (dec_lt (length room) (2 * pairs_room)) [
        | yes h ↦ lt-ltb (length room) (2 * pairs_room) h ∙ sym (lt-ltb (length (words room)) pairs_room (omega arith))
        | no h ↦ le-ltb (length room) (2 * pairs_room) (omega arith) ∙ sym (le-ltb (length (words room)) pairs_room (omega arith))
      ]

  same_number : length gains % 2 ≡ 0 → refusal-bytes ≡ refusal (words gains) (words room)
  same_number even = rw (even, same-short)

  in-numbers : (number : ℕ)
      → numbers_in (compressed_by number bytes (words gains) room) ≡ compressed_by number (λ ws. ws) (words gains) (words room)
  in-numbers number = go (eqb number 0)
    where
      go : (b : Bool)
          → numbers_in
          (cond b (compress_out 0 (length (compressed (words gains)) / 2) (over (bytes (compressed (words gains))) room)) (compress_out number 0 room))
          ≡ cond b (compress_out 0 (length (compressed (words gains)) / 2) (over (compressed (words gains)) (words room)))
          (compress_out number 0 (words room))
      go true = rw (pairs-over 256 (compressed (words gains)) room)
      go false = refl

  pub compressed-bytes : {o : CompressOut} → o ≡ compressing_bytes gains room → CompressedBytes gains room o
  unfolding compressing compressing_bytes
  compressed-bytes e =
      record {
        outcome = e;
        plain =
            subst (λ (o : CompressOut). CompressPlainBytes gains room o) (sym (e ∙ rw judged-bytes))
            (promised as_bytes (words gains) room wrong-bytes tested-bytes (λ r. r.numbers));
        numbers = λ even.
            compressed-numbers (words gains) (words room)
            (ap numbers_in e ∙ in-numbers refusal-bytes ∙ ap (λ (n : ℕ). compressed_by n (λ ws. ws) (words gains) (words room)) (same_number even));
      }

  pub refused-bytes : (why : Refusal) → code why ≡ refusal-bytes → CompressedBytes gains room (compress_out (code why) 0 room)
  unfolding compressing_bytes
  refused-bytes why e = compressed-bytes (rw (← e, ne_eqb (code why) 0 (coded why)))

  -- The first bytes of a room are those of the numbers that they hold.
  module _ (whole : 8064 ≤ length room) (small : Below 256 room) (new : List ℕ) (kept : length new ≡ 8064) (small' : Below 256 (new ++ drop 8064 room))
      {pairs : ℕ} (w : PairsWritten (λ ws. ws) (words gains) (words (take 8064 room)) pairs (words new)) where
    pub written : PairsWritten bytes (words gains) room pairs (new ++ drop 8064 room)
    unfolding over
    written =
        let front = take 8064 room in
        let ws = compressed (words gains) in
        let wide : length front ≡ 8064 = length-take-le 8064 room whole in
        let small'' : Below 256 front = below-front front (drop 8064 room) (rw take-append-drop small) in
        let here : new ≡ over (bytes ws) front =
        sym (bytes-words new (omega arith) (below-front new (drop 8064 room) small')) ∙ ap bytes w.room-is
        ∙ halves-over 256 ws (words front)
        ∙ rw (bytes-words front (omega arith) small'') in
        let inside : length (bytes ws) ≤ length front =
        omega (arith, ap length here, length-append (bytes ws) (drop (length (bytes ws)) front), length-drop (length (bytes ws)) front) in
        record {
          many = w.many;
          room-is = rw here (rw (append_assoc, ← drop-append-le (length (bytes ws)) front (drop 8064 room) inside, take-append-drop));
        }

  pub done-bytes : {pairs : ℕ} {left : List ℕ} → 0 ≡ refusal-bytes → PairsWritten bytes (words gains) room pairs left
      → CompressedBytes gains room (compress_out 0 pairs left)
  unfolding compressing_bytes
  done-bytes e w = compressed-bytes (rw (sym e, w.many, w.room-is))
