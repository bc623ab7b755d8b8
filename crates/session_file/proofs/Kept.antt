-- What is kept of the record under way, and the steps of the code: each takes the run on by the bytes that it takes.
use Prim.Native.Nat.{ℕ, suc, ◌+◌, ◌-◌, ◌≤◌, ◌<◌, min}
use mathlib.Core.Path.{◌≡◌, refl, sym, ap, subst, ◌∙◌}
use mathlib.Core.Bool.{Bool, true, false, cond, ◌||◌}
use mathlib.Core.List.{List, [], ◌∷◌, ◌++◌}
use native.Mathlib.Decide.{dec_lt}
use native.Mathlib.Omega.{arith}
use borrow.Author.Tests.{ltb-true, ltb-false, lt-ltb, le-ltb, lt-leb}
use lib.ListN.{length, take, drop, get_or, length-append, length-take, get_or-append}
use lib.Seq.{length-take-le, take_all, take-take, take-nil, take-append-add, take-append-le, take-paste, length-paste, get_or-take}
use lib.Seq.{paste}
use borrow.Rule.Slice.PartMut.{put_mid}
use Rattle.std.proofs.lemmas.Slice.{put_mid-paste}
use lib.Dec.{ltb}
use Rattle.std.proofs.Common.{Some}
use Rattle.wire.specs.Numbers.{byte_at, word_at}
use Rattle.session_file.specs.Session.{Run, run, recorded, taken}
use Rattle.session_file.specs.Plain.{Cut}
use Rattle.session_file.specs.declared.Preamble.TheVariants.{Matched}
use Rattle.session_file.specs.declared.Found.{Found}
use Rattle.session_file.specs.declared.Found.TheVariants.{Kept}
use Rattle.session_file.specs.Windows.{ReaderStands, found, Went}
use Rattle.session_file.specs.Windows.{nothing, whole_numbers, lacking, taking, kept_after, after_taking}
use Rattle.session_file.proofs.Runs.{reaches, recorded-cut, recorded-whole, full}

-- ---- Fronts of lists.

pub take-least : (a b : ℕ) (l : List ℕ) → take a (take b l) ≡ take (min b a) l
take-least a b l =
    elim (dec_lt b a) [
      | yes lt ↦ let e : min b a ≡ b = omega arith in
          rw e (take_all a (take b l) (omega (arith, length-take b l)))
      | no ge ↦ let e : min b a ≡ a = omega arith in
          rw e (take-take a b l (omega arith))
    ]

drop-two : (n : ℕ) (l : List ℕ) → drop 2 (take (suc (suc n)) l) ≡ take n (drop 2 l)
drop-two n [] = sym (take-nil n)
drop-two n (x ∷ []) = sym (take-nil n)
drop-two n (x ∷ y ∷ l) = refl

-- The same of a front that is known to have two.
pub behind-two : (m : ℕ) (l : List ℕ) → 2 ≤ m → drop 2 (take m l) ≡ take (m - 2) (drop 2 l)
behind-two m l two = let e : m ≡ suc (suc (m - 2)) = omega arith in ap (λ (k : ℕ). drop 2 (take k l)) e ∙ drop-two (m - 2) l

-- Fronts that are equal have the same first number, and are equal behind it.
same_word : (m k : ℕ) (a b : List ℕ) → take m a ≡ take k b → 2 ≤ m → 2 ≤ k → word_at a 0 ≡ word_at b 0
same_word m k a b e two three =
    let low : byte_at a 0 ≡ byte_at b 0 =
    sym (get_or-take m a 0 0 (omega arith)) ∙ ap (λ (l : List ℕ). get_or l 0 0) e ∙ get_or-take k b 0 0 (omega arith) in
    let high : byte_at a 1 ≡ byte_at b 1 =
    sym (get_or-take m a 1 0 (omega arith)) ∙ ap (λ (l : List ℕ). get_or l 1 0) e ∙ get_or-take k b 1 0 (omega arith) in
    omega arith

-- A record's length stays once it is there.
pub word-append : (h p : List ℕ) → 2 ≤ length h → word_at (h ++ p) 0 ≡ word_at h 0
word-append h p two =
    let low = get_or-append h p 0 0 (omega arith) in
    let high = get_or-append h p 0 1 (omega arith) in
    omega arith

-- ---- Keeping.

-- Bytes over a part of the room.
pub kept-paste : (kept bytes part : List ℕ) (have n k : ℕ) → part ≡ take n bytes → n ≡ k → n ≤ length bytes
    → put_mid have k kept part ≡ paste kept have bytes n
kept-paste kept bytes part have n k e same fits =
    put_mid-paste have k kept part (take n bytes) n e same (sym (length-take-le n bytes fits))
    ∙ ap (λ (l : List ℕ). take have kept ++ l ++ drop (have + n) kept) (take-take n n bytes (omega arith))

pub length-kept : (kept : List ℕ) (have : ℕ) (bytes : List ℕ) → 515 ≤ length kept → length (kept_after kept have bytes) ≡ length kept
unfolding kept_after
length-kept kept have bytes room = go (ltb have 515) refl
  where
    go : (b : Bool) → ltb have 515 ≡ b → length (cond b (paste kept have bytes (min (length bytes) (515 - have))) kept) ≡ length kept
    go false e = refl
    go true e = length-paste kept have bytes (min (length bytes) (515 - have)) (omega (arith, ltb-true have 515 e)) (omega arith)

-- Rule 9.5: the first 515 bytes of the record stand in the room, as many of them as there are.
pub keeps : (h kept bytes : List ℕ) → 515 ≤ length kept → take (min (length h) 515) kept ≡ take 515 h
    → take (min (length h + length bytes) 515) (kept_after kept (length h) bytes) ≡ take 515 (h ++ bytes)
unfolding kept_after
keeps h kept bytes room front = go (ltb (length h) 515) refl
  where
    go : (b : Bool) → ltb (length h) 515 ≡ b
        → take (min (length h + length bytes) 515) (cond b (paste kept (length h) bytes (min (length bytes) (515 - length h))) kept)
        ≡ take 515 (h ++ bytes)
    go true e =
        let lt = ltb-true (length h) 515 e in
        let m : ℕ = min (length bytes) (515 - length h) in
        let size : min (length h + length bytes) 515 ≡ length h + m = omega arith in
        let least : min (length h) 515 ≡ length h = omega arith in
        let kept-front : take (length h) kept ≡ h = (rw least at front) ∙ take_all 515 h (omega arith) in
        let whole : 515 ≡ length h + (515 - length h) = omega arith in
        let some : take (515 - length h) bytes ≡ take m bytes =
        ap (take (515 - length h)) (sym (take_all (length bytes) bytes (omega arith))) ∙ take-least (515 - length h) (length bytes) bytes in
        let right : take 515 (h ++ bytes) ≡ h ++ take m bytes =
        ap (λ (k : ℕ). take k (h ++ bytes)) whole ∙ take-append-add h bytes (515 - length h) ∙ ap (λ (l : List ℕ). h ++ l) some in
        ap (λ (k : ℕ). take k (paste kept (length h) bytes m)) size ∙ take-paste kept (length h) bytes m (omega arith) (omega arith)
        ∙ ap (λ (l : List ℕ). l ++ take m bytes) kept-front ∙ sym right
    go false e =
        let ge = ltb-false (length h) 515 e in
        let all : min (length h + length bytes) 515 ≡ min (length h) 515 = omega arith in
        rw all (front ∙ sym (take-append-le 515 h bytes (omega arith)))

-- ---- Bytes of a record at the window's front.

module _ (window : List ℕ) (ps : List (List ℕ)) (h kept : List ℕ) (inside : 0 < length window) (room : 515 ≤ length kept)
    (front : take (min (length h) 515) kept ≡ take 515 h) (cut : Cut h) where
  abbrev pub n : ℕ
  n = taking window (length h) kept

  abbrev pub bytes : List ℕ
  bytes = take n window

  abbrev pub l : List ℕ
  l = h ++ bytes

  abbrev pub after : List ℕ
  after = kept_after kept (length h) bytes

  long-bytes : length bytes ≡ n
  long-bytes = length-take-le n window (omega arith)

  long : length l ≡ length h + n
  long = length-append h bytes ∙ rw long-bytes

  -- What is lacking is known once the length is there.
  first-lack : length h < 2 → lacking (length h) kept ≡ 2 - length h
  unfolding lacking
  first-lack lt = rw (lt-ltb (length h) 2 lt)

  then-lack : 2 ≤ length h → lacking (length h) kept ≡ 2 + word_at h 0 - length h
  unfolding lacking
  then-lack two =
      let same = same_word (min (length h) 515) 515 kept h front (omega arith) (omega arith) in
      let short = cut.short two in
      rw (le-ltb (length h) 2 two, same, lt-leb (2 + word_at h 0) (length h) short)

  some : 1 ≤ n
  some =
      elim (dec_lt (length h) 2) [
        | yes lt ↦ omega (arith, first-lack lt)
        | no ge ↦ omega (arith, then-lack (omega arith), cut.short (omega arith))
      ]

  fits : 2 < length l → length l ≤ 2 + word_at l 0
  fits big =
      elim (dec_lt (length h) 2) [
        | yes lt ↦ absurd (omega (arith, first-lack lt, long))
        | no ge ↦ omega (arith, then-lack (omega arith), cut.short (omega arith), long, word-append h bytes (omega arith))
      ]

  front-after : take (min (length h + n) 515) after ≡ take 515 l
  front-after = ap (λ (k : ℕ). take (min (length h + k) 515) after) (sym long-bytes) ∙ keeps h kept bytes room front

  word_after : 2 ≤ length l → word_at after 0 ≡ word_at l 0
  word_after two = same_word (min (length h + n) 515) 515 after l front-after (omega (arith, long)) (omega arith)

  ran : taken (run 5 ps h) bytes ≡ recorded ps l
  ran = reaches ps h bytes (omega (arith, some, long-bytes)) fits

  went-cut : Cut l → Went (run 5 ps h) window (nothing n (Matched 5) (length h + n)) after
  went-cut c =
      let e : taken (run 5 ps h) bytes ≡ run 5 ps l = ran ∙ recorded-cut ps l c in
      record {
        stands = subst (λ (r : Run). ReaderStands r (Matched 5) (length h + n) after) (sym e)
            (record { preamble-bytes = refl; record-bytes = sym long; record-front = front-after; record-cut = c });
        none = λ q. ap (λ (r : Run). r.whole) e;
        packet = [];
        one = λ q. absurd cc;
        there = λ q. absurd cc;
      }

  -- The packet in the room, as far as it is kept.
  packet-kept : {f : Found} → Some (Kept 2 (min (length h + n) 515)) ≡ Some f → 2 ≤ length l → found f window after ≡ take 513 (drop 2 l)
  packet-kept e two =
      let where-it-is : found (Kept 2 (min (length h + n) 515)) window after ≡ take 513 (drop 2 l) =
      sym (behind-two (min (length h + n) 515) after (omega (arith, long))) ∙ ap (drop 2) front-after ∙ behind-two 515 l (omega arith) in
      cc

  went-whole : 2 ≤ length l → length l ≡ 2 + word_at l 0
      → Went (run 5 ps h) window (whole_numbers n (Kept 2 (min (length h + n) 515))) after
  went-whole two e =
      let r : taken (run 5 ps h) bytes ≡ run 5 (ps ++ (drop 2 l ∷ [])) [] = ran ∙ recorded-whole ps l two e in
      record {
        stands = subst (λ (r : Run). ReaderStands r (Matched 5) 0 after) (sym r)
            (record { preamble-bytes = refl; record-bytes = refl; record-front = refl; record-cut = record { short = λ q. absurd (omega arith) } });
        none = λ q. absurd cc;
        packet = drop 2 l;
        one = λ q. ap (λ (r : Run). r.whole) r;
        there = λ q. packet-kept q two;
      }

  pub went-more : Went (run 5 ps h) window (after_taking n (length h + n) after) after
  unfolding after_taking
  went-more = go (ltb (length h + n) 2) (ltb (length h + n) (2 + word_at after 0)) refl refl
    where
      go : (a b : Bool) → ltb (length h + n) 2 ≡ a → ltb (length h + n) (2 + word_at after 0) ≡ b
          → Went (run 5 ps h) window
          (cond (a || b) (nothing n (Matched 5) (length h + n)) (whole_numbers n (Kept 2 (min (length h + n) 515)))) after
      go true b e f = went-cut (record { short = λ two. absurd (omega (arith, ltb-true (length h + n) 2 e, long)) })
      go false true e f =
          went-cut (record { short = λ two. omega (arith, ltb-true (length h + n) (2 + word_at after 0) f, word_after two, long) })
      go false false e f =
          let two : 2 ≤ length l = omega (arith, ltb-false (length h + n) 2 e, long) in
          went-whole two (full l fits two (omega (arith, ltb-false (length h + n) (2 + word_at after 0) f, word_after two, long)))
