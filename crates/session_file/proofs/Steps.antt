-- Each step of the code takes the run on by the bytes that it takes, and stays in the window.
use Prim.Native.Nat.{ℕ, ◌+◌, ◌-◌, ◌≤◌, ◌<◌, min}
use mathlib.Core.Path.{◌≡◌, refl, sym, ap, subst, ◌∙◌}
use mathlib.Core.Bool.{Bool, true, false, cond, ◌||◌}
use mathlib.Core.List.{List, [], ◌∷◌, ◌++◌}
use native.Mathlib.Omega.{arith}
use borrow.Author.Tests.{ltb-false, lt-ltb, le-ltb, leb-true, eqb-true, ne_eqb}
use lib.ListN.{length, take, drop, get_or}
use lib.Seq.{length-take-le, drop-cons, get_or-take}
use lib.Dec.{ltb, eqb}
use Rattle.std.proofs.Common.{Some}
use Rattle.wire.specs.Numbers.{word_at}
use Rattle.wire.proofs.Tests.{and_left, and_right}
use Rattle.session_file.specs.declared.Preamble.{Preamble}
use Rattle.session_file.specs.declared.Preamble.TheVariants.{Matched, Spoiled}
use Rattle.session_file.specs.declared.Found.{Found}
use Rattle.session_file.specs.declared.Found.TheVariants.{Window, Kept}
use Rattle.session_file.specs.declared.Taken.{Taken}
use Rattle.session_file.specs.Session.{Run, run, preamble, matched_by, taken}
use Rattle.session_file.specs.Windows.{most_record, matched_of, ReaderStands, Lies, Within, found, Went, Follows, ReaderStep}
use Rattle.session_file.specs.Windows.{nothing, whole_numbers, preamble_by, whole_record, taking, kept_after, is_cut, after_taking, lies_whole}
use Rattle.session_file.specs.Windows.{record_kept, record_taken, next_kept, next_taken}
use Rattle.session_file.proofs.Runs.{reaches, recorded-whole, grown-preamble, taken-spoiled}
use Rattle.session_file.proofs.Kept.{take-least, behind-two, length-kept, went-more}

-- ---- Places.

or_none : (a b : Bool) → (a || b) ≡ false → a ≡ false
or_none false b e = refl
or_none true b e = e

pub within_none : (window : List ℕ) (size : ℕ) (matched : Preamble) (have : ℕ) (kept : List ℕ) → 0 < size → size ≤ length window → have ≤ most_record
    → Within window (nothing size matched have) kept
within_none window size matched have kept some le most =
    record { some = some; inside = le; have-most = most; lies = λ q. absurd cc }

-- A place that is known to be another.
lies-as : {f g : Found} (window kept : List ℕ) → Some f ≡ Some g → Lies f window kept → Lies g window kept
lies-as {f} {g} window kept e l = let same : f ≡ g = cc in subst (λ (h : Found). Lies h window kept) same l

pub within-whole : (window : List ℕ) (size : ℕ) (kept : List ℕ) → 2 + size ≤ length window → Within window (whole_record size) kept
within-whole window size kept le =
    record {
      some = omega arith;
      inside = le;
      have-most = omega arith;
      lies = λ q. lies-as window kept q (omega arith, omega arith);
    }

pub within_more : (window : List ℕ) (size have : ℕ) (kept : List ℕ) → 0 < size → size ≤ length window → 515 ≤ length kept
    → (after_taking size have kept).have ≤ most_record → Within window (after_taking size have kept) kept
unfolding after_taking
within_more window size have kept some le room most = go (is_cut have kept) refl most
  where
    go : (b : Bool) → is_cut have kept ≡ b → (cond b (nothing size (Matched 5) have) (whole_numbers size (Kept 2 (min have 515)))).have ≤ most_record
        → Within window (cond b (nothing size (Matched 5) have) (whole_numbers size (Kept 2 (min have 515)))) kept
    go true e m = within_none window size (Matched 5) have kept some le m
    go false e m =
        let two = ltb-false have 2 (or_none (ltb have 2) (ltb have (2 + word_at kept 0)) e) in
        record { some = some; inside = le; have-most = omega arith; lies = λ q. lies-as window kept q (omega arith, omega arith) }

-- ---- The run.

-- A run that the numbers stand for, part by part.
stands-for : (r : Run) (matched : Preamble) (have : ℕ) (kept : List ℕ) → ReaderStands r matched have kept
    → r ≡ run (matched_of matched) r.whole r.under
stands-for r matched have kept st = ap (λ (m : ℕ). run m r.whole r.under) (sym st.preamble-bytes)

-- Bytes that make no record whole.
none-whole : (r r' : Run) (window : List ℕ) (size : ℕ) (matched : Preamble) (have : ℕ) (kept : List ℕ) → taken r (take size window) ≡ r'
    → r'.whole ≡ r.whole → ReaderStands r' matched have kept → Went r window (nothing size matched have) kept
none-whole r r' window size matched have kept e w st =
    record {
      stands = subst (λ (x : Run). ReaderStands x matched have kept) (sym e) st;
      none = λ q. ap (λ (x : Run). x.whole) e ∙ w;
      packet = [];
      one = λ q. absurd cc;
      there = λ q. absurd cc;
    }

-- The next byte, counted.
counted-by : (m b : ℕ) → matched_of (preamble_by m b) ≡ matched_by m b
unfolding preamble_by matched_by
counted-by m b = go (eqb b (get_or preamble m 0))
  where
    go : (t : Bool) → matched_of (cond t (Matched (m + 1)) Spoiled) ≡ cond t (m + 1) 6
    go true = refl
    go false = refl

pub preamble-follows : (window : List ℕ) (n have : ℕ) (kept : List ℕ) → 0 < length window → n < 5
    → Follows window (Matched n) have kept (nothing 1 (preamble_by n (get_or window 0 0)) have) kept
unfolding taken
preamble-follows window n have kept inside few =
    λ r st.
    let b : ℕ = get_or window 0 0 in
    let one : take 1 window ≡ b ∷ [] = ap (take 1) (drop-cons window 0 0 inside) in
    let lt : r.matched < 5 = omega (arith, st.preamble-bytes) in
    let e : taken r (take 1 window) ≡ run (matched_by r.matched b) r.whole r.under =
    ap (taken r) one ∙ grown-preamble r.matched r.whole r.under b lt in
    none-whole r (run (matched_by r.matched b) r.whole r.under) window 1 (preamble_by n b) have kept e refl
    (record {
      preamble-bytes = counted-by n b ∙ ap (λ (m : ℕ). matched_by m b) st.preamble-bytes;
      record-bytes = st.record-bytes;
      record-front = st.record-front;
      record-cut = st.record-cut;
    })

pub spoiled-follows : (window : List ℕ) (matched : Preamble) (have : ℕ) (kept : List ℕ) → 5 < matched_of matched
    → Follows window matched have kept (nothing (length window) matched have) kept
spoiled-follows window matched have kept many =
    λ r st.
    let e = taken-spoiled r.matched r.whole r.under (take (length window) window) (omega (arith, st.preamble-bytes)) in
    none-whole r r window (length window) matched have kept e refl st

-- A record that lies whole in the window.
module _ (window : List ℕ) (kept : List ℕ) (lies : 2 + word_at window 0 ≤ length window) (ps : List (List ℕ)) where
  abbrev size : ℕ
  size = word_at window 0

  abbrev bytes : List ℕ
  bytes = take (2 + size) window

  long : length bytes ≡ 2 + size
  long = length-take-le (2 + size) window lies

  number : word_at bytes 0 ≡ size
  number =
      let low = get_or-take (2 + size) window 0 0 (omega arith) in
      let high = get_or-take (2 + size) window 1 0 (omega arith) in
      omega (arith, low, high)

  whole_run : taken (run 5 ps []) bytes ≡ run 5 (ps ++ (drop 2 bytes ∷ [])) []
  whole_run =
      reaches ps [] bytes (omega (arith, long)) (λ two. omega (arith, long, number))
      ∙ recorded-whole ps bytes (omega (arith, long)) (omega (arith, long, number))

  packet-there : {f : Found} → Some (Window 2 (2 + min size 513)) ≡ Some f → found f window kept ≡ take 513 (drop 2 bytes)
  packet-there q =
      let e : 2 + min size 513 - 2 ≡ min size 513 = omega arith in
      let two : 2 + size - 2 ≡ size = omega arith in
      let behind : drop 2 bytes ≡ take size (drop 2 window) =
      behind-two (2 + size) window (omega arith) ∙ ap (λ (k : ℕ). take k (drop 2 window)) two in
      let there : found (Window 2 (2 + min size 513)) window kept ≡ take 513 (drop 2 bytes) =
      ap (λ (k : ℕ). take k (drop 2 window)) e ∙ sym (take-least 513 size (drop 2 window)) ∙ ap (take 513) (sym behind) in
      cc

  whole-went : Went (run 5 ps []) window (whole_record size) kept
  whole-went =
      record {
        stands = subst (λ (r : Run). ReaderStands r (Matched 5) 0 kept) (sym whole_run)
            (record { preamble-bytes = refl; record-bytes = refl; record-front = refl; record-cut = record { short = λ q. absurd (omega arith) } });
        none = λ q. absurd cc;
        packet = drop 2 bytes;
        one = λ q. ap (λ (r : Run). r.whole) whole_run;
        there = packet-there;
      }

empty : (l : List ℕ) → 0 ≡ length l → l ≡ []
empty [] e = refl
empty (x ∷ l) e = absurd (omega arith)

pub whole-follows : (window : List ℕ) (kept : List ℕ) → 2 + word_at window 0 ≤ length window
    → Follows window (Matched 5) 0 kept (whole_record (word_at window 0)) kept
whole-follows window kept lies =
    λ r st.
    let e : r ≡ run 5 r.whole [] = stands-for r (Matched 5) 0 kept st ∙ ap (run 5 r.whole) (empty r.under st.record-bytes) in
    subst (λ (x : Run). Went x window (whole_record (word_at window 0)) kept) (sym e) (whole-went window kept lies r.whole)

pub more-follows : (window : List ℕ) (have : ℕ) (kept : List ℕ) → 0 < length window → 515 ≤ length kept
    → Follows window (Matched 5) have kept
    (after_taking (taking window have kept) (have + taking window have kept) (kept_after kept have (take (taking window have kept) window)))
    (kept_after kept have (take (taking window have kept) window))
more-follows window have kept inside room =
    λ r st.
    let front = rw st.record-bytes at st.record-front in
    rw st.record-bytes
    (subst
    (λ (x : Run).
    Went x window
    (after_taking (taking window (length r.under) kept) (length r.under + taking window (length r.under) kept)
    (kept_after kept (length r.under) (take (taking window (length r.under) kept) window)))
    (kept_after kept (length r.under) (take (taking window (length r.under) kept) window)))
    (sym (stands-for r (Matched 5) have kept st))
    (went-more window r.whole r.under kept inside room front st.record-cut))

-- What a step promises, of its answer and the room as they are known.
pub step-done : {window : List ℕ} {matched : Preamble} {have : ℕ} {kept after after' : List ℕ} {t t' : Taken} → t ≡ t' → after ≡ after'
    → Within window t' after' → length after' ≡ length kept → Follows window matched have kept t' after'
    → next_taken window matched have kept ≡ t' → next_kept window matched have kept ≡ after' → ReaderStep window matched have kept t after
step-done {window} {matched} {have} {kept} {after} {after'} {t} {t'} e f within long follows answer room =
    subst (λ (x : Taken). ReaderStep window matched have kept x after) (sym e)
    (subst (λ (l : List ℕ). ReaderStep window matched have kept t' l) (sym f)
    (record { within = within; long = long; follows = follows; answer = sym answer; room = sym room }))

-- ---- The steps, way by way.

-- What the code's equation answers at a byte of the preamble.
pub next-preamble : (window : List ℕ) (matched : Preamble) (have : ℕ) (kept : List ℕ) → matched_of matched < 5
    → next_taken window matched have kept
    ≡ nothing 1 (preamble_by (matched_of matched) (get_or window 0 0)) have
unfolding next_taken
next-preamble window matched have kept few =
    rw (ne_eqb (matched_of matched) 5 (λ q. omega arith), lt-ltb (matched_of matched) 5 few)

-- Such a byte leaves the room as it was.
pub kept-preamble : (window : List ℕ) (matched : Preamble) (have : ℕ) (kept : List ℕ) → matched_of matched < 5
    → next_kept window matched have kept ≡ kept
unfolding next_kept
kept-preamble window matched have kept few = rw (ne_eqb (matched_of matched) 5 (λ q. omega arith))

-- A byte of the preamble.
pub preamble-step : {window : List ℕ} {n have : ℕ} {kept : List ℕ} {t : Taken} → 0 < length window → n < 5 → have ≤ most_record
    → t ≡ nothing 1 (preamble_by n (get_or window 0 0)) have → ReaderStep window (Matched n) have kept t kept
preamble-step {window} {n} {have} {kept} inside few most e =
    step-done e refl (within_none window 1 (preamble_by n (get_or window 0 0)) have kept (omega arith) (omega arith) most) refl
    (preamble-follows window n have kept inside few) (next-preamble window (Matched n) have kept few)
    (kept-preamble window (Matched n) have kept few)

-- What the equation answers where the preamble is wrong, and what becomes of the room.
pub next-spoiled : (window : List ℕ) (matched : Preamble) (have : ℕ) (kept : List ℕ) → 5 < matched_of matched
    → next_taken window matched have kept ≡ nothing (length window) matched have
unfolding next_taken
next-spoiled window matched have kept many =
    rw (ne_eqb (matched_of matched) 5 (λ q. omega arith), le-ltb (matched_of matched) 5 (omega arith))

pub kept-spoiled : (window : List ℕ) (matched : Preamble) (have : ℕ) (kept : List ℕ) → 5 < matched_of matched
    → next_kept window matched have kept ≡ kept
unfolding next_kept
kept-spoiled window matched have kept many = rw (ne_eqb (matched_of matched) 5 (λ q. omega arith))

-- All of the window, where the preamble is wrong.
pub spoiled-step : {window : List ℕ} {matched : Preamble} {have : ℕ} {kept : List ℕ} {t : Taken} → 0 < length window → 5 < matched_of matched
    → have ≤ most_record → t ≡ nothing (length window) matched have → ReaderStep window matched have kept t kept
spoiled-step {window} {matched} {have} {kept} inside many most e =
    step-done e refl (within_none window (length window) matched have kept inside (omega arith) most) refl
    (spoiled-follows window matched have kept many) (next-spoiled window matched have kept many)
    (kept-spoiled window matched have kept many)

-- Where a record begins and ends in the window: no byte of it was kept, and it has its place there.
pub whole-first : (window : List ℕ) (have : ℕ) → lies_whole window have ≡ true → have ≡ 0
whole-first window have whole = eqb-true have 0 (and_left (eqb have 0) _ whole)

pub whole-lies : (window : List ℕ) (have : ℕ) → lies_whole window have ≡ true → 2 + word_at window 0 ≤ length window
whole-lies window have whole =
    leb-true (2 + word_at window 0) (length window) (and_right (eqb have 0) _ whole)

-- What the equation answers then, and what becomes of the room.
pub next-whole : (window : List ℕ) (have : ℕ) (kept : List ℕ) → lies_whole window have ≡ true
    → next_taken window (Matched 5) have kept ≡ whole_record (word_at window 0)
unfolding next_taken record_taken
next-whole window have kept whole = rw whole

pub kept_whole : (window : List ℕ) (have : ℕ) (kept : List ℕ) → lies_whole window have ≡ true
    → next_kept window (Matched 5) have kept ≡ kept
unfolding next_kept record_kept
kept_whole window have kept whole = rw whole

-- A record that begins and ends in the window.
pub whole-step : {window : List ℕ} {have : ℕ} {kept : List ℕ} {t : Taken} → lies_whole window have ≡ true
    → t ≡ whole_record (word_at window 0) → ReaderStep window (Matched 5) have kept t kept
whole-step {window} {have} {kept} whole e =
    let none : have ≡ 0 = whole-first window have whole in
    let lies = whole-lies window have whole in
    step-done e refl (within-whole window (word_at window 0) kept lies) refl (rw none (whole-follows window kept lies))
    (next-whole window have kept whole) (kept_whole window have kept whole)

-- What the equation answers where the window has a part of a record, and what the room keeps.
pub next_more : (window : List ℕ) (have : ℕ) (kept : List ℕ) → lies_whole window have ≡ false
    → next_taken window (Matched 5) have kept
    ≡ after_taking (taking window have kept) (have + taking window have kept)
    (kept_after kept have (take (taking window have kept) window))
unfolding next_taken record_taken
next_more window have kept more = rw more

pub kept_more : (window : List ℕ) (have : ℕ) (kept : List ℕ) → lies_whole window have ≡ false
    → next_kept window (Matched 5) have kept ≡ kept_after kept have (take (taking window have kept) window)
unfolding next_kept record_kept
kept_more window have kept more = rw more

-- One that the window has in part.
pub more-step : {window : List ℕ} {have : ℕ} {kept after : List ℕ} {t : Taken} → 0 < length window → 515 ≤ length kept
    → after ≡ kept_after kept have (take (taking window have kept) window)
    → t ≡ after_taking (taking window have kept) (have + taking window have kept) after → t.have ≤ most_record
    → 1 ≤ taking window have kept → lies_whole window have ≡ false → ReaderStep window (Matched 5) have kept t after
more-step {window} {have} {kept} {after} {t} inside room f e most some lies =
    let n : ℕ = taking window have kept in
    let long : length after ≡ length kept = ap (λ (l : List ℕ). length l) f ∙ length-kept kept have (take n window) room in
    let follows : Follows window (Matched 5) have kept (after_taking n (have + n) after) after =
    subst (λ (l : List ℕ). Follows window (Matched 5) have kept (after_taking n (have + n) l) l) (sym f) (more-follows window have kept inside room) in
    step-done e refl (within_more window n (have + n) after (omega arith) (omega arith) (omega (arith, long)) (rw e at most)) long follows
    (next_more window have kept lies ∙ ap (after_taking n (have + n)) (sym f)) (kept_more window have kept lies ∙ sym f)
