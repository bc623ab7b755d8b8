-- Runs over bytes: windows of any split give one run; bytes that make a record whole, or not yet.
use Prim.Native.Nat.{ℕ, suc, ◌+◌, ◌≤◌, ◌<◌}
use mathlib.Core.Path.{◌≡◌, refl, ap, ◌∙◌}
use mathlib.Core.Bool.{Bool, true, false, ◌&&◌}
use mathlib.Core.List.{List, [], ◌∷◌, ◌++◌}
use native.Mathlib.Decide.{dec_lt}
use native.Mathlib.Omega.{arith}
use borrow.Author.Tests.{leb-true, ne_eqb, eq-eqb, le-leb, lt-ltb, le-ltb}
use lib.ListN.{length, take, drop, length-append}
use lib.Seq.{append_snoc, length-take-le, get_or-take, take-append-add}
use lib.Dec.{eqb, leb}
use Rattle.wire.specs.Numbers.{word_at}
use Rattle.session_file.specs.Session.{Run, run, is_whole, recorded, matched_by, grown, taken}
use Rattle.session_file.specs.Plain.{Cut}

-- Rule 9.6: bytes behind others, taken as they come.
pub taken-append : (r : Run) (a b : List ℕ) → taken r (a ++ b) ≡ taken (taken r a) b
unfolding taken
taken-append r [] b = refl
taken-append r (x ∷ a) b = taken-append (grown r x) a b

-- ---- Records.

pub not-whole : (h : List ℕ) → Cut h → is_whole h ≡ false
unfolding is_whole
not-whole h c = go (leb 2 (length h)) refl
  where
    go : (b : Bool) → leb 2 (length h) ≡ b → (b && eqb (length h) (2 + word_at h 0)) ≡ false
    go false e = refl
    go true e =
        let short = c.short (leb-true 2 (length h) e) in
        ne_eqb (length h) (2 + word_at h 0) (λ q. omega arith)

pub recorded-cut : (ps : List (List ℕ)) (h : List ℕ) → Cut h → recorded ps h ≡ run 5 ps h
unfolding recorded
recorded-cut ps h c = rw (not-whole h c)

pub recorded-whole : (ps : List (List ℕ)) (h : List ℕ) → 2 ≤ length h → length h ≡ 2 + word_at h 0
    → recorded ps h ≡ run 5 (ps ++ (drop 2 h ∷ [])) []
unfolding recorded is_whole
recorded-whole ps h l e = rw (le-leb 2 (length h) l, eq-eqb (length h) (2 + word_at h 0) e)

-- A front of bytes that go no further than one record is cut.
pub cut-front : (l : List ℕ) (k : ℕ) → k ≤ length l → (2 ≤ k → k < 2 + word_at l 0) → Cut (take k l)
cut-front l k le h =
    let long = length-take-le k l le in
    record {
      short =
          λ two.
          let k2 : 2 ≤ k = omega (arith, long) in
          let low = get_or-take k l 0 0 (omega arith) in
          let high = get_or-take k l 1 0 (omega arith) in
          omega (arith, h k2, low, high, long);
    }

-- Bytes taken one by one, of which all but the last leave the record cut.
taken-record : (ps : List (List ℕ)) (h : List ℕ) (b : ℕ) (part : List ℕ)
    → ((k : ℕ) → k < length part → Cut (h ++ take (suc k) (b ∷ part)))
    → taken (run 5 ps h) (b ∷ part) ≡ recorded ps (h ++ b ∷ part)
unfolding taken grown
taken-record ps h b [] c = refl
taken-record ps h b (d ∷ part) c =
    let now : recorded ps (h ++ (b ∷ [])) ≡ run 5 ps (h ++ (b ∷ [])) = recorded-cut ps (h ++ (b ∷ [])) (c 0 (omega arith)) in
    let rest = taken-record ps (h ++ (b ∷ [])) d part
    (λ k lt. rw (append_snoc h b (take (suc k) (d ∷ part))) (c (suc k) (omega arith))) in
    ap (λ (r : Run). taken r (d ∷ part)) now ∙ rest ∙ ap (recorded ps) (append_snoc h b (d ∷ part))

-- Rule 9.1: bytes that go no further than one record: they are put behind those it has, and it is whole or not.
pub reaches : (ps : List (List ℕ)) (h part : List ℕ) → 0 < length part
    → (2 < length (h ++ part) → length (h ++ part) ≤ 2 + word_at (h ++ part) 0) → taken (run 5 ps h) part ≡ recorded ps (h ++ part)
reaches ps h [] some fits = absurd (omega arith)
reaches ps h (b ∷ part) some fits =
    taken-record ps h b part
    (λ k lt.
    let long = length-append h (b ∷ part) in
    let e = take-append-add h (b ∷ part) (suc k) in
    rw (← e) (cut-front (h ++ b ∷ part) (length h + suc k) (omega (arith, long)) (λ two. omega (arith, fits (omega (arith, long)), long))))

-- Bytes that have reached what their length asks for, and gone no further.
pub full : (h : List ℕ) → (2 < length h → length h ≤ 2 + word_at h 0) → 2 ≤ length h → 2 + word_at h 0 ≤ length h → length h ≡ 2 + word_at h 0
full h fits two over =
    elim (dec_lt 2 (length h)) [
      | yes lt ↦ let most = fits lt in omega arith
      | no ge ↦ omega arith
    ]

-- ---- The preamble.

pub grown-preamble : (m : ℕ) (ps : List (List ℕ)) (h : List ℕ) (b : ℕ) → m < 5 → grown (run m ps h) b ≡ run (matched_by m b) ps h
unfolding grown
grown-preamble m ps h b lt = rw (ne_eqb m 5 (λ q. omega arith), lt-ltb m 5 lt)

-- Rule 9.4: a file that is spoiled stays so.
pub taken-spoiled : (m : ℕ) (ps : List (List ℕ)) (h bytes : List ℕ) → 5 < m → taken (run m ps h) bytes ≡ run m ps h
unfolding taken grown
taken-spoiled m ps h [] lt = refl
taken-spoiled m ps h (b ∷ bytes) lt =
    let same : grown (run m ps h) b ≡ run m ps h = rw (ne_eqb m 5 (λ q. omega arith), le-ltb m 5 (omega arith)) in
    ap (λ (r : Run). taken r bytes) same ∙ taken-spoiled m ps h bytes lt
