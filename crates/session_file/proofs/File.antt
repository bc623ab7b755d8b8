-- Rules 9.1, 9.3, 9.4 and 9.6: what holds of whole files, whatever their bytes and windows.
use Prim.Native.Nat.{ℕ, suc, ◌+◌, ◌-◌, ◌≤◌, ◌<◌}
use mathlib.Core.Path.{◌≡◌, refl, sym, ap, subst, ◌∙◌}
use mathlib.Core.Bool.{Bool, true, false, cond}
use mathlib.Core.List.{List, [], ◌∷◌, ◌++◌, append-nil, flatten}
use native.Mathlib.Decide.{dec_lt}
use native.Mathlib.Omega.{arith}
use native.Mathlib.Numerals.{add-one}
use borrow.Author.Tests.{leb-true, eqb-true, eqb-false, le-leb}
use lib.ListN.{length, take, drop, get_or, length-append, take-append-drop}
use lib.Seq.{append_snoc, drop-cons}
use lib.Dec.{eqb, leb}
use Rattle.wire.specs.Numbers.{word_at}
use Rattle.wire.proofs.Tests.{and_left, and_right}
use Rattle.session_file.specs.Session.{Run, run, preamble, start, is_whole, recorded, matched_by, grown, taken, file_run, taken_all}
use Rattle.session_file.specs.Session.{FileRead}
use Rattle.session_file.specs.Plain.{Cut, Splits, ends, next}
use Rattle.session_file.proofs.Runs.{taken-append, recorded-cut, recorded-whole, reaches, grown-preamble, taken-spoiled}
use Rattle.session_file.proofs.Kept.{word-append}

-- ---- Windows.

-- Rule 9.6, from any run on, so that it goes by induction.
windows : (r : Run) (ws : List (List ℕ)) → taken_all r ws ≡ taken r (flatten ws)
unfolding taken flatten
windows r [] = refl
windows r (w ∷ ws) = windows (taken r w) ws ∙ sym (taken-append r w (flatten ws))

-- Rule 9.6: windows of any lengths give the run of the whole file.
pub file-split : (ws : List (List ℕ)) → taken_all start ws ≡ file_run (flatten ws)
unfolding file_run
file-split ws = windows start ws

-- ---- The preamble.

-- Rules 9.1 and 9.4: behind m right bytes of the preamble stands its rest, or the file is no session and no record is taken of it.
data Begins (m : ℕ) (bytes : List ℕ) : Type 0 where
  right : take (5 - m) bytes ≡ drop m preamble → Begins m bytes
  other : ((taken (run m [] []) bytes).matched ≡ 5 → ⊥) → (taken (run m [] []) bytes).whole ≡ [] → Begins m bytes

-- Behind all five nothing is left to compare.
at-end : (m : ℕ) (bytes : List ℕ) → m ≡ 5 → take (5 - m) bytes ≡ drop m preamble
at-end m bytes e = rw e

-- A wrong byte spoils the file for good, and one that ends too early never comes to five.
preamble-or-none : (m : ℕ) (bytes : List ℕ) → m < 5 → Begins m bytes
unfolding taken matched_by
preamble-or-none m [] lt = other (λ e. omega arith) refl
preamble-or-none m (b ∷ bytes) lt = go (preamble-or-none (suc m) bytes) (eqb b (get_or preamble m 0)) refl
  where
    after : (m' : ℕ) → matched_by m b ≡ m' → taken (run m [] []) (b ∷ bytes) ≡ taken (run m' [] []) bytes
    after m' e = ap (λ (r : Run). taken r bytes) (grown-preamble m [] [] b lt ∙ ap (λ (k : ℕ). run k [] []) e)

    then : b ≡ get_or preamble m 0 → taken (run m [] []) (b ∷ bytes) ≡ taken (run (suc m) [] []) bytes → Begins (suc m) bytes → Begins m (b ∷ bytes)
    then e f (right g) =
        let left : 5 - m ≡ suc (5 - suc m) = omega arith in
        right (rw left (cc (drop-cons preamble m 0 lt)))
    then e f (other not none) = other (λ g. not (sym (ap (λ (r : Run). r.matched) f) ∙ g)) (ap (λ (r : Run). r.whole) f ∙ none)

    go : (suc m < 5 → Begins (suc m) bytes) → (t : Bool) → eqb b (get_or preamble m 0) ≡ t → Begins m (b ∷ bytes)
    go rec false e =
        let f = after 6 (rw e) ∙ taken-spoiled 6 [] [] bytes (omega arith) in
        other (λ g. omega (arith, ap (λ (r : Run). r.matched) f)) (ap (λ (r : Run). r.whole) f)
    go rec true e =
        then (eqb-true b (get_or preamble m 0) e) (after (suc m) (rw (e, add-one m)))
        (elim (dec_lt m 4) [
          | yes more ↦ rec (omega arith)
          | no ge ↦ right (at-end (suc m) bytes (omega arith))
        ])

-- Rule 9.1: with the preamble, the records begin behind it.
behind : (file : List ℕ) → take 5 file ≡ preamble → file_run file ≡ taken (run 5 [] []) (drop 5 file)
unfolding file_run taken grown matched_by
behind file e = ap (taken start) (sym (take-append-drop 5 file) ∙ ap (λ (l : List ℕ). l ++ drop 5 file) e)

-- ---- Records.

-- Rule 9.1: a record that is whole, as facts of its bytes.
whole-facts : (l : List ℕ) → is_whole l ≡ true → (2 ≤ length l) × (length l ≡ 2 + word_at l 0)
unfolding is_whole
whole-facts l e =
    let a = leb 2 (length l) in
    let b = eqb (length l) (2 + word_at l 0) in
    (leb-true 2 (length l) (and_left a b e), eqb-true (length l) (2 + word_at l 0) (and_right a b e))

-- Rule 9.3: one byte more leaves a cut record cut, or makes it whole: it cannot go past its length.
cut-next : (h : List ℕ) (b : ℕ) → Cut h → is_whole (h ++ (b ∷ [])) ≡ false → Cut (h ++ (b ∷ []))
unfolding is_whole
cut-next h b c e =
    record {
      short =
          λ two.
          let long = length-append h (b ∷ []) in
          let not-all = eqb-false (length (h ++ (b ∷ []))) (2 + word_at (h ++ (b ∷ [])) 0) (rw (le-leb 2 (length (h ++ (b ∷ []))) two) at e) in
          elim (dec_lt (length h) 2) [
            | yes lt ↦ omega (arith, long, not-all)
            | no ge ↦ omega (arith, long, not-all, c.short (omega arith), word-append h (b ∷ []) (omega arith))
          ];
    }

-- Rule 9.1: a whole record before bytes that split.
front : (l rest : List ℕ) (packets : List (List ℕ)) (h : List ℕ) → 2 ≤ length l → length l ≡ 2 + word_at l 0 → Splits rest packets h
    → Splits (l ++ rest) (drop 2 l ∷ packets) h
front [] rest packets h two e s = absurd (omega arith)
front (x ∷ []) rest packets h two e s = absurd (omega arith)
front (x ∷ y ∷ l) rest packets h two e s = next {low = x} {high = y} {packet = l} (omega arith) s

-- Rules 9.1 and 9.3: what a run with the packets ps has read of bytes that stand behind h: these are what h and the bytes split into.
record Reads (ps : List (List ℕ)) (h bytes : List ℕ) (r : Run) : Type 0 where
  packets : List (List ℕ)
  five : r.matched ≡ 5
  adds : r.whole ≡ ps ++ packets
  split : Splits (h ++ bytes) packets r.under

-- Every byte leaves the record under way cut, or ends it: then the next begins with nothing under way.
splits-on : (ps : List (List ℕ)) (h bytes : List ℕ) → Cut h → Reads ps h bytes (taken (run 5 ps h) bytes)
unfolding taken grown recorded
splits-on ps h [] c =
    record {
      packets = [];
      five = refl;
      adds = sym (append-nil ps);
      split = subst (λ (l : List ℕ). Splits l [] h) (sym (append-nil h)) (ends c);
    }
splits-on ps h (b ∷ bytes) c = go (λ ps' h' c'. splits-on ps' h' bytes c') (is_whole (h ++ (b ∷ []))) refl
  where
    l : List ℕ
    l = h ++ (b ∷ [])

    go : ((ps' : List (List ℕ)) (h' : List ℕ) → Cut h' → Reads ps' h' bytes (taken (run 5 ps' h') bytes)) → (t : Bool) → is_whole l ≡ t
        → Reads ps h (b ∷ bytes) (taken (cond t (run 5 (ps ++ (drop 2 l ∷ [])) []) (run 5 ps l)) bytes)
    go rec false e =
        let r = rec ps l (cut-next h b c e) in
        record {
          packets = r.packets;
          five = r.five;
          adds = r.adds;
          split = rw (← append_snoc h b bytes) r.split;
        }
    go rec true e =
        let r = rec (ps ++ (drop 2 l ∷ [])) [] (record { short = λ two. absurd (omega arith) }) in
        let facts = whole-facts l e in
        record {
          packets = drop 2 l ∷ r.packets;
          five = r.five;
          adds = r.adds ∙ append_snoc ps (drop 2 l) r.packets;
          split = rw (← append_snoc h b bytes) (front l bytes r.packets _ facts.0 facts.1 r.split);
        }

-- Rules 9.1 and 9.3: a run goes the way that the bytes split, so there is but one.
follows : {bytes : List ℕ} {packets : List (List ℕ)} {h : List ℕ} (ps : List (List ℕ)) → Splits bytes packets h
    → taken (run 5 ps []) bytes ≡ run 5 (ps ++ packets) h
unfolding taken
follows ps (ends {h = []} c) = ap (λ (qs : List (List ℕ)). run 5 qs []) (sym (append-nil ps))
follows ps (ends {h = b ∷ h} c) =
    reaches ps [] (b ∷ h) (omega arith) (λ two. omega (arith, c.short (omega arith))) ∙ recorded-cut ps (b ∷ h) c
    ∙ ap (λ (qs : List (List ℕ)). run 5 qs (b ∷ h)) (sym (append-nil ps))
follows ps (next {low} {high} {packet} {rest} {packets} {h} e s) =
    let l : List ℕ = low ∷ high ∷ packet in
    taken-append (run 5 ps []) l rest
    ∙ ap (λ (r : Run). taken r rest) (reaches ps [] l (omega arith) (λ two. omega arith) ∙ recorded-whole ps l (omega arith) (omega arith))
    ∙ follows (ps ++ (packet ∷ [])) s ∙ ap (λ (qs : List (List ℕ)). run 5 qs h) (append_snoc ps packet packets)

-- ---- Files.

-- Rules 9.1, 9.3 and 9.4: with the preamble, and without it.
module _ (file : List ℕ) where
  with-preamble : take 5 file ≡ preamble → Reads [] [] (drop 5 file) (file_run file)
  with-preamble e =
      subst (λ (r : Run). Reads [] [] (drop 5 file) r) (sym (behind file e))
      (splits-on [] [] (drop 5 file) (record { short = λ two. absurd (omega arith) }))

  only : take 5 file ≡ preamble → {packets : List (List ℕ)} {h : List ℕ} → Splits (drop 5 file) packets h → file_run file ≡ run 5 packets h
  only e s = behind file e ∙ follows [] s

  matched-right : Begins 0 file → (file_run file).matched ≡ 5 → take 5 file ≡ preamble
  unfolding file_run
  matched-right (right e) f = e
  matched-right (other not none) f = absurd (not f)

  no_record : Begins 0 file → (take 5 file ≡ preamble → ⊥) → (file_run file).whole ≡ []
  unfolding file_run
  no_record (right e) wrong = absurd (wrong e)
  no_record (other not none) wrong = none

-- Rules 9.1, 9.3 and 9.4, of every file.
pub file-read : (file : List ℕ) → FileRead file
file-read file =
    let first : Begins 0 file = preamble-or-none 0 file (omega arith) in
    record {
      session = (matched-right file first, λ e. (with-preamble file e).five);
      splits =
          λ e.
          let r = with-preamble file e in
          subst (λ (qs : List (List ℕ)). Splits (drop 5 file) qs (file_run file).under) (sym r.adds) r.split;
      only =
          λ e packets h s.
          let r = only file e s in
          (ap (λ (x : Run). x.whole) r, ap (λ (x : Run). x.under) r);
      none = no_record file first;
    }
