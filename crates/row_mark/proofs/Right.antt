-- A mark is right bit by bit exactly if it is the right mark, of maps that hold the shape's points; then its count and its lowest row are those of the
-- rows that moved.
use Prim.Native.Nat.{ℕ, zero, suc, ◌+◌, ◌*◌, ◌/◌, ◌%◌, ◌≤◌, ◌<◌}
use mathlib.Core.Path.{◌≡◌, refl, sym, ap, subst, ◌∙◌}
use mathlib.Core.Logic.{◌↔◌}
use mathlib.Core.Bool.{Bool, true, false, ◌&&◌, true≢false}
use mathlib.Core.List.{List, [], ◌∷◌}
use native.Mathlib.Decide.{ℕ_discrete, dec_lt}
use native.Mathlib.Nat.{zero-add}
use native.Mathlib.Numerals.{one-add}
use native.Mathlib.Omega.{arith}
use borrow.Author.Tests.{eq-eqb, ne_eqb, eqb-true, lt-ltb, le-ltb}
use lib.ListN.{length, drop, get_or, length-take, length-drop}
use lib.Seq.{get_or-take, get_or-drop}
use lib.Dec.{eqb, ltb}
use Rattle.row_mark.specs.Bits.{bits_of, bit_at, count_true, first_true}
use Rattle.row_mark.specs.Rows.{differ, row_moved, right_mark}
use Rattle.row_mark.specs.Right.{Moved, RightFor, LowestMoved, MovedFrom, RowsCounted}
use Rattle.row_mark.proofs.Bits.{bit-at, length-bits, first-few}
use Rattle.row_mark.proofs.Rows.{row_of, each_at, row_room}

-- ---- Rows that differ.

record Other (xs ys : List ℕ) : Type 0 where
  at : ℕ
  inside : at < length xs
  differs : get_or xs at 0 ≡ get_or ys at 0 → ⊥

other : (xs ys : List ℕ) → differ xs ys ≡ true → Other xs ys
unfolding differ
other [] ys t = absurd (true≢false (sym t))
other (x ∷ xs) [] t = absurd (true≢false (sym t))
other (x ∷ xs) (y ∷ ys) t = go (other xs ys) (ℕ_discrete x y)
  where
    go : (differ xs ys ≡ true → Other xs ys) → Dec (x ≡ y) → Other (x ∷ xs) (y ∷ ys)
    go rest (no e) = record { at = 0; inside = omega arith; differs = e }
    go rest (yes e) = let o = rest (rw (eq-eqb x y e) at t) in record { at = suc o.at; inside = omega (arith, o.inside); differs = o.differs }

none_other : (xs ys : List ℕ) → differ xs ys ≡ false → length xs ≡ length ys → (i : ℕ) → get_or xs i 0 ≡ get_or ys i 0
unfolding differ
none_other [] [] f l i = refl
none_other [] (y ∷ ys) f l i = absurd (omega arith)
none_other (x ∷ xs) [] f l i = absurd (omega arith)
none_other (x ∷ xs) (y ∷ ys) f l i = go (λ g. none_other xs ys g (omega arith)) (ℕ_discrete x y) i
  where
    go : (differ xs ys ≡ false → (i : ℕ) → get_or xs i 0 ≡ get_or ys i 0) → Dec (x ≡ y) → (i : ℕ) → get_or (x ∷ xs) i 0 ≡ get_or (y ∷ ys) i 0
    go rest (no e) i = absurd (true≢false (rw (ne_eqb x y e) at f))
    go rest (yes e) zero = e
    go rest (yes e) (suc i) = rest (rw (eq-eqb x y e) at f) i

-- ---- The first bit of a list that is set.

first_below : (bs : List Bool) (r : ℕ) → r < first_true bs → get_or bs r false ≡ false
unfolding first_true
first_below [] r h = absurd (omega arith)
first_below (true ∷ bs) r h = absurd (omega arith)
first_below (false ∷ bs) zero h = refl
first_below (false ∷ bs) (suc r) h = first_below bs r (omega arith)

first-here : (bs : List Bool) → first_true bs < length bs → get_or bs (first_true bs) false ≡ true
unfolding first_true
first-here [] h = absurd (omega arith)
first-here (true ∷ bs) h = refl
first-here (false ∷ bs) h = first-here bs (omega arith)

-- ---- Maps that hold a shape's points.

pub record Holds (columns rows : ℕ) (staged live : List ℕ) : Type 0 where
  pub few : rows ≤ 32
  pub staged-long : 2 * (columns * rows) ≤ length staged
  pub live-long : 2 * (columns * rows) ≤ length live

module _ (columns rows : ℕ) (staged live : List ℕ) (h : Holds columns rows staged live) where
  -- An index of a row, as a point's x or y.
  number : (r i : ℕ) → 2 * (columns * r) + i ≡ 2 * (columns * r + i / 2) + i % 2
  number r i = omega arith

  row_at : (r i : ℕ) → i < 2 * columns → (m : List ℕ) → get_or (row_of columns r m) i 0 ≡ get_or m (2 * (columns * r) + i) 0
  row_at r i l m = get_or-take (2 * columns) (drop (2 * (columns * r)) m) i 0 l ∙ get_or-drop (2 * (columns * r)) m i 0

  row-long : (r : ℕ) → r < rows → (m : List ℕ) → 2 * (columns * rows) ≤ length m → length (row_of columns r m) ≡ 2 * columns
  row-long r l m long = simp (length-take, length-drop) (omega (arith, row_room columns r rows l))

  moves : (r : ℕ) → row_moved columns rows staged live r ≡ true → Moved columns rows staged live r
  moves r t = elim (dec_lt r rows) [ no n ↦ absurd (true≢false (sym shown ∙ rw (le-ltb r rows (omega arith)))) | yes l ↦ found l ]
    where
      shown : (ltb r rows && differ (row_of columns r staged) (row_of columns r live)) ≡ true
      shown = t

      found : r < rows → Moved columns rows staged live r
      found l =
          let o = other (row_of columns r staged) (row_of columns r live) (rw (lt-ltb r rows l) at shown) in
          let inside : o.at < 2 * columns = omega (arith, row-long r l staged h.staged-long, o.inside) in
          let point : ℕ = columns * r + o.at / 2 in
          let same : (x : ℕ) → x ≡ 2 * (columns * r) + o.at → get_or staged x 0 ≡ get_or live x 0 → ⊥ =
          λ x e s. o.differs (row_at r o.at inside staged ∙ rw (← e) s ∙ sym (rw (← e) at (row_at r o.at inside live))) in
          record {
            row = l;
            column = o.at / 2;
            inside = omega arith;
            differs =
                record {
                  other = λ x y.
                      elim (ℕ_discrete (o.at % 2) 0) [
                        | yes even ↦ same (2 * point) (omega arith) x
                        | no odd ↦ same (2 * point + 1) (omega arith) y
                      ];
                };
          }

  moved : (r : ℕ) → Moved columns rows staged live r → row_moved columns rows staged live r ≡ true
  moved r m = rw (lt-ltb r rows m.row) (go (differ (row_of columns r staged) (row_of columns r live)) refl)
    where
      alike : differ (row_of columns r staged) (row_of columns r live) ≡ false → (i : ℕ) → i < 2 * columns
          → get_or staged (2 * (columns * r) + i) 0 ≡ get_or live (2 * (columns * r) + i) 0
      alike f i l =
          sym (row_at r i l staged)
          ∙ none_other (row_of columns r staged) (row_of columns r live) f (row-long r m.row staged h.staged-long ∙ sym (row-long r m.row live h.live-long)) i
          ∙ row_at r i l live

      go : (b : Bool) → differ (row_of columns r staged) (row_of columns r live) ≡ b → differ (row_of columns r staged) (row_of columns r live) ≡ true
      go true e = e
      go false e =
          let x : 2 * (columns * r) + 2 * m.column ≡ 2 * (columns * r + m.column) = omega arith in
          let y : 2 * (columns * r) + (2 * m.column + 1) ≡ 2 * (columns * r + m.column) + 1 = omega arith in
          absurd
          (m.differs.other (rw x at (alike e (2 * m.column) (omega (arith, m.inside))))
          (rw y at (alike e (2 * m.column + 1) (omega (arith, m.inside)))))

  -- ---- The mark.

  -- One bit of it.
  pub row-right : (mark r : ℕ) → eqb (bit_at mark r) 1 ≡ row_moved columns rows staged live r → (bit_at mark r ≡ 1) ↔ Moved columns rows staged live r
  row-right mark r e = (λ set. moves r (sym e ∙ eq-eqb (bit_at mark r) 1 set), λ m. eqb-true (bit_at mark r) 1 (e ∙ moved r m))

  pub right-row : (mark r : ℕ) → (bit_at mark r ≡ 1) ↔ Moved columns rows staged live r → eqb (bit_at mark r) 1 ≡ row_moved columns rows staged live r
  right-row mark r right = go (row_moved columns rows staged live r) refl
    where
      go : (b : Bool) → row_moved columns rows staged live r ≡ b → eqb (bit_at mark r) 1 ≡ row_moved columns rows staged live r
      go true e = rw e (eq-eqb (bit_at mark r) 1 (right.1 (moves r e)))
      go false e = rw e (ne_eqb (bit_at mark r) 1 (λ set. true≢false (sym (moved r (right.0 set)) ∙ e)))

  -- All of it.
  pub right-for : (mark : ℕ) → bits_of 32 mark ≡ right_mark columns rows staged live → RightFor columns rows staged live mark
  right-for mark e =
      record {
        each =
            λ r l.
            let z : 0 + r ≡ r = omega arith in
            row-right mark r
            (sym (bit-at 32 mark r l) ∙ ap (λ (bs : List Bool). get_or bs r false) e ∙ (rw z at (each_at (row_moved columns rows staged live) 0 32 r l)));
      }

-- ---- How many rows, and the lowest, of a right mark.

module _ (columns rows : ℕ) (staged live : List ℕ) (mark : ℕ) (right : RightFor columns rows staged live mark) where
  -- A bit of the mark is that of its row.
  bit-means : (r : ℕ) → r < 32 → (get_or (bits_of 32 mark) r false ≡ true) ↔ Moved columns rows staged live r
  bit-means r l = (
    λ t. (right.each r l).0 (eqb-true (bit_at mark r) 1 (sym (bit-at 32 mark r l) ∙ t)),
    λ m. bit-at 32 mark r l ∙ eq-eqb (bit_at mark r) 1 ((right.each r l).1 m),
  )

  lowest-moved : LowestMoved columns rows staged live (first_true (bits_of 32 mark))
  lowest-moved =
      let few : first_true (bits_of 32 mark) ≤ 32 = omega (arith, first-few (bits_of 32 mark), length-bits 32 mark) in
      record {
        bound = few;
        none_below = λ r l m. true≢false (sym ((bit-means r (omega arith)).1 m) ∙ first_below (bits_of 32 mark) r l);
        here = λ l. (bit-means (first_true (bits_of 32 mark)) l).0 (first-here (bits_of 32 mark) (rw length-bits l));
      }

  counted : (bs : List Bool) (r : ℕ) → ((k : ℕ) → k < length bs → (get_or bs k false ≡ true) ↔ Moved columns rows staged live (r + k))
      → MovedFrom columns rows staged live r (length bs) (count_true bs)
  unfolding count_true
  counted [] r each = MovedFrom.none
  counted (b ∷ bs) r each =
      let z : r + 0 ≡ r = omega arith in
      let first : (b ≡ true) ↔ Moved columns rows staged live r = subst (λ (i : ℕ). (b ≡ true) ↔ Moved columns rows staged live i) z (each 0 (omega arith)) in
      go b first
      (counted bs (suc r)
      (λ k l. let e : r + suc k ≡ suc r + k = omega arith in subst (λ (i : ℕ). (get_or bs k false ≡ true) ↔ Moved columns rows staged live i) e (each (suc k) (omega arith))))
    where
      go : (b : Bool) → (b ≡ true) ↔ Moved columns rows staged live r → MovedFrom columns rows staged live (suc r) (length bs) (count_true bs)
          → MovedFrom columns rows staged live r (suc (length bs)) (count_true (b ∷ bs))
      go true first rest = rw one-add (MovedFrom.moved (first.0 refl) rest)
      go false first rest = rw zero-add (MovedFrom.still (λ m. true≢false (sym (first.1 m))) rest)

  pub rows-counted : RowsCounted columns rows staged live (count_true (bits_of 32 mark)) (first_true (bits_of 32 mark))
  rows-counted =
      let long = length-bits 32 mark in
      record {
        counted =
            subst (λ (n : ℕ). MovedFrom columns rows staged live 0 n (count_true (bits_of 32 mark))) long
            (counted (bits_of 32 mark) 0
            (λ k l. let z : k ≡ 0 + k = omega arith in subst (λ (i : ℕ). (get_or (bits_of 32 mark) k false ≡ true) ↔ Moved columns rows staged live i) z (bit-means k (omega arith))));
        lowest-moved = lowest-moved;
      }
