-- The rows that the code works out give the mark after the write; and what is told of a mark.
use Prim.Native.Nat.{ℕ, ◌+◌, ◌-◌, ◌*◌, ◌^◌, ◌≤◌, ◌<◌}
use mathlib.Core.Path.{◌≡◌, refl, sym, ap, ◌∙◌}
use mathlib.Core.Bool.{Bool, true, false}
use mathlib.Core.List.{List, [], ◌∷◌}
use native.Mathlib.Decide.{ℕ_discrete, dec_lt}
use native.Mathlib.Nat.{div-lt_iff_lt-mul, mul-le-mul_left, zero-div}
use native.Mathlib.Omega.{arith}
use borrow.Author.Tests.{ne_eqb, lt-ltb, le-ltb, ltb-false}
use lib.ListN.{length, get_or}
use lib.Seq.{paste}
use lib.Dec.{eqb}
use Rattle.std.specs.Prelude.{Option, Some, None, Result, Ok, Err}
use Rattle.std.specs.Bool.{then_some}
use Rattle.std.specs.Int.{to_le_bytes, w32}
use Rattle.wire.specs.declared.refusal.Refusal.{Refusal}
use Rattle.wire.specs.declared.refusal.Refusal.TheVariants.{LentWrong}
use Rattle.wire.specs.Numbers.{byte_at, long_at}
use Rattle.wire.specs.Tables.{long_bytes}
use Rattle.row_mark.specs.Bits.{bits_of, of_bits, count_true, first_true, first_set}
use Rattle.row_mark.specs.Rows.{row_differs, row_moved, right_mark, refreshed}
use Rattle.row_mark.proofs.Bits.{length-bits, bit-at, number-back, count_ones, first-set, first-inside, count-few, first-few}
use Rattle.row_mark.proofs.Rows.{length-refreshed, refreshed-in, refreshed-behind, refreshed-same, each_right}
use Rattle.row_mark.proofs.Right.{rows-counted}
use Rattle.settings.specs.Layout.{block_size, staged_shape, columns_at, rows_at, mark_place, mark_size}
use Rattle.settings.specs.Ranges.{settings_right}
use Rattle.opcode.specs.Options.{is_read}
use Rattle.opcode.specs.Allowed.{WriteData}
use Rattle.packet.specs.Points.{start_of, count_of}
use Rattle.front_end.specs.declared.mark.Fresh.{Fresh}
use Rattle.front_end.specs.declared.mark.RowCount.{RowCount}
use Rattle.front_end.specs.Mark.{mark_at, mark_bits, first_touched, last_touched, mark_after, marked_block, RowsOut, rows_out, rows_told}
use Rattle.front_end.specs.Rows.{row_count, RowsAnswerPlain}
use Rattle.front_end.specs.Demands.{RowsPromised}
use Rattle.front_end.specs.Internal.{Granted, MarkGranted, RowsNamed, fresh_of, rows_worked_out, RowsFresh}
use Rattle.front_end.specs.Commands.{block_after, runs_past}
use Rattle.front_end.proofs.Bounds.{counts, write-data}
use Rattle.front_end.proofs.InRange.{settings-stay}

-- ---- 34h.

-- A row below the last of the shape counts if it differs.
within-shape : (columns rows : ℕ) (staged live : List ℕ) (r : ℕ) → r < rows → row_moved columns rows staged live r ≡ row_differs columns staged live r
within-shape columns rows staged live r h = rw (lt-ltb r rows h)

pub last_row : {d block : List ℕ} → MarkGranted 0x34 d block → last_touched (columns_at block staged_shape) d < rows_at block staged_shape
last_row {d} {block} g =
    let c = counts block g.settings in
    let p = g.placed refl in
    let turned : columns_at block staged_shape * rows_at block staged_shape ≡ rows_at block staged_shape * columns_at block staged_shape = omega arith in
    let below : start_of d + count_of d - 1 < rows_at block staged_shape * columns_at block staged_shape = omega (arith, p.0, p.1) in
    (div-lt_iff_lt-mul {k = columns_at block staged_shape} (omega (arith, c.columns-some))).1 below

pub touched-fresh : {d block : List ℕ} {r : Fresh} → MarkGranted 0x34 d block → RowsNamed d block r → RowsFresh 0x34 d block (Some r)
unfolding mark_after rows_worked_out
touched-fresh {d} {block} {r} g n =
    let c = counts block g.settings in
    let columns : ℕ = columns_at block staged_shape in
    let rows : ℕ = rows_at block staged_shape in
    let last = last_row g in
    record {
      outcome = joined n.mark n.first n.end n.columns;
      changes = refl;
      rows =
          record {
            few = omega (arith, n.end, last, c.rows);
            room = rw (n.columns, n.end) (omega (arith, mul-le-mul_left columns last, c.points));
            whole = λ staged live.
                rw (n.columns, n.first, n.end, n.mark)
                (refreshed-same (row_moved columns rows staged live) (row_differs columns staged live) (first_touched columns d) (last_touched columns d + 1 - first_touched columns d) (mark_bits block)
                (λ k from to. within-shape columns rows staged live k (omega (arith, last))));
          };
    }
  where
    joined : {m m' f f' e e' n n' : ℕ} → m ≡ m' → f ≡ f' → e ≡ e' → n ≡ n' → Some (fresh_of m f e n) ≡ Some (fresh_of m' f' e' n')
    joined a b c d = cc

-- ---- 35h.

-- No bit of 0 is set.
zero_bit : (k : ℕ) → k < 32 → get_or (bits_of 32 0) k false ≡ false
zero_bit k h = bit-at 32 0 k h ∙ rw zero-div

all-fresh : (columns rows : ℕ) (staged live : List ℕ) → rows ≤ 32 → right_mark columns rows staged live ≡ refreshed (row_differs columns staged live) 0 rows (bits_of 32 0)
all-fresh columns rows staged live few =
    sym (each_right (row_moved columns rows staged live) 32 (refreshed (row_differs columns staged live) 0 rows (bits_of 32 0))
    (length-refreshed (row_differs columns staged live) 0 rows (bits_of 32 0) ∙ length-bits 32 0) at)
  where
    at : (k : ℕ) → k < 32 → get_or (refreshed (row_differs columns staged live) 0 rows (bits_of 32 0)) k false ≡ row_moved columns rows staged live k
    at k h =
        elim (dec_lt k rows) [
          | yes l ↦
              refreshed-in (row_differs columns staged live) 0 rows (bits_of 32 0) k (omega arith) (omega arith) (rw length-bits h)
              ∙ sym (within-shape columns rows staged live k l)
          | no l ↦ refreshed-behind (row_differs columns staged live) 0 rows (bits_of 32 0) k (omega arith) ∙ zero_bit k h ∙ rw (le-ltb k rows (omega arith))
        ]

pub shape-fresh : {d block : List ℕ} {rows columns : ℕ} → settings_right block ≡ true → rows ≡ rows_at block staged_shape
    → columns ≡ columns_at block staged_shape → RowsFresh 0x35 d block (Some (fresh_of 0 0 rows columns))
unfolding mark_after rows_worked_out
shape-fresh {d} {block} right e f =
    let b = counts block right in
    let all : rows_at block staged_shape - 0 ≡ rows_at block staged_shape = omega arith in
    rw (e, f)
    (record {
      outcome = refl;
      changes = refl;
      rows =
          record {
            few = omega (arith, b.rows);
            room = omega (arith, b.points);
            whole = λ staged live. rw all (all-fresh (columns_at block staged_shape) (rows_at block staged_shape) staged live b.rows);
          };
    })

-- ---- Any other write.

-- 36h with 1.
abbrev one : List ℕ → Bool
one d = eqb (byte_at d 0) 1

pub clear-fresh : (d block : List ℕ) → RowsFresh 0x36 d block (then_some (one d) (fresh_of 0 0 0 0))
unfolding mark_after rows_worked_out bits_of refreshed
clear-fresh d block = go (one d) refl
  where
    go : (t : Bool) → one d ≡ t → RowsFresh 0x36 d block (then_some (one d) (fresh_of 0 0 0 0))
    go true e =
        rw e
        (record {
          outcome = rw e;
          changes = rw e;
          rows = record { few = omega arith; room = omega arith; whole = λ staged live. refl };
        })
    go false e = rw e (record { outcome = rw e; changes = rw e; rows = tt })

pub rest-fresh : (op : ℕ) (d block : List ℕ) → (op ≡ 0x34 → ⊥) → (op ≡ 0x35 → ⊥) → (op ≡ 0x36 → ⊥) → RowsFresh op d block None
unfolding rows_worked_out
rest-fresh op d block a b c =
    record {
      outcome = rw (ne_eqb op 0x34 a, ne_eqb op 0x35 b, ne_eqb op 0x36 c);
      changes = rw (ne_eqb op 0x34 a, ne_eqb op 0x35 b, ne_eqb op 0x36 c);
      rows = tt;
    }

-- ---- The four bytes.

pub mark-stored : (mark : ℕ) → mark < 2 ^ 32 → to_le_bytes w32 mark ≡ long_bytes (mark ∷ [])
mark-stored mark h = joined (omega arith) (omega arith) refl (omega arith)
  where
    joined : {a a' b b' c c' d d' : ℕ} → a ≡ a' → b ≡ b' → c ≡ c' → d ≡ d' → a ∷ b ∷ c ∷ d ∷ [] ≡ a' ∷ b' ∷ c' ∷ d' ∷ []
    joined e f g h = cc

-- ---- What is told.

-- Four bytes are a number of 32 bits.
pub mark-small : (block : List ℕ) → ((k : ℕ) → get_or block k 0 < 256) → long_at block mark_place < 2 ^ 32
mark-small block h = omega (arith, h 865, h 866, h 867, h 868)

pub rows-promised : (block : List ℕ) → long_at block mark_place < 2 ^ 32 → (status count lowest : ℕ) → rows_out status count lowest ≡ rows_told block
    → RowsPromised block status count lowest
unfolding rows_told
rows-promised block small status count lowest same = go (ℕ_discrete (length block) block_size)
  where
    go : Dec (length block ≡ block_size) → RowsPromised block status count lowest
    go (yes e) =
        let told : rows_out status count lowest ≡ rows_out 0 (count_true (mark_bits block)) (first_true (mark_bits block)) = same ∙ rw e in
        let none : status ≡ 0 = ap (λ (o : RowsOut). o.status) told in
        let many : count ≡ count_true (mark_bits block) = ap (λ (o : RowsOut). o.count) told in
        let low : lowest ≡ first_true (mark_bits block) = ap (λ (o : RowsOut). o.lowest) told in
        record {
          outcome = same;
          plain =
              record {
                accepted = λ z. none;
                wrong-length = λ wrong. absurd (wrong e);
                marked = λ z. many ∙ sym (count_ones 32 (mark_at block) small);
                lowest-marked = λ z. low ∙ sym (first-set 32 (mark_at block));
              };
          moved = λ z staged live right.
              let all = rows-counted (columns_at block staged_shape) (rows_at block staged_shape) staged live (mark_at block) right in
              rw (many, low) (record { counted = all.counted; lowest-moved = all.lowest-moved });
        }
    go (no e) =
        let told : rows_out status count lowest ≡ rows_out 1 0 0 = same ∙ rw (ne_eqb (length block) block_size e) in
        let one : status ≡ 1 = ap (λ (o : RowsOut). o.status) told in
        record {
          outcome = same;
          plain =
              record {
                accepted = λ z. absurd (e z);
                wrong-length = λ wrong. (one, ap (λ (o : RowsOut). o.count) told, ap (λ (o : RowsOut). o.lowest) told);
                marked = λ z. absurd (e z);
                lowest-marked = λ z. absurd (e z);
              };
          moved = λ z. absurd (omega arith);
        }

-- The same of the code's answer.
no-bits : {n : ℕ} → n ≡ 0 → (count_true (bits_of 32 n) ≡ 0) × (first_set (bits_of 32 n) ≡ None)
unfolding bits_of count_true first_true
no-bits e = rw e (refl, refl)

pub rows-refused : (block : List ℕ) → (length block ≡ block_size → ⊥) → RowsAnswerPlain block (Err LentWrong)
rows-refused block e =
    record {
      wrong-length = λ wrong. refl;
      none-marked = λ long. absurd (e long);
      some-marked = λ long. absurd (e long);
    }

pub rows-answered : (block : List ℕ) → long_at block mark_place < 2 ^ 32 → length block ≡ block_size → {count : ℕ} {lowest : Option ℕ}
    → count ≡ count_true (mark_bits block) → lowest ≡ first_set (mark_bits block) → RowsAnswerPlain block (Ok (row_count count lowest))
rows-answered block small e many low =
    let mark = mark_at block in
    record {
      wrong-length = λ wrong. absurd (wrong e);
      none-marked = λ long none.
          let bits = no-bits none in
          joined (many ∙ bits.0) (low ∙ bits.1);
      some-marked = λ long some.
          let inside = first-inside 32 mark small (omega (arith, some)) in
          joined (many ∙ sym (count_ones 32 mark small))
          (low ∙ rw (first-set 32 mark, length-bits 32 mark, lt-ltb (first_true (bits_of 32 mark)) 32 inside) refl);
    }
  where
    joined : {n n' : ℕ} {l l' : Option ℕ} → n ≡ n' → l ≡ l' → ◌≡◌ {A = Result RowCount Refusal} (Ok (row_count n l)) (Ok (row_count n' l'))
    joined n l = cc

-- Small numbers all of them.
pub record FewRows (o : RowsOut) : Type 0 where
  pub status : o.status ≤ 1
  pub count : o.count ≤ 32
  pub lowest : o.lowest ≤ 32

pub told-few : (block : List ℕ) → FewRows (rows_told block)
unfolding rows_told
told-few block =
    elim (ℕ_discrete (length block) block_size) [
      | yes e ↦
          rw e
          (record {
            status = omega arith;
            count = omega (arith, count-few (mark_bits block), length-bits 32 (mark_at block));
            lowest = omega (arith, first-few (mark_bits block), length-bits 32 (mark_at block));
          })
      | no e ↦ rw (ne_eqb (length block) block_size e) (record { status = omega arith; count = omega arith; lowest = omega arith })
    ]

-- ---- What both families cite.

-- The rows worked out are the mark after the write; where none are to be, the block is as it was.
module _ {op : ℕ} {d block : List ℕ} (staged live : List ℕ) where
  pub rows-put : {r : Fresh} → RowsFresh op d block (Some r) → (mark : ℕ) → mark < 2 ^ 32
      → bits_of 32 mark ≡ refreshed (row_differs r.columns staged live) r.first (r.end - r.first) (bits_of 32 r.mark)
      → paste block mark_place (long_bytes (mark ∷ [])) mark_size ≡ marked_block op d block staged live
  unfolding marked_block
  rows-put f mark small same =
      let number : of_bits (bits_of 32 mark) ≡ mark = number-back 32 mark small in
      rw (sym f.changes, f.rows.whole staged live, ← same, number)

  pub rows_left : RowsFresh op d block None → block ≡ marked_block op d block staged live
  unfolding marked_block
  rows_left f = rw (sym f.changes)

-- An accepted write leaves a block on which the mark may be worked out.
pub mark-granted : {op o : ℕ} {d block : List ℕ} → Granted op o d block → is_read o ≡ 0 → ((k : ℕ) → get_or d k 0 < 256) → MarkGranted op d (block_after op d block)
unfolding block_after runs_past
mark-granted {op} {o} {d} {block} g w bytes =
    record {
      settings = settings-stay op o d block bytes w g.judged g.long g.settings;
      placed = λ e. rw e (some (write-data 0x34 o d w (rw e at g.judged)), ltb-false _ _ (rw (e, ne_eqb (is_read o) 1 (omega arith)) at g.fits));
    }
  where
    some : {d : List ℕ} → WriteData 0x34 d → 1 ≤ count_of d
    some (WriteData.points h e) = omega arith
