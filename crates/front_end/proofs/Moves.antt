-- What becomes of the row mark: a 34h write leaves the bits of its rows right and no other changed, 35h leaves all right, apply clears them, and all else leaves
-- the mark, the shape and the maps. So what is right stays right.
use Prim.Native.Nat.{ℕ, ◌+◌, ◌-◌, ◌*◌, ◌/◌, ◌%◌, ◌≤◌, ◌<◌, min}
use mathlib.Core.Path.{◌≡◌, refl, sym, ap, ap₂, ◌∙◌}
use mathlib.Core.Logic.{⊎_elim}
use mathlib.Core.Bool.{Bool, false, ◌&&◌, and-false}
use mathlib.Core.List.{List, [], ◌∷◌}
use native.Mathlib.Decide.{ℕ_discrete, dec_le, dec_lt}
use native.Mathlib.Nat.{mod-add-div, mul-le-mul_left}
use native.Mathlib.Omega.{arith}
use borrow.Author.Tests.{eq-eqb, ne_eqb, eqb-true, le-ltb, ltb-false}
use lib.ListN.{length, drop, get_or, replicate, length-drop, length-replicate, get_or-replicate}
use lib.Seq.{paste, length-paste, get_or-drop}
use lib.Dec.{eqb}
use Rattle.wire.specs.Numbers.{byte_at, long_at}
use Rattle.wire.specs.Tables.{long_bytes}
use Rattle.wire.proofs.Copies.{same-part, paste-there, paste-apart, before-paste}
use Rattle.row_mark.specs.Bits.{of_bits, bit_at}
use Rattle.row_mark.specs.Rows.{mark_rows, differ, row_moved, refreshed, each_from}
use Rattle.row_mark.specs.Right.{Touches}
use Rattle.row_mark.proofs.Bits.{bits_back, bit-at, length-bits}
use Rattle.row_mark.proofs.Rows.{row_of, length-refreshed, length-each, row_room, each_at}
use Rattle.row_mark.proofs.Right.{Holds, row-right, right-row}
use Rattle.row_mark.proofs.Touched.{touched-first, touched-last, between, apart, touched-bit, untouched-bit}
use Rattle.settings.specs.Layout.{block_size, staged_shape, shape_size, enable, live_shape, settings_end, mark_place, mark_size, columns_at, rows_at}
use Rattle.opcode.specs.Options.{is_read, options_in}
use Rattle.opcode.specs.Allowed.{WriteData}
use Rattle.packet.specs.Frame.{header_of, opcode_of, data_of}
use Rattle.packet.specs.Points.{write_points, start_of, points_of, count_of}
use Rattle.front_end.specs.State.{State}
use Rattle.front_end.specs.Commands.{block_after, written, write_shape, apply_live, runs_past}
use Rattle.front_end.specs.Mark.{mark_at, mark_bits, with_mark, mark_after, marked_block, marked}
use Rattle.front_end.specs.Step.{step}
use Rattle.front_end.specs.Rows.{RowRight}
use Rattle.front_end.proofs.Bounds.{counts, write-data, points-write}
use Rattle.front_end.proofs.Changes.{Passed, passed, Change, changed, enabled, enabled-long}
use Rattle.front_end.proofs.Kept.{tail-changed}
use Rattle.front_end.proofs.Live.{live_written}
use Rattle.front_end.specs.Plain.{StateLent}
use Rattle.front_end.proofs.Demands.{Running}
use Rattle.front_end.proofs.InRange.{written-tables, shape-stays}
use Rattle.front_end.proofs.Accepting.{alone}
use Rattle.front_end.proofs.Marks.{front-byte}

-- ---- The mark, written and read.

-- A number in four bytes.
number-kept : (n : ℕ) (block : List ℕ) → length block ≡ block_size → long_at (paste block mark_place (long_bytes (n ∷ [])) mark_size) mark_place ≡ n
number-kept n block l =
    let there = paste-there block (long_bytes (n ∷ [])) mark_place mark_size (omega arith) (omega arith) in
    rw (there.each 0 (omega arith), there.each 1 (omega arith), there.each 2 (omega arith), there.each 3 (omega arith))
    (rw (mod-add-div (n % 65536) 256, mod-add-div (n / 65536) 256, mod-add-div n 65536))

pub mark-kept : (mark : List Bool) (block : List ℕ) → length mark ≡ mark_rows → length block ≡ block_size → mark_bits (with_mark mark block) ≡ mark
mark-kept mark block l b = rw (number-kept (of_bits mark) block b) (rw l at (bits_back mark))

-- Two bits are equal if they are set alike.
pub same_bit : (m n r : ℕ) → eqb (bit_at m r) 1 ≡ eqb (bit_at n r) 1 → bit_at m r ≡ bit_at n r
same_bit m n r e =
    elim (ℕ_discrete (bit_at m r) 1) [
      | yes a ↦ a ∙ sym (eqb-true (bit_at n r) 1 (sym e ∙ eq-eqb (bit_at m r) 1 a))
      | no a ↦
          elim (ℕ_discrete (bit_at n r) 1) [
            | yes b ↦ absurd (a (eqb-true (bit_at m r) 1 (e ∙ eq-eqb (bit_at n r) 1 b)))
            | no b ↦ omega arith
          ]
    ]

-- ---- Rows that a write leaves.

-- Numbers written apart from a row leave it.
row-left : (columns r start : ℕ) (pts staged : List ℕ) → 2 * start + length pts ≤ length staged → 2 * (columns * r + columns) ≤ length staged
    → min (2 * (columns * r) + 2 * columns - 2 * start) (2 * start + length pts - 2 * (columns * r)) ≡ 0
    → row_of columns r (write_points start pts staged) ≡ row_of columns r staged
row-left columns r start pts staged room long off =
    let all = length-paste staged (2 * start) pts (length pts) room (omega arith) in
    same-part (paste-apart staged pts (2 * start) (length pts) room (omega arith) (2 * (columns * r)) (2 * columns) off) (omega (arith, all)) (omega arith)

-- Rows of equal maps have not moved.
same-still : (xs : List ℕ) → differ xs xs ≡ false
unfolding differ
same-still [] = refl
same-still (x ∷ xs) = rw (eq-eqb x x refl) (same-still xs)

-- No command but 35h writes over the staged shape.
shape-kept : {op : ℕ} {d : List ℕ} → (op ≡ 0x35 → ⊥) → Change op d → (block : List ℕ) → length block ≡ block_size → (k : ℕ) → k < shape_size
    → get_or (block_after op d block) (staged_shape + k) 0 ≡ get_or block (staged_shape + k) 0
shape-kept other (Change.none e) block l k h = rw (e block)
shape-kept other (Change.copied from to n c e) block l k h =
    rw (e block) ((paste-apart block from to n (omega arith) c.long staged_shape shape_size (c.off-staged other)).each k h)
shape-kept other (Change.applied a v e) block l k h =
    let long = enabled-long block l in
    rw (e block)
    (before-paste (enabled block) (drop staged_shape block) live_shape shape_size (omega arith) (rw length-drop (omega arith)) (staged_shape + k) (omega arith)
    ∙ before-paste block (1 ∷ []) enable 1 (omega arith) (omega arith) (staged_shape + k) (omega arith))

-- ---- A state in range holds its shape's points.

pub holds : {s : State} {reply : List ℕ} → Running s reply → Holds (columns_at s.block staged_shape) (rows_at s.block staged_shape) s.staged s.live
holds {s} l =
    let c = counts s.block l.settings in
    let t = l.tables in
    record { few = c.rows; staged-long = omega (arith, c.points, t.staged); live-long = omega (arith, c.points, t.live) }

-- ---- An accepted write.

module _ (p : List ℕ) (s : State) (reply : List ℕ) (none : (step p s reply).status ≡ 0) (write : is_read (header_of p) ≡ 0) where
  -- What its command leaves, and then the pass.
  abbrev after : State
  after = written (opcode_of p) (data_of p) s

  abbrev left : State
  left = marked (opcode_of p) (data_of p) after

  taken : Passed p s reply
  unfolding step
  taken = passed p s reply none

  tables_after : StateLent after
  tables_after =
      written-tables (opcode_of p) (options_in (header_of p)) (data_of p) s reply (omega arith) taken.command.judged taken.command.within taken.lent

  by : Change (opcode_of p) (data_of p)
  by = changed (opcode_of p) (options_in (header_of p)) (data_of p) (omega arith) taken.command.judged

  -- A command other than 35h leaves the shape; 35h puts one in range.
  shape_same : (opcode_of p ≡ 0x35 → ⊥)
      → (columns_at after.block staged_shape ≡ columns_at s.block staged_shape) × (rows_at after.block staged_shape ≡ rows_at s.block staged_shape)
  unfolding written
  shape_same other =
      let byte = shape-kept other by s.block taken.lent.tables.block in
      (rw (byte 1 (omega arith), byte 2 (omega arith)), rw (byte 3 (omega arith), byte 4 (omega arith)))

  few-after : (rows_at after.block staged_shape ≤ 32) × (columns_at after.block staged_shape * rows_at after.block staged_shape ≤ 1984)
  unfolding written block_after
  few-after =
      elim (ℕ_discrete (opcode_of p) 0x35) [
        | yes e ↦
            let w = write-data 0x35 (options_in (header_of p)) (data_of p) (omega arith) (rw e at taken.command.judged) in
            let c = counts (write_shape (data_of p) s.block) (shape-stays s.block w taken.lent.tables.block taken.lent.settings) in
            rw e (c.rows, c.points)
        | no e ↦
            let c = counts s.block taken.lent.settings in
            rw ((shape_same e).0, (shape_same e).1) (c.rows, c.points)
      ]

  untouched-shape : (columns_at left.block staged_shape ≡ columns_at after.block staged_shape) × (rows_at left.block staged_shape ≡ rows_at after.block staged_shape)
  untouched-shape =
      let a = alone p s reply none write in (
        rw (front-byte a 9 (omega arith), front-byte a 10 (omega arith)),
        rw (front-byte a 11 (omega arith), front-byte a 12 (omega arith)),
      )

  left-holds : Holds (columns_at left.block staged_shape) (rows_at left.block staged_shape) after.staged after.live
  left-holds =
      let same = untouched-shape in
      let few = few-after in
      let t = tables_after in
      rw (same.0, same.1) (record { few = few.0; staged-long = omega (arith, few.1, t.staged); live-long = omega (arith, few.1, t.live) })

  -- A bit that is the row's is right.
  bit-right : (r : ℕ) → eqb (bit_at (mark_at left.block) r) 1 ≡ row_moved (columns_at after.block staged_shape) (rows_at after.block staged_shape) after.staged after.live r
      → RowRight left r
  bit-right r e =
      let same = untouched-shape in
      row-right (columns_at left.block staged_shape) (rows_at left.block staged_shape) after.staged after.live left-holds (mark_at left.block) r
      (e ∙ ap₂ (λ (c n : ℕ). row_moved c n after.staged after.live r) (sym same.0) (sym same.1))

  -- The mark of a write that marks.
  module _ (new : List Bool) (long : length new ≡ mark_rows)
      (by : marked_block (opcode_of p) (data_of p) after.block after.staged after.live ≡ with_mark new after.block) where
    left-mark : mark_bits left.block ≡ new
    left-mark = rw by (mark-kept new after.block long tables_after.block)

    left-bit : (r : ℕ) → r < 32 → eqb (bit_at (mark_at left.block) r) 1 ≡ get_or new r false
    left-bit r h = sym (bit-at 32 (mark_at left.block) r h) ∙ ap (λ (bs : List Bool). get_or bs r false) left-mark

  -- The shape and the maps that the pass looks at.
  abbrev test : ℕ → Bool
  test = row_moved (columns_at after.block staged_shape) (rows_at after.block staged_shape) after.staged after.live

  -- ---- 35h: every row is worked out.

  pub reshaped : opcode_of p ≡ 0x35 → (r : ℕ) → r < 32 → RowRight left r
  unfolding marked_block mark_after
  reshaped is r h =
      let z : 0 + r ≡ r = omega arith in
      let by : marked_block (opcode_of p) (data_of p) after.block after.staged after.live ≡ with_mark (each_from test 0 mark_rows) after.block = rw is in
      bit-right r (left-bit (each_from test 0 mark_rows) (length-each test 0 mark_rows) by r h ∙ (rw z at (each_at test 0 mark_rows r h)))

  -- ---- 36h with 1: none is marked, and none has moved.

  module _ (is : opcode_of p ≡ 0x36) (one : byte_at (data_of p) 0 ≡ 1) where
    none-marked : marked_block (opcode_of p) (data_of p) after.block after.staged after.live ≡ with_mark (replicate mark_rows false) after.block
    unfolding marked_block mark_after
    none-marked = rw (is, one)

    pub cleared-mark : mark_at left.block ≡ 0
    unfolding of_bits
    cleared-mark = rw none-marked (number-kept 0 after.block tables_after.block)

    maps-same : after.live ≡ after.staged
    unfolding written apply_live
    maps-same = rw (is, one)

    none-moved : (r : ℕ) → test r ≡ false
    none-moved r = rw (maps-same, same-still (row_of (columns_at after.block staged_shape) r after.staged), and-false)

    applied-right : (r : ℕ) → r < 32 → RowRight left r
    applied-right r h =
        bit-right r (left-bit (replicate mark_rows false) (length-replicate mark_rows false) none-marked r h ∙ get_or-replicate mark_rows r false false h ∙ sym (none-moved r))

  -- ---- 34h: the rows that it touches.

  module _ (is : opcode_of p ≡ 0x34) where
    abbrev columns : ℕ
    columns = columns_at s.block staged_shape

    abbrev rows : ℕ
    rows = rows_at s.block staged_shape

    abbrev start : ℕ
    start = start_of (data_of p)

    abbrev count : ℕ
    count = count_of (data_of p)

    given : Running s reply
    given = taken.lent

    -- Its points, one or more, lie within the shape.
    some-points : 1 ≤ count
    some-points = go (write-data 0x34 (options_in (header_of p)) (data_of p) (omega arith) (rw is at taken.command.judged))
      where
        go : {d : List ℕ} → WriteData 0x34 d → 1 ≤ count_of d
        go (WriteData.points h e) = omega arith

    within : start + count ≤ columns * rows
    unfolding runs_past
    within =
        let o : is_read (options_in (header_of p)) ≡ 0 = omega arith in
        ltb-false _ _ (rw (is, ne_eqb (is_read (options_in (header_of p))) 1 (omega arith)) at taken.command.within)

    some-columns : 1 ≤ columns
    some-columns = omega (arith, (counts s.block given.settings).columns-some)

    same_block : after.block ≡ s.block
    unfolding written block_after
    same_block = rw is

    abbrev test34 : ℕ → Bool
    test34 = row_moved columns rows after.staged after.live

    abbrev fresh : List Bool
    fresh = refreshed test34 (start / columns) ((start + count - 1) / columns + 1 - start / columns) (mark_bits s.block)

    rows-marked : marked_block (opcode_of p) (data_of p) after.block after.staged after.live ≡ with_mark fresh after.block
    unfolding marked_block mark_after written block_after
    rows-marked = rw is

    fresh-long : length fresh ≡ mark_rows
    fresh-long = length-refreshed test34 _ _ _ ∙ length-bits mark_rows (mark_at s.block)

    -- A touched row is a row of the shape.
    touched-row : (r : ℕ) → Touches columns start count r → r < rows
    touched-row r t =
        elim (dec_le rows r) [
          | yes h ↦ absurd (omega (arith, mul-le-mul_left columns h, t, within))
          | no h ↦ omega arith
        ]

    pub touched-few : (r : ℕ) → Touches columns start count r → r < 32
    touched-few r t = omega (arith, touched-row r t, (counts s.block given.settings).rows)

    pub touched-right : (r : ℕ) → Touches columns start count r → RowRight left r
    touched-right r t =
        let few = touched-few r t in
        let inside : r < length (mark_bits s.block) = rw length-bits few in
        let bit = touched-bit columns start count r some-columns some-points test34 (mark_bits s.block) inside t in
        bit-right r (left-bit fresh fresh-long rows-marked r few ∙ bit ∙ rw same_block)

    pub untouched-same : (r : ℕ) → r < 32 → (Touches columns start count r → ⊥) → eqb (bit_at (mark_at left.block) r) 1 ≡ eqb (bit_at (mark_at s.block) r) 1
    untouched-same r few off =
        left-bit fresh fresh-long rows-marked r few ∙ untouched-bit columns start count r some-columns some-points test34 (mark_bits s.block) off
        ∙ bit-at 32 (mark_at s.block) r few

    -- An untouched row has its points, and so is moved or not as before.
    untouched-still : (r : ℕ) → (Touches columns start count r → ⊥) → test34 r ≡ row_moved columns rows s.staged s.live r
    unfolding written
    untouched-still r off =
        elim (dec_lt r rows) [
          | no h ↦ rw (le-ltb r rows (omega arith))
          | yes h ↦
              let w = points-write (options_in (header_of p)) (data_of p) s.block (omega arith) (rw is at taken.command.judged) (rw is at taken.command.within) given.settings in
              let long : 2 * (columns * r + columns) ≤ length s.staged = omega (arith, row_room columns r rows h, (holds given).staged-long) in
              let room : 2 * start + length (points_of (data_of p)) ≤ length s.staged = omega (arith, w.numbers, w.ends, given.tables.staged) in
              rw (is, row-left columns r start (points_of (data_of p)) s.staged room long (⊎_elim (λ l. omega (arith, w.numbers)) (λ l. omega (arith, w.numbers)) (apart columns start count r some-columns some-points off)))
        ]

    stays-34 : (r : ℕ) → r < 32 → RowRight s r → RowRight left r
    stays-34 r few right = go (decTouches r)
      where
        decTouches : (r : ℕ) → Dec (Touches columns start count r)
        decTouches r =
            elim (dec_le (start / columns) r) [
              | no l ↦ no (λ t. l (touched-first columns start count r some-columns some-points t))
              | yes l ↦
                  elim (dec_le r ((start + count - 1) / columns)) [
                    | no k ↦ no (λ t. k (touched-last columns start count r some-columns some-points t))
                    | yes k ↦ yes (between columns start count r some-columns some-points l k)
                  ]
            ]

        go : Dec (Touches columns start count r) → RowRight left r
        go (yes t) = touched-right r t
        go (no off) =
            bit-right r
            (untouched-same r few off ∙ right-row columns rows s.staged s.live (holds given) (mark_at s.block) r right ∙ sym (untouched-still r off)
            ∙ rw same_block)

  -- ---- Any other write: the mark, the shape and the maps stay.

  module _ (not-points : opcode_of p ≡ 0x34 → ⊥) (not-shape : opcode_of p ≡ 0x35 → ⊥) (not-applied : opcode_of p ≡ 0x36 → byte_at (data_of p) 0 ≡ 1 → ⊥) where
    pub no-pass : marked_block (opcode_of p) (data_of p) after.block after.staged after.live ≡ after.block
    unfolding marked_block
    no-pass = rw (ne_eqb (opcode_of p) 0x34 not-points, ne_eqb (opcode_of p) 0x35 not-shape, not-one)
      where
        not-one : (eqb (opcode_of p) 0x36 && eqb (byte_at (data_of p) 0) 1) ≡ false
        not-one =
            elim (ℕ_discrete (opcode_of p) 0x36) [
              | yes e ↦ rw (eq-eqb (opcode_of p) 0x36 e) (ne_eqb (byte_at (data_of p) 0) 1 (not-applied e))
              | no e ↦ rw (ne_eqb (opcode_of p) 0x36 e)
            ]

    pub tail-same : drop settings_end left.block ≡ drop settings_end s.block
    unfolding written
    tail-same = ap (drop settings_end) no-pass ∙ tail-changed by s.block taken.lent.tables.block

    mark-same : mark_at left.block ≡ mark_at s.block
    mark-same =
        let byte : (k : ℕ) → get_or left.block (settings_end + k) 0 ≡ get_or s.block (settings_end + k) 0 =
        λ k. sym (get_or-drop settings_end left.block k 0) ∙ ap (λ (b : List ℕ). get_or b k 0) tail-same ∙ get_or-drop settings_end s.block k 0 in
        rw (byte 0, byte 1, byte 2, byte 3)

    maps-kept : (after.staged ≡ s.staged) × (after.live ≡ s.live)
    unfolding written
    maps-kept = (rw (ne_eqb (opcode_of p) 0x34 not-points), sym (live_written (opcode_of p) (data_of p) s.staged s.live not-applied))

    stays-other : (r : ℕ) → RowRight s r → RowRight left r
    stays-other r right =
        bit-right r
        (ap (λ (m : ℕ). eqb (bit_at m r) 1) mark-same
        ∙ right-row (columns_at s.block staged_shape) (rows_at s.block staged_shape) s.staged s.live (holds taken.lent) (mark_at s.block) r right
        ∙ rw ((shape_same not-shape).0, (shape_same not-shape).1, maps-kept.0, maps-kept.1))

  -- ---- Every write.

  pub stays-right : (r : ℕ) → r < 32 → RowRight s r → RowRight left r
  stays-right r few right =
      elim (ℕ_discrete (opcode_of p) 0x34) [
        | yes a ↦ stays-34 a r few right
        | no a ↦
            elim (ℕ_discrete (opcode_of p) 0x35) [
              | yes b ↦ reshaped b r few
              | no b ↦
                  elim (ℕ_discrete (opcode_of p) 0x36) [
                    | no c ↦ stays-other a b (λ e. absurd (c e)) r right
                    | yes c ↦
                        elim (ℕ_discrete (byte_at (data_of p) 0) 1) [
                          | yes v ↦ applied-right c v r few
                          | no v ↦ stays-other a b (λ e. v) r right
                        ]
                  ]
            ]
      ]
