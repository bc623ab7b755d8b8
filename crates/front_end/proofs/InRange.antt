-- Every packet leaves a state in range, lengths included: a write changes one run of settings, to what the same tests take, and keeps the
-- others; a table keeps its length, since what is written lies within it.
use Prim.Native.Nat.{ℕ, ◌+◌, ◌*◌, ◌-◌, ◌≤◌, ◌<◌}
use mathlib.Core.Path.{◌≡◌, refl, ◌∙◌}
use mathlib.Core.Logic.{inl, inr}
use mathlib.Core.Bool.{true, false}
use mathlib.Core.List.{List, [], ◌∷◌, ◌++◌}
use native.Mathlib.Decide.{ℕ_discrete}
use native.Mathlib.Omega.{arith}
use borrow.Author.Tests.{ne_eqb}
use lib.ListN.{length, drop, get_or, length-append, length-drop}
use lib.Seq.{paste, length-paste, get_or-drop, take_at, drop_at, take_all}
use lib.Dec.{eqb}
use Rattle.wire.specs.First.{first}
use Rattle.wire.specs.Buffers.{over}
use Rattle.wire.specs.Numbers.{byte_at, word_at}
use Rattle.wire.specs.Tables.{words}
use Rattle.wire.proofs.Tables.{length_pairs}
use Rattle.opcode.specs.Fields.{words_at, rise}
use Rattle.opcode.specs.Options.{options_in, is_read}
use Rattle.opcode.specs.Commands.{command_of, fixed}
use Rattle.opcode.specs.Judgement.{judgement}
use Rattle.opcode.specs.Allowed.{Rising, WriteData}
use Rattle.wire.proofs.Tests.{told}
use Rattle.wire.proofs.Copies.{Same, front, paste-there, paste-apart}
use Rattle.opcode.proofs.Accepts.Lists.{words-part, rising-rise}
use Rattle.packet.specs.Frame.{header_of, opcode_of, data_of}
use Rattle.packet.specs.Points.{write_points, start_of, points_of}
use Rattle.packet.proofs.Exactly.{bytes-of-data}
use Rattle.settings.specs.Layout.{block_size, enable, live_shape, shape_size, smooth_table, staged_shape, column_list, row_list, column_entries, row_entries, lists_size, shape_head}
use Rattle.settings.specs.Layout.{place_of, stored}
use Rattle.settings.specs.Ranges.{right, fields_of, rising, shape_right, settings_right}
use Rattle.settings.proofs.Same.{widths, right-same, words_same, shape_same}
use Rattle.settings.proofs.Stays.{parts, whole, all_right, Framed, frame, stays}
use Rattle.front_end.specs.State.{State, reply_room}
use Rattle.front_end.specs.Commands.{gains_sent, gains_into, colour_into, write_gains, shape_bytes, write_shape, apply_block, apply_live, write_smooth, block_after, written, runs_past, third}
use Rattle.front_end.specs.Step.{number_of, reply_to, step}
use Rattle.front_end.specs.Internal.{PointsWrite, GainsWrite}
use Rattle.front_end.specs.Plain.{StateLent, LentRight}
use Rattle.front_end.proofs.Demands.{Running, running-right, right-running}
use Rattle.front_end.proofs.Bounds.{write-data, points-write, gains-write}
use Rattle.front_end.proofs.Reach.{Kind, kind_of, other_after}
use Rattle.front_end.proofs.Sizes.{smooth-size, fixed-rest}
use Rattle.front_end.proofs.Changes.{Way, way, changed, changed-long, enabled, enabled-long, write_allowed}
use Rattle.front_end.specs.Mark.{marked}
use Rattle.front_end.proofs.Marks.{mark-alone, mark-right}
use Rattle.settings.specs.Reset.{gains_size, map_size}

-- ---- Settings.

-- A copy into a block in range, framed by the parts of the rule that it lies apart from.
stay : (block from : List ℕ) (to n : ℕ) → to + n ≤ length block → n ≤ length from → settings_right block ≡ true
    → Framed to n (paste block to from n) → settings_right (paste block to from n) ≡ true
stay block from to n room long e f = whole (paste block to from n) (frame block from to n room long (parts block e) f)

-- 35h in mode 1: 62 columns, 32 rows, and lists that rise.
rises : (ws : List ℕ) (s : List ℕ) (n : ℕ) → ws ≡ words s → length s ≡ 2 * n → Rising (words s) → rise ws ≡ n
rises ws s n e l r = rw e (rising-rise r ∙ length_pairs 256 s ∙ omega arith)

lists-right : (xs ys : List ℕ) → length xs ≡ 124 → length ys ≡ 64 → Rising (words xs) → Rising (words ys)
    → shape_right (1 ∷ 62 ∷ 0 ∷ 32 ∷ 0 ∷ (xs ++ ys)) 0 ≡ true
unfolding shape_right right command_of
lists-right xs ys ex ey rx ry =
    let d : List ℕ = 1 ∷ 62 ∷ 0 ∷ 32 ∷ 0 ∷ (xs ++ ys) in
    let long : length (xs ++ ys) ≡ lists_size = rw length-append (omega arith) in
    let columns : words_at d 5 62 ≡ words xs = words-part 62 d 5 (omega arith) ∙ rw (take_at xs ys 124 ex) in
    let rows : words_at d 129 32 ≡ words ys = words-part 32 d 129 (omega arith) ∙ rw (drop_at xs ys 124 ex, take_all 64 ys (omega arith)) in
    rw (rises (words_at d 5 62) xs 62 columns ex rx, rises (words_at d 129 32) ys 32 rows ey ry)

-- In mode 0: the counts written, and the lists as they were.
counts-right : (block : List ℕ) (c₀ c₁ r₀ r₁ : ℕ) → column_list staged_shape ≤ length block → shape_right block staged_shape ≡ true
    → right (fields_of 0x35) (0 ∷ c₀ ∷ c₁ ∷ r₀ ∷ r₁ ∷ []) 0 ≡ true
    → shape_right (paste block staged_shape (0 ∷ c₀ ∷ c₁ ∷ r₀ ∷ r₁ ∷ []) 5) staged_shape ≡ true
unfolding shape_right widths command_of
counts-right block c₀ c₁ r₀ r₁ l old new =
    let d : List ℕ = 0 ∷ c₀ ∷ c₁ ∷ r₀ ∷ r₁ ∷ [] in
    let there = paste-there block d staged_shape 5 (omega arith) (omega arith) in
    let columns : rising block (column_list staged_shape) column_entries ≡ true = search told in
    let rows : rising block (row_list staged_shape) row_entries ≡ true = search told in
    let mode : byte_at (paste block staged_shape d 5) staged_shape ≡ 0 = there.each 0 (omega arith) in
    rw (
      right-same (fields_of 0x35) refl there,
      new,
      mode,
      words_same column_entries (paste-apart block d staged_shape shape_head (omega arith) (omega arith) (column_list staged_shape) 124 (omega arith)),
      words_same row_entries (paste-apart block d staged_shape shape_head (omega arith) (omega arith) (row_list staged_shape) 64 (omega arith)),
      columns,
      rows,
    )

-- Either way the other settings are kept.
shape-put : (block from : List ℕ) (n : ℕ) → n ≤ shape_size → n ≤ length from → length block ≡ block_size → settings_right block ≡ true
    → shape_right (paste block staged_shape from n) staged_shape ≡ true → settings_right (paste block staged_shape from n) ≡ true
shape-put block from n small long l e new =
    stay block from staged_shape n (omega arith) long e
    (record {
      picture = inl (omega arith);
      staged = inr new;
      enabled = inl (omega arith);
      live = inl (omega arith);
      smooth = inl (omega arith);
      device = inl (omega arith);
    })

pub shape-stays : {d : List ℕ} (block : List ℕ) → WriteData 0x35 d → length block ≡ block_size → settings_right block ≡ true
    → settings_right (write_shape d block) ≡ true
unfolding write_shape shape_bytes command_of
shape-stays {d} block (WriteData.shape {c₀} {c₁} {r₀} {r₁} h i j k) l e =
    shape-put block d 5 (omega arith) (omega arith) l e
    (counts-right block c₀ c₁ r₀ r₁ (omega arith) (parts block e).staged (all_right (fields_of 0x35) (omega arith) d 0 (omega arith)))
shape-stays {d} block (WriteData.lists xs ys ex ey rx ry) l e =
    let from : List ℕ = 1 ∷ 62 ∷ 0 ∷ 32 ∷ 0 ∷ (xs ++ ys) in
    let long : length from ≡ shape_size = omega (arith, length-append xs ys) in
    shape-put block from (length from) (omega arith) (omega arith) l e
    (shape_same (front (paste-there block from staged_shape (length from) (omega arith) (omega arith)) shape_size (omega arith)) ∙ lists-right xs ys ex ey rx ry)

-- 38h: the two counts.
smooth-right : {d : List ℕ} → WriteData 0x38 d → (2 ≤ length d) × (right (fields_of 0x38) d 0 ≡ true)
unfolding command_of
smooth-right {d} (WriteData.smooth h i j k s) = (omega arith, all_right (fields_of 0x38) (omega arith) d 0 (omega arith))

smooth-stays : {d : List ℕ} (block : List ℕ) → WriteData 0x38 d → length block ≡ block_size → settings_right block ≡ true
    → settings_right (write_smooth d block) ≡ true
unfolding write_smooth widths command_of
smooth-stays {d} block w l e =
    let small : length d ≤ 102 = smooth-size w in
    let new = smooth-right w in
    let room : smooth_table + length d ≤ length block = omega arith in
    let long : length d ≤ length d = omega arith in
    stay block d smooth_table (length d) room long e
    (record {
      picture = inl (omega arith);
      staged = inl (omega arith);
      enabled = inl (omega arith);
      live = inl (omega arith);
      smooth = inr (right-same (fields_of 0x38) refl (front (paste-there block d smooth_table (length d) room long) 2 new.0) ∙ new.1);
      device = inl (omega arith);
    })

-- 36h: enable as the fixed writes; and the staged shape, in range, stands in the live one's place.
enable-put : {d : List ℕ} → WriteData 0x36 d → (block : List ℕ) → settings_right (stored 0x36 d block) ≡ true
    → settings_right (paste block enable (byte_at d 0 ∷ []) 1) ≡ true
unfolding command_of place_of
enable-put (WriteData.apply {v} h) block e = let here : enable + 0 * v ≡ enable = omega arith in rw here at e

enable-zero : {d : List ℕ} → WriteData 0x36 d → (byte_at d 0 ≡ 1 → ⊥) → byte_at d 0 ≡ 0
enable-zero (WriteData.apply h) v = omega arith

fixed-36 : (command_of 0x36).kind ≡ fixed
unfolding command_of
fixed-36 = refl

module _ (o : ℕ) (d block : List ℕ) (bytes : (k : ℕ) → get_or d k 0 < 256) (h : is_read o ≡ 0) (j : first (judgement 0x36 o d) ≡ 0)
    (l : length block ≡ block_size) (e : settings_right block ≡ true) where
  enable-stays : settings_right (paste block enable (byte_at d 0 ∷ []) 1) ≡ true
  enable-stays =
      enable-put (write-data 0x36 o d h j) block (stays block bytes (write_allowed 0x36 o d h j) h fixed-36 l e)

  live-put : settings_right (enabled block) ≡ true → settings_right (paste (enabled block) live_shape (drop staged_shape block) shape_size) ≡ true
  live-put f =
      let all = enabled-long block l in
      let room : live_shape + shape_size ≤ length (enabled block) = omega arith in
      let long : shape_size ≤ length (drop staged_shape block) = rw length-drop (omega arith) in
      let staged : Same (drop staged_shape block) 0 block staged_shape shape_size =
      record { each = λ k lt. let z : 0 + k ≡ k = omega arith in rw z (get_or-drop staged_shape block k 0) } in
      let new = shape_same (paste-there (enabled block) (drop staged_shape block) live_shape shape_size room long) ∙ shape_same staged ∙ (parts block e).staged in
      stay (enabled block) (drop staged_shape block) live_shape shape_size room long f
      (record {
        picture = inl (omega arith);
        staged = inl (omega arith);
        enabled = inl (omega arith);
        live = inr new;
        smooth = inl (omega arith);
        device = inl (omega arith);
      })

  apply-stays : settings_right (apply_block d block) ≡ true
  unfolding apply_block
  apply-stays =
      elim (ℕ_discrete (byte_at d 0) 1) [
        | yes v ↦ rw v (live-put (rw v at enable-stays))
        | no v ↦
            let zero : byte_at d 0 ≡ 0 = enable-zero (write-data 0x36 o d h j) v in
            rw zero (rw zero at enable-stays)
      ]

pub settings-stay : (op o : ℕ) (d block : List ℕ) → ((k : ℕ) → get_or d k 0 < 256) → is_read o ≡ 0 → first (judgement op o d) ≡ 0
    → length block ≡ block_size → settings_right block ≡ true → settings_right (block_after op d block) ≡ true
unfolding block_after
settings-stay op o d block bytes h j l e = go (kind_of op)
  where
    go : Kind op → settings_right (block_after op d block) ≡ true
    go (Kind.gains k) = rw k e
    go (Kind.points k) = rw k e
    go (Kind.shape k) = rw k (shape-stays block (write-data 0x35 o d h (rw k at j)) l e)
    go (Kind.apply k) = rw k (apply-stays o d block bytes h (rw k at j) l e)
    go (Kind.smooth k) = rw k (smooth-stays block (write-data 0x38 o d h (rw k at j)) l e)
    go (Kind.other k) =
        rw (other_after op d block k)
        (stays block bytes (write_allowed op o d h j) h (fixed-rest op o d j k.not-gains k.not-points k.not-shape k.not-smooth) l e)

-- ---- Tables.

points-long : (d staged : List ℕ) → PointsWrite d → length staged ≡ map_size → length (write_points (start_of d) (points_of d) staged) ≡ map_size
points-long d staged w l = length-paste staged (2 * start_of d) (points_of d) (length (points_of d)) (omega arith) (omega arith) ∙ l

into-long : (gains : List ℕ) (place : ℕ) (ws : List ℕ) → length gains ≡ gains_size → place + length ws ≤ gains_size → length (gains_into gains place ws) ≡ gains_size
into-long gains place ws l h = length-paste gains place ws (length ws) (omega arith) (omega arith) ∙ l

-- A colour's gains from a start on lie within its third, and so within the table.
pub colour-long : (colour start : ℕ) (new gains : List ℕ) → colour ≤ 3 → start + length new ≤ third → length gains ≡ gains_size
    → length (colour_into colour start new gains) ≡ gains_size
unfolding colour_into
colour-long colour start new gains c h l =
    elim (ℕ_discrete colour 0) [
      | yes z ↦
          let one = into-long gains start new l (omega arith) in
          let two = into-long (gains_into gains start new) (third + start) new one (omega arith) in
          rw z (into-long (gains_into (gains_into gains start new) (third + start) new) (2 * third + start) new two (omega arith))
      | no z ↦ rw (ne_eqb colour 0 z) (into-long gains (third * (colour - 1) + start) new l (omega arith))
    ]

gains-long : (d gains : List ℕ) → GainsWrite d → length gains ≡ gains_size → length (write_gains d gains) ≡ gains_size
gains-long d gains w l = colour-long (byte_at d 1) (word_at d 4) (gains_sent d) gains w.colour (omega (arith, w.numbers, w.ends)) l

live-long : (d staged live : List ℕ) → length staged ≡ map_size → length live ≡ map_size → length (apply_live d staged live) ≡ map_size
unfolding apply_live
live-long d staged live ls ll =
    elim (ℕ_discrete (byte_at d 0) 1) [
      | yes v ↦ rw v ls
      | no v ↦ rw (ne_eqb (byte_at d 0) 1 v) ll
    ]

over-long : (s buffer : List ℕ) → length buffer ≤ length (over s buffer)
unfolding over
over-long s buffer = simp (length-append, length-drop) (omega arith)

-- ---- The state.

pub written-tables : (op o : ℕ) (d : List ℕ) (s : State) (reply : List ℕ) → is_read o ≡ 0 → first (judgement op o d) ≡ 0
    → runs_past op (eqb (is_read o) 1) d s.block ≡ false → Running s reply → StateLent (written op d s)
unfolding written
written-tables op o d s reply h j past l =
    let t = l.tables in
    record {
      block = changed-long (changed op o d h j) s.block t.block;
      staged =
          elim (ℕ_discrete op 0x34) [
            | yes m ↦ rw m (points-long d s.staged (points-write o d s.block h (rw m at j) (rw m at past) l.settings) t.staged)
            | no m ↦ rw (ne_eqb op 0x34 m) t.staged
          ];
      live =
          elim (ℕ_discrete op 0x36) [
            | yes a ↦ rw a (live-long d s.staged s.live t.staged t.live)
            | no a ↦ rw (ne_eqb op 0x36 a) t.live
          ];
      gains =
          elim (ℕ_discrete op 0x2B) [
            | yes g ↦ rw g (gains-long d s.gains (gains-write o d s.block h (rw g at j) (rw g at past)) t.gains)
            | no g ↦ rw (ne_eqb op 0x2B g) t.gains
          ];
    }

written-lent : (op o : ℕ) (d : List ℕ) (s : State) (reply reply' : List ℕ) → ((k : ℕ) → get_or d k 0 < 256) → is_read o ≡ 0
    → first (judgement op o d) ≡ 0 → runs_past op (eqb (is_read o) 1) d s.block ≡ false → reply_room ≤ length reply' → Running s reply
    → Running (written op d s) reply'
unfolding written
written-lent op o d s reply reply' bytes h j past room l =
    record {
      tables = written-tables op o d s reply h j past l;
      room = room;
      settings = settings-stay op o d s.block bytes h j l.tables.block l.settings;
    }

-- The mark is no setting.
marked-lent : (op : ℕ) (d : List ℕ) (s : State) (reply : List ℕ) → Running s reply → Running (marked op d s) reply
marked-lent op d s reply l =
    let alone = mark-alone op d s.block s.staged s.live l.tables.block in
    record {
      tables = record { block = alone.long ∙ l.tables.block; staged = l.tables.staged; live = l.tables.live; gains = l.tables.gains };
      room = l.room;
      settings = mark-right alone ∙ l.settings;
    }

pub stays_lent : (p : List ℕ) → ((k : ℕ) → get_or p k 0 < 256) → (s : State) (reply : List ℕ) → LentRight s reply
    → LentRight (step p s reply).state (step p s reply).reply
unfolding step
stays_lent p bytes s reply right = running-right (go (way p s reply))
  where
    l : Running s reply
    l = right-running right

    room : reply_room ≤ length (step p s reply).reply
    room = omega (arith, over-long (reply_to (number_of p s reply) p s) reply, l.room)

    go : Way p s reply → Running (step p s reply).state (step p s reply).reply
    go (Way.same e) =
        rw e (record { tables = l.tables; room = room; settings = l.settings })
    go (Way.wrote st r a e) =
        rw e
        (marked-lent (opcode_of p) (data_of p) (written (opcode_of p) (data_of p) s) (step p s reply).reply
        (written-lent (opcode_of p) (options_in (header_of p)) (data_of p) s reply (step p s reply).reply (bytes-of-data p bytes) (omega arith)
        a.command.judged a.command.within room l))
