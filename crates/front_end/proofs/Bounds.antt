-- The decision on a packet taken apart, and what an accepted command's places and counts are bounded by: so each part of a table that a
-- command names lies within it, and each reply fits.
use Prim.Native.Nat.{ℕ, ◌+◌, ◌-◌, ◌*◌, ◌≤◌, ◌<◌}
use mathlib.Core.Path.{◌≡◌, refl, sym, ap, ◌∙◌}
use mathlib.Core.Bool.{Bool, true, false, cond, ◌&&◌}
use mathlib.Core.List.{List, [], ◌∷◌}
use native.Mathlib.Nat.{mul-le-mul}
use native.Mathlib.Omega.{arith}
use borrow.Author.Tests.{ltb-false, eqb-true, eqb-false}
use lib.ListN.{length, take, drop, length-drop}
use lib.Dec.{eqb}
use Rattle.wire.specs.First.{first}
use Rattle.wire.specs.Numbers.{byte_at, word_at}
use Rattle.wire.proofs.Tables.{length_pairs}
use Rattle.opcode.specs.declared.Field.{Field}
use Rattle.opcode.specs.Fields.{takes, number}
use Rattle.opcode.specs.Options.{options_in, is_read}
use Rattle.gain_words.specs.Pairs.{expand, sum_runs}
use Rattle.gain_words.proofs.Expand.{length-expand}
use Rattle.opcode.specs.Commands.{command_of}
use Rattle.opcode.specs.Judgement.{in_pairs, judgement}
use Rattle.opcode.specs.Allowed.{WriteData, ReadData}
use Rattle.wire.proofs.Tests.{first-silent, silent-first, first-after, and_left, and_right, told}
use Rattle.opcode.proofs.Accepts.Fields.{All, takes-within}
use Rattle.opcode.proofs.Accepts.Reads.{silent-read}
use Rattle.opcode.proofs.Accepts.Writes.{silent-write}
use Rattle.packet.specs.Frame.{header_of, opcode_of, place, fields, data_size, data_of}
use Rattle.packet.specs.Points.{start_of, count_of}
use Rattle.packet.specs.Reading.{Answer, refusals, fault_of, command_at, refused_by, answered, reading}
use Rattle.packet.proofs.Frames.{standing}
use Rattle.packet.proofs.Within.{fault-small}
use Rattle.settings.specs.Layout.{update_place}
use Rattle.settings.specs.Layout.{columns_at, rows_at, staged_shape, enable, live_shape, smooth_table}
use Rattle.settings.specs.Ranges.{right, fields_of, picture_fields, device_fields, shape_right, settings_right}
use Rattle.front_end.specs.Commands.{runs_past, third, gains_words, gains_sent, gains_count}
use Rattle.front_end.specs.Step.{reads, read_and_placed, decision}
use Rattle.front_end.specs.Internal.{PointsWrite, PointsRead, GainsWrite, GainsRead}

-- ---- The number of a packet: the first of reading's refusals, and then 12.

placed_first : (p block : List ℕ)
    → first (read_and_placed p block)
    ≡ cond (eqb (first (refusals p)) 0) (cond (runs_past (opcode_of p) (reads p) (data_of p) block) 12 0) (first (refusals p))
unfolding judgement
placed_first p block = first-after (refusals p) ((12, runs_past (opcode_of p) (reads p) (data_of p) block) ∷ []) (omega arith)

-- It is from 2 to 12, or 0.
pub record Number (n : ℕ) : Type 0 where
  pub small : n ≤ 12
  pub not-1 : n ≡ 1 → ⊥

abbrev Numbers : List (ℕ × Bool) → Type 0
Numbers [] = Unit
Numbers (t ∷ ts) = (2 ≤ t.0) × (t.0 ≤ 12) × Numbers ts

first-number : (ts : List (ℕ × Bool)) → Numbers ts → Number (first ts)
first-number [] h = record { small = omega arith; not-1 = λ e. omega arith }
first-number ((k, true) ∷ ts) h = record { small = omega arith; not-1 = λ e. omega arith }
first-number ((k, false) ∷ ts) h = first-number ts h.2

pub placed-number : (p block : List ℕ) → Number (first (read_and_placed p block))
unfolding judgement
placed-number p block = first-number (read_and_placed p block) (omega arith)

-- ---- An answer is a command exactly if its number is 0: a refusal has no data, and data is never at place 0.

command-zero : (n : ℕ) (p : List ℕ) (op o at size : ℕ) → command_at op o at size ≡ answered n p → (n ≡ 0) × (command_at op o at size ≡ standing p)
command-zero n p op o at size h = go (eqb n 0) refl h
  where
    go : (b : Bool) → eqb n 0 ≡ b → command_at op o at size ≡ cond b (standing p) (refused_by n (fault_of n p))
        → (n ≡ 0) × (command_at op o at size ≡ standing p)
    go true e s = (eqb-true n 0 e, s)
    go false e s = absurd (eqb-false n 0 e (sym (ap (λ (a : Answer). a.number) s)))

refused-some : (n m f : ℕ) (p : List ℕ) → refused_by m f ≡ answered n p → (n ≡ m) × (f ≡ fault_of n p) × (eqb n 0 ≡ false)
refused-some n m f p h = go (eqb n 0) refl h
  where
    go : (b : Bool) → eqb n 0 ≡ b → refused_by m f ≡ cond b (standing p) (refused_by n (fault_of n p)) → (n ≡ m) × (f ≡ fault_of n p) × (eqb n 0 ≡ false)
    go true e s = let z = ap (λ (a : Answer). a.place) s in absurd (omega arith)
    go false e s = (sym (ap (λ (a : Answer). a.number) s), ap (λ (a : Answer). a.fault-place) s, e)

-- Options say what the header says.
read-options : (h o : ℕ) → o ≡ options_in h → is_read o ≡ is_read h
read-options h o e = omega arith

-- ---- From reading to the decision.

-- A refusal of reading stands.
pub refusal-stands : (p block : List ℕ) (n f : ℕ) → refused_by n f ≡ reading p → refused_by n f ≡ decision p block
unfolding reading decision
refusal-stands p block n f h =
    let some = refused-some (first (refusals p)) n f p h in
    let same : first (read_and_placed p block) ≡ first (refusals p) = placed_first p block ∙ rw some.2 in
    h ∙ ap (λ (k : ℕ). answered k p) (sym same)

-- A command stands unless it runs past its table.
same-past : (p block : List ℕ) (op o : ℕ) (d : List ℕ) → op ≡ opcode_of p → is_read o ≡ is_read (header_of p) → d ≡ data_of p
    → runs_past op (eqb (is_read o) 1) d block ≡ runs_past (opcode_of p) (reads p) (data_of p) block
same-past p block op o d e f g = rw (e, f, g)

pub command-placed : (p block : List ℕ) (op o at size : ℕ) (past : Bool) → command_at op o at size ≡ reading p
    → past ≡ runs_past op (eqb (is_read o) 1) (take size (drop at p)) block
    → cond past (refused_by 12 0) (command_at op o at size) ≡ decision p block
unfolding reading decision
command-placed p block op o at size past h e =
    let z = command-zero (first (refusals p)) p op o at size h in
    let same-opcode = ap (λ (a : Answer). a.opcode) z.1 in
    let same_read = read-options (header_of p) o (ap (λ (a : Answer). a.options) z.1) in
    let same_place = ap (λ (a : Answer). a.place) z.1 in
    let same_size = ap (λ (a : Answer). a.size) z.1 in
    let there : take size (drop at p) ≡ data_of p = rw (same_size, same_place) in
    let told : past ≡ runs_past (opcode_of p) (reads p) (data_of p) block =
    e ∙ same-past p block op o (take size (drop at p)) same-opcode same_read there in
    let number : first (read_and_placed p block) ≡ cond past 12 0 = placed_first p block ∙ rw (z.0, told) in
    go past z.1 ∙ ap (λ (k : ℕ). answered k p) (sym number)
  where
    go : (b : Bool) → command_at op o at size ≡ standing p → cond b (refused_by 12 0) (command_at op o at size) ≡ answered (cond b 12 0) p
    go true s = refl
    go false s = s

-- ---- The decision taken apart.

-- A command: what stands in the packet, with nothing refused of it.
pub record Commanded (p block : List ℕ) (op o at size : ℕ) : Type 0 where
  pub same-opcode : op ≡ opcode_of p
  pub same-options : o ≡ options_in (header_of p)
  pub same_place : at ≡ place (header_of p)
  pub same_size : size ≡ data_size p
  pub same-data : take size (drop at p) ≡ data_of p
  pub same-part : take (at + size - at) (drop at p) ≡ data_of p
  pub same_reads : reads p ≡ eqb (is_read o) 1
  pub inside : at + size ≤ length p
  pub small : size ≤ 512
  pub none : first (read_and_placed p block) ≡ 0
  pub judged : first (judgement op o (data_of p)) ≡ 0
  pub within : runs_past op (eqb (is_read o) 1) (data_of p) block ≡ false

judged-as : (d : List ℕ) {op op' o o' : ℕ} → op ≡ op' → o ≡ o' → first (judgement op' o' d) ≡ 0 → first (judgement op o d) ≡ 0
judged-as d e f h = rw (e, f) h

-- No number is none of reading's, and no 12.
none_read : (n : ℕ) (b : Bool) → cond (eqb n 0) (cond b 12 0) n ≡ 0 → (n ≡ 0) × (b ≡ false)
none_read n b h = go (eqb n 0) b refl h
  where
    go : (t b : Bool) → eqb n 0 ≡ t → cond t (cond b 12 0) n ≡ 0 → (n ≡ 0) × (b ≡ false)
    go true true e h = absurd (omega arith)
    go true false e h = (eqb-true n 0 e, refl)
    go false b e h = absurd (eqb-false n 0 e h)

pub commanded : (p block : List ℕ) (op o at size : ℕ) → command_at op o at size ≡ decision p block → Commanded p block op o at size
unfolding decision judgement
commanded p block op o at size h =
    let z = command-zero (first (read_and_placed p block)) p op o at size h in
    let same-opcode = ap (λ (a : Answer). a.opcode) z.1 in
    let same-options = ap (λ (a : Answer). a.options) z.1 in
    let same_place = ap (λ (a : Answer). a.place) z.1 in
    let same_size = ap (λ (a : Answer). a.size) z.1 in
    let same_read = read-options (header_of p) o same-options in
    let long : at + size - at ≡ data_size p = omega arith in
    let none = none_read (first (refusals p)) (runs_past (opcode_of p) (reads p) (data_of p) block) (sym (placed_first p block) ∙ z.0) in
    let silent = first-silent (refusals p) (omega arith) none.0 in
    let rest = judgement (opcode_of p) (options_in (header_of p)) (data_of p) in
    let whole = ltb-false (length p) (fields (header_of p)) silent.0 in
    let short = ltb-false 512 (length p) silent.1.0 in
    record {
      same-opcode = same-opcode;
      same-options = same-options;
      same_place = same_place;
      same_size = same_size;
      same-data = rw (same_size, same_place);
      same-part = rw (long, same_place);
      same_reads = rw same_read;
      inside = omega arith;
      small = omega arith;
      none = z.0;
      judged = judged-as (data_of p) same-opcode same-options (silent-first rest silent.1.1.1.1.1);
      within = same-past p block op o (data_of p) same-opcode same_read refl ∙ none.1;
    }

-- A refusal: its number is the packet's, and not 0, and its place is that of the number.
pub record Refusing (p block : List ℕ) (n f : ℕ) : Type 0 where
  pub number : first (read_and_placed p block) ≡ n
  pub some : 0 < n
  pub fault-place : f ≡ fault_of n p

pub refused : (p block : List ℕ) (n f : ℕ) → refused_by n f ≡ decision p block → Refusing p block n f
unfolding decision
refused p block n f h =
    let some = refused-some (first (read_and_placed p block)) n f p h in
    record {
      number = some.0;
      some = omega (arith, eqb-false (first (read_and_placed p block)) 0 some.2);
      fault-place = some.1 ∙ ap (λ (n : ℕ). fault_of n p) some.0;
    }

-- Its place lies within the packet, and so fits two bytes, as a command's does, which is 0.
pub placed-fault : (p block : List ℕ) → fault_of (first (read_and_placed p block)) p < 512
placed-fault p block = fault-small p ((12, runs_past (opcode_of p) (reads p) (data_of p) block) ∷ []) _ (omega arith) refl

pub decision-fault : (p block : List ℕ) {a : Answer} → a ≡ decision p block → a.fault-place < 65536
unfolding decision
decision-fault p block same = rw same (go (eqb (first (read_and_placed p block)) 0) refl)
  where
    go : (b : Bool) → eqb (first (read_and_placed p block)) 0 ≡ b → (answered (first (read_and_placed p block)) p).fault-place < 65536
    go true e = rw e (omega arith)
    go false e = rw e (omega (arith, placed-fault p block))

-- ---- Settings in their ranges.

right-all : (fs : List Field) (d : List ℕ) (at : ℕ) → right fs d at ≡ true → All fs d at
unfolding right
right-all [] d at e = tt
right-all (f ∷ fs) d at e =
    let here : takes f (number f.size d at) ≡ true = and_left _ _ e in
    let rest : right fs d (at + f.size) ≡ true = and_right (takes f (number f.size d at)) _ e in
    (takes-within f (number f.size d at) here, right-all fs d (at + f.size) rest)

second-fifth : (a b c d e f : Bool) → (a && b && c && d && e && f) ≡ true → (b ≡ true) × (e ≡ true)
second-fifth a b c d e f h = (search told, search told)

first_of : (a b c : Bool) → (a && b && c) ≡ true → a ≡ true
first_of a b c h = search told

sides : (block : List ℕ) (shape : ℕ) → shape_right block shape ≡ true → right (fields_of 0x35) block shape ≡ true
unfolding shape_right
sides block shape e = first_of (right (fields_of 0x35) block shape) _ _ e

-- The staged shape has at most 1,984 points, and the smooth table at most 25.
pub record Counts (block : List ℕ) : Type 0 where
  pub columns-some : 2 ≤ columns_at block staged_shape
  pub columns : columns_at block staged_shape ≤ 62
  pub rows : rows_at block staged_shape ≤ 32
  pub points : columns_at block staged_shape * rows_at block staged_shape ≤ 1984
  pub smooth-columns : (3 ≤ byte_at block smooth_table) × (byte_at block smooth_table ≤ 5)
  pub smooth-rows : (3 ≤ byte_at block (smooth_table + 1)) × (byte_at block (smooth_table + 1) ≤ 5)
  pub smooth-points : byte_at block smooth_table * byte_at block (smooth_table + 1) ≤ 25

pub counts : (block : List ℕ) → settings_right block ≡ true → Counts block
unfolding settings_right command_of
counts block e =
    let parts = second-fifth (right picture_fields block 0) (shape_right block staged_shape) (right (fields_of 0x36) block enable)
    (shape_right block live_shape) (right (fields_of 0x38) block smooth_table) (right device_fields block update_place) e in
    let a = right-all (fields_of 0x35) block staged_shape (sides block staged_shape parts.0) in
    let b = right-all (fields_of 0x38) block smooth_table parts.1 in
    let columns : columns_at block staged_shape ≤ 62 = omega arith in
    let rows : rows_at block staged_shape ≤ 32 = omega arith in
    let smooth-columns : (3 ≤ byte_at block smooth_table) × (byte_at block smooth_table ≤ 5) = omega arith in
    let smooth-rows : (3 ≤ byte_at block (smooth_table + 1)) × (byte_at block (smooth_table + 1) ≤ 5) = omega arith in
    record {
      columns-some = omega arith;
      columns = columns;
      rows = rows;
      points = mul-le-mul columns rows;
      smooth-columns = smooth-columns;
      smooth-rows = smooth-rows;
      smooth-points = mul-le-mul smooth-columns.1 smooth-rows.1;
    }

-- ---- Data of accepted commands.

pub write-data : (op o : ℕ) (d : List ℕ) → is_read o ≡ 0 → first (judgement op o d) ≡ 0 → WriteData op d
unfolding judgement
write-data op o d h e = silent-write op o d h (first-silent (judgement op o d) (omega arith) e)

pub read-data : (op o : ℕ) (d : List ℕ) → is_read o ≡ 1 → first (judgement op o d) ≡ 0 → ReadData op d
unfolding judgement
read-data op o d h e = silent-read op o d h (first-silent (judgement op o d) (omega arith) e)

pub points-write : (o : ℕ) (d block : List ℕ) → is_read o ≡ 0 → first (judgement 0x34 o d) ≡ 0
    → runs_past 0x34 (eqb (is_read o) 1) d block ≡ false → settings_right block ≡ true → PointsWrite d
unfolding runs_past
points-write o d block h e past right =
    let sized = points-size (write-data 0x34 o d h e) in
    let below = ltb-false (columns_at block staged_shape * rows_at block staged_shape) (start_of d + count_of d) (rw h at past) in
    record {
      sized = sized;
      numbers = length_pairs 256 (drop 2 d) ∙ rw length-drop (omega arith);
      ends = omega (arith, (counts block right).points);
    }
  where
    points-size : {d : List ℕ} → WriteData 0x34 d → length d ≡ 2 + 4 * count_of d
    points-size (WriteData.points k l) = omega arith

pub points-read : (o : ℕ) (d block : List ℕ) → is_read o ≡ 1 → first (judgement 0x34 o d) ≡ 0
    → runs_past 0x34 (eqb (is_read o) 1) d block ≡ false → settings_right block ≡ true → PointsRead d
unfolding runs_past
points-read o d block h e past right =
    let size = points-size (read-data 0x34 o d h e) in
    let below = ltb-false (columns_at block staged_shape * rows_at block staged_shape) (start_of d + word_at d 2) (rw h at past) in
    record { sized = size.0; few = size.1; ends = omega (arith, (counts block right).points) }
  where
    points-size : {d : List ℕ} → ReadData 0x34 d → (length d ≡ 4) × (word_at d 2 ≤ 127)
    points-size (ReadData.points k l) = omega arith
    points-size (ReadData.nothing n) = elim n [ ]

-- As many gains as the count says, or the runs.
sent-long : (d : List ℕ) → length d ≡ 6 + 2 * word_at d 2 → length (gains_sent d) ≡ gains_count false d
sent-long d e = go (in_pairs d)
  where
    go : (flag : Bool) → length (cond flag (expand (gains_words d)) (gains_words d)) ≡ cond flag (sum_runs (gains_words d)) (word_at d 2)
    go true = length-expand (gains_words d)
    go false = length_pairs 256 (drop 6 d) ∙ rw length-drop (omega arith)

pub gains-write : (o : ℕ) (d block : List ℕ) → is_read o ≡ 0 → first (judgement 0x2B o d) ≡ 0
    → runs_past 0x2B (eqb (is_read o) 1) d block ≡ false → GainsWrite d
unfolding runs_past
gains-write o d block h e past =
    let size = gains-size (write-data 0x2B o d h e) in
    record {
      sized = size.0;
      numbers = sent-long d size.0;
      colour = size.1;
      ends = ltb-false third (word_at d 4 + gains_count false d) (rw h at past);
    }
  where
    gains-size : {d : List ℕ} → WriteData 0x2B d → (length d ≡ 6 + 2 * word_at d 2) × (byte_at d 1 ≤ 3)
    gains-size (WriteData.gains k l m n) = omega arith
    gains-size (WriteData.runs k l m n) = omega arith

pub gains-read : (o : ℕ) (d block : List ℕ) → is_read o ≡ 1 → first (judgement 0x2B o d) ≡ 0
    → runs_past 0x2B (eqb (is_read o) 1) d block ≡ false → GainsRead d
unfolding runs_past
gains-read o d block h e past =
    let size = gains-size (read-data 0x2B o d h e) in
    record { sized = size.0; colour = size.1; few = size.2; ends = ltb-false third (word_at d 1 + word_at d 3) (rw h at past) }
  where
    gains-size : {d : List ℕ} → ReadData 0x2B d → (length d ≡ 5) × ((1 ≤ byte_at d 0) × (byte_at d 0 ≤ 3)) × (word_at d 3 ≤ 254)
    gains-size (ReadData.gains k l m n) = omega arith
    gains-size (ReadData.nothing n) = elim n [ ]
