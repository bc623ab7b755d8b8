-- The two facts of reading that planning rests on. Sound: a packet that is accepted, whatever list it is, writes 1 to 126 points within the
-- map and has at least 6 bytes and 4 for each. Meant: a part's packet is accepted and writes the part's points.
use Prim.Native.Nat.{ℕ, ◌+◌, ◌*◌, ◌%◌, ◌≤◌}
use mathlib.Core.Path.{◌≡◌, refl, sym, ap, ◌∙◌}
use mathlib.Core.Bool.{Bool, true, false, ◌&&◌}
use mathlib.Core.List.{List, ◌∷◌, ◌++◌}
use native.Mathlib.Omega.{arith}
use borrow.Author.Tests.{ltb-false, le-leb, le-ltb, eq-eqb}
use lib.ListN.{length, take, drop, length-take, length-drop}
use lib.Dec.{eqb, leb}
use Rattle.wire.specs.Numbers.{word_bytes}
use Rattle.wire.specs.Tables.{bytes}
use Rattle.wire.specs.First.{first}
use Rattle.wire.proofs.Tables.{length_pairs, length-halves, pairs-halves}
use Rattle.opcode.specs.Options.{is_read, has_length, options_in}
use Rattle.opcode.specs.Commands.{command_of}
use Rattle.opcode.specs.Judgement.{judgement, points_size_wrong}
use Rattle.opcode.specs.Allowed.{NeedsLength}
use Rattle.wire.proofs.Tests.{told, first-silent, silent-first}
use Rattle.opcode.proofs.Accepts.Passes.{passes-silent, silent-passes}
use Rattle.opcode.proofs.Accepts.Varying.{points-passes}
use Rattle.opcode.proofs.Accepts.Writes.{silent-length}
use Rattle.packet.specs.Frame.{header_of, opcode_of, fields, data_of}
use Rattle.packet.specs.Reading.{Answer, too_short, too_long, length_differs, checksum_differs, elsewhere, refusals, reading}
use Rattle.packet.specs.Making.{packet_of}
use Rattle.packet.specs.Points.{start_of, points_of, count_of, accepted_at}
use Rattle.packet.proofs.Frames.{reading-number, accepted, none_of}
use Rattle.packet.proofs.Stores.{length-packet}
use Rattle.packet.proofs.MadeReads.{made_reads}
use Rattle.upload.specs.Plan.{Part, packet_for}
use Rattle.upload.specs.Parts.{Fits}

-- What a packet of so many bytes with data d writes into a map of n points.
pub record Writes (n : ℕ) (d : List ℕ) (size : ℕ) : Type 0 where
  pub long : length (points_of d) ≡ 2 * count_of d
  pub some : 1 ≤ count_of d
  pub few : count_of d ≤ 126
  pub within : start_of d + count_of d ≤ n
  pub bytes : 6 + 4 * count_of d ≤ size

-- A 34h write that no refusal holds back has a length field and whole points.
record Whole (o : ℕ) (d : List ℕ) : Type 0 where
  field : has_length o ≡ 1
  some : 1 ≤ count_of d
  points : length d ≡ 2 + 4 * count_of d

write-judged : (o : ℕ) (d : List ℕ) → is_read o ≡ 0 → first (judgement 0x34 o d) ≡ 0 → Whole o d
unfolding judgement command_of points_size_wrong
write-judged o d w e =
    let s = first-silent (judgement 0x34 o d) (omega arith) e in
    let size : points_size_wrong d ≡ false = (silent-passes 0x34 o d w s).size in
    let least : 6 ≤ length d = search told in
    let even : length d % 4 ≡ 2 = search told in
    record { field = silent-length 0x34 o d w s NeedsLength.write-34; some = omega arith; points = omega arith }

length-data : (p : List ℕ) → fields (header_of p) ≤ length p → fields (header_of p) + length (data_of p) ≡ length p
length-data p h = simp (length-take, length-drop) (omega arith)

written : {n o : ℕ} (d : List ℕ) {m f : ℕ} → Whole o d → 4 ≤ f → f + length d ≡ m → m ≤ 512 → start_of d + count_of d ≤ n → Writes n d m
written d w l e s h =
    record {
      long = simp (length_pairs, length-drop) (omega arith);
      some = w.some;
      few = omega arith;
      within = h;
      bytes = omega arith;
    }

pub sound : (n : ℕ) (p : List ℕ) → accepted_at n p ≡ true → Writes n (data_of p) (length p)
sound n p h =
    let number : (reading p).number ≡ 0 = search told in
    let opcode : (reading p).opcode ≡ 0x34 = search told in
    let write : is_read (reading p).options ≡ 0 = search told in
    let none : first (refusals p) ≡ 0 = sym (reading-number p) ∙ number in
    let stands = accepted p none in
    let tests = none_of (too_short p) (too_long p) (length_differs p) (checksum_differs p) (elsewhere p) (judgement (opcode_of p) (options_in (header_of p)) (data_of p)) none in
    let judged = rw (sym (ap (λ (a : Answer). a.opcode) stands) ∙ opcode) at tests.1 in
    let w = write-judged (options_in (header_of p)) (data_of p) (sym (ap (λ (a : Answer). is_read a.options) stands) ∙ write) judged in
    written (data_of p) w (omega (arith, w.field)) (length-data p (ltb-false _ _ tests.0.no-2)) (ltb-false _ _ tests.0.no-3) (search told)

-- What a part's packet writes.
pub record Meant (n : ℕ) (wanted : List ℕ) (p : Part) : Type 0 where
  pub taken : accepted_at n (packet_for wanted p) ≡ true
  pub starts : start_of (data_of (packet_for wanted p)) ≡ p.start
  pub points : points_of (data_of (packet_for wanted p)) ≡ take (2 * p.count) (drop (2 * p.start) wanted)
  pub size : length (packet_for wanted p) ≡ 6 + 4 * p.count

-- A 34h write with its length field.
accepts : (n : ℕ) (r : Answer) (d : List ℕ) → r.number ≡ 0 → r.opcode ≡ 0x34 → is_read r.options ≡ 0 → start_of d + count_of d ≤ n
    → (eqb r.number 0 && eqb r.opcode 0x34 && eqb (is_read r.options) 0 && leb (start_of d + count_of d) n) ≡ true
accepts n r d e f g h = rw (eq-eqb _ _ e, eq-eqb _ _ f, eq-eqb _ _ g, le-leb _ _ h)

write-taken : (n c : ℕ) (d : List ℕ) → 1 ≤ c → c ≤ 126 → length d ≡ 2 + 4 * c → start_of d + c ≤ n → accepted_at n (packet_of 0x34 0x10 d) ≡ true
unfolding judgement command_of
write-taken n c d some few long within =
    let p : List ℕ = packet_of 0x34 0x10 d in
    let reads = made_reads 0x34 0x10 d refl in
    let silent = passes-silent 0x34 0x10 d refl refl refl (points-passes d c some long) in
    let none : first (refusals p) ≡ 0 =
    reads.refusal
    ∙ ap (λ (b : Bool). first ((3, b) ∷ judgement 0x34 0x10 d)) (le-ltb 512 (fields 0x10 + length d) (omega arith))
    ∙ silent-first (judgement 0x34 0x10 d) silent in
    let stands = accepted p none in
    accepts n (reading p) (data_of p) (ap (λ (a : Answer). a.number) stands) (ap (λ (a : Answer). a.opcode) stands ∙ reads.opcode)
    (ap (λ (a : Answer). is_read a.options) stands ∙ ap is_read reads.options) (rw reads.content (omega arith))

pub meant : (n : ℕ) (wanted : List ℕ) (p : Part) → length wanted ≡ 2 * n → Fits n p → Meant n wanted p
unfolding packet_for
meant n wanted p e f =
    let pts : List ℕ = take (2 * p.count) (drop (2 * p.start) wanted) in
    let d : List ℕ = word_bytes p.start ++ bytes pts in
    let reads = made_reads 0x34 0x10 d refl in
    let wide : length pts ≡ 2 * p.count = simp (length-take, length-drop) (omega arith) in
    let long : length d ≡ 2 + 4 * p.count = omega (arith, length-halves 256 pts) in
    let start : start_of d ≡ p.start = omega arith in
    record {
      taken = write-taken n p.count d f.some f.few long (omega arith);
      starts = ap (λ (d : List ℕ). start_of d) reads.content ∙ start;
      points = ap (λ (d : List ℕ). points_of d) reads.content ∙ pairs-halves 256 pts;
      size = length-packet 0x34 0x10 d ∙ omega arith;
    }
