-- A packet that is made reads back: its fields are those given, its frame passes every test but that of its length, and so its
-- refusal is what making says, in the same order.
use Prim.Native.Nat.{ℕ, zero, suc, ◌+◌, ◌-◌, ◌*◌, ◌≤◌, ◌<◌}
use mathlib.Core.Path.{◌≡◌, refl, sym, ap, ◌∙◌}
use mathlib.Core.Bool.{Bool, true, false, not, ◌&&◌}
use mathlib.Core.List.{List, [], ◌∷◌, ◌++◌, append_assoc}
use native.Mathlib.Omega.{arith}
use borrow.Author.Tests.{le-ltb, eq-eqb}
use lib.ListN.{length, take, drop, length-append}
use lib.Seq.{take-append_seam, get_or-append_seam, drop_at}
use lib.Dec.{eqb, ltb}
use Rattle.wire.specs.Numbers.{byte_at, word_at, word_bytes}
use Rattle.wire.specs.Checksum.{checksum}
use Rattle.wire.specs.First.{first}
use Rattle.opcode.specs.Options.{two_byte, has_length, has_checksum, destination, options_in}
use Rattle.opcode.specs.Judgement.{judgement, fault_place}
use Rattle.packet.specs.Frame.{header_of, opcode_of, place, fields, data_size, data_of}
use Rattle.packet.specs.Reading.{too_short, too_long, length_differs, checksum_differs, elsewhere, refusals, fault_of, reading}
use Rattle.packet.specs.Making.{present, head_bytes, packet_of, Made, make_refusals, made}
use Rattle.packet.specs.Promises.{ReadsAsMade}
use Rattle.wire.proofs.Laws.{take-over}
use Rattle.packet.proofs.Stores.{length-head, length-packet}
use Rattle.packet.proofs.Frames.{rows, alike, reading-number, reading-fault, accepted, standing-as}
use Rattle.packet.proofs.Makes.{made-by, made-status, made_fault}

-- The fields of a packet that is made, for any opcode and any data; of the options, that they are bits 3 to 7 alone.
pub record MadeReads (op o : ℕ) (d : List ℕ) : Type 0 where
  pub header : header_of (packet_of op o d) ≡ 4 + o
  pub opcode : opcode_of (packet_of op o d) ≡ op
  pub options : options_in (header_of (packet_of op o d)) ≡ o
  pub data-place : place (header_of (packet_of op o d)) ≡ place o
  pub data-size : data_size (packet_of op o d) ≡ length d
  pub content : data_of (packet_of op o d) ≡ d
  pub refusal : first (refusals (packet_of op o d)) ≡ first ((3, ltb 512 (fields o + length d)) ∷ judgement op o d)

-- An option is there or not: the high byte, the length field and the checksum.
high_zero : (t : ℕ) (l d s : List ℕ) → t < 2 → t * byte_at (((present t (0 ∷ []) ++ l) ++ d) ++ s) 0 ≡ 0
high_zero zero l d s h = omega arith
high_zero (suc zero) l d s h = omega arith
high_zero (suc (suc t)) l d s h = absurd (omega arith)

there : (t : ℕ) (x y n : ℕ) (d s : List ℕ) → t < 2 → word_at ((((x ∷ y ∷ present t (0 ∷ [])) ++ word_bytes n) ++ d) ++ s) (2 + t) ≡ n
there zero x y n d s h = omega arith
there (suc zero) x y n d s h = omega arith
there (suc (suc t)) x y n d s h = absurd (omega arith)

length-right : (t l : ℕ) (x y : ℕ) (d s : List ℕ) → t < 2 → l < 2
    → (eqb l 1 && not (eqb (word_at ((((x ∷ y ∷ present t (0 ∷ [])) ++ present l (word_bytes (length d))) ++ d) ++ s) (2 + t)) (length d))) ≡ false
length-right t zero x y d s h i = refl
length-right t (suc zero) x y d s h i = ap not (eq-eqb _ (length d) (there t x y (length d) d s h))
length-right t (suc (suc l)) x y d s h i = absurd (omega arith)

sum-right : (k : ℕ) (s : List ℕ) (p : List ℕ) → p ≡ s ++ present k (checksum s ∷ []) → k < 2
    → (eqb k 1 && not (eqb (byte_at p (length p - 1)) (checksum (take (length p - 1) p)))) ≡ false
sum-right zero s p e h = refl
sum-right (suc zero) s p e h =
    let last : length (s ++ (checksum s ∷ [])) - 1 ≡ length s = rw length-append (omega arith) in
    rw (e, last, get_or-append_seam, take-append_seam, eq-eqb (checksum s) (checksum s) refl)
sum-right (suc (suc k)) s p e h = absurd (omega arith)

-- Data between a head and what follows.
between : (head d s : List ℕ) (n : ℕ) → length head ≡ n → take (length d) (drop n ((head ++ d) ++ s)) ≡ d
between head d s n e = rw (append_assoc, drop_at head (d ++ s) n e) (take-append_seam d s)

-- With every other test failed, the number is that of the packet's length or of what follows.
only-long : (b : Bool) {a c d e : Bool} (ts : List (ℕ × Bool)) → a ≡ false → c ≡ false → d ≡ false → e ≡ false
    → first (rows a b c d e ++ ts) ≡ first ((3, b) ∷ ts)
only-long b ts h i j k = rw (h, i, j, k)

-- Options are read off the header alike.
module _ (o : ℕ) (whole : options_in o ≡ o) where
  pub two-same : two_byte (4 + o) ≡ two_byte o
  two-same = omega arith

  pub length-same : has_length (4 + o) ≡ has_length o
  length-same = omega arith

  pub sum_same : has_checksum (4 + o) ≡ has_checksum o
  sum_same = omega arith

module _ (op o : ℕ) (d : List ℕ) (whole : options_in o ≡ o) where
  place_same : place (4 + o) ≡ place o
  place_same = rw (two-same o whole, length-same o whole)

  size_same : data_size (packet_of op o d) ≡ length d
  unfolding packet_of
  size_same = rw (length-packet op o d, place_same, sum_same o whole) (omega arith)

  opcode-same : opcode_of (packet_of op o d) ≡ op
  unfolding packet_of
  opcode-same =
      let low : byte_at (packet_of op o d) 1 ≡ op = refl in
      let high : two_byte o * byte_at (packet_of op o d) 2 ≡ 0 = high_zero (two_byte o) (present (has_length o) (word_bytes (length d))) d _ (omega arith) in
      rw (two-same o whole) (omega arith)

  content-same : data_of (packet_of op o d) ≡ d
  unfolding packet_of
  content-same = rw (size_same, place_same) (between (head_bytes op o (length d)) d _ (place o) (length-head op o (length d)))

  length-test : length_differs (packet_of op o d) ≡ false
  unfolding packet_of
  length-test =
      rw (size_same, length-same o whole, two-same o whole)
      (length-right (two_byte o) (has_length o) (4 + o) op d _ (omega arith) (omega arith))

  sum-test : checksum_differs (packet_of op o d) ≡ false
  unfolding packet_of
  sum-test = rw (sum_same o whole) (sum-right (has_checksum o) (head_bytes op o (length d) ++ d) (packet_of op o d) refl (omega arith))

  refusal-same : first (refusals (packet_of op o d)) ≡ first ((3, ltb 512 (fields o + length d)) ∷ judgement op o d)
  unfolding packet_of
  refusal-same =
      let p : List ℕ = packet_of op o d in
      let options : options_in (4 + o) ≡ o = omega arith in
      let short : too_short p ≡ false = le-ltb (length p) (fields (4 + o)) (rw (length-packet op o d, place_same, sum_same o whole) (omega arith)) in
      let here : elsewhere p ≡ false = ap not (eq-eqb (destination (4 + o)) 4 (omega arith)) in
      only-long (too_long p) (judgement (opcode_of p) (options_in (header_of p)) (data_of p)) short length-test sum-test here
      ∙ alike (λ (op o : ℕ) (d : List ℕ). first ((3, too_long p) ∷ judgement op o d)) opcode-same options content-same
      ∙ ap (λ (n : ℕ). first ((3, ltb 512 n) ∷ judgement op o d)) (length-packet op o d)

  pub made_reads : MadeReads op o d
  unfolding packet_of
  made_reads =
      record {
        header = refl;
        opcode = opcode-same;
        options = omega arith;
        data-place = place_same;
        data-size = size_same;
        content = content-same;
        refusal = refusal-same;
      }

row-failed : (n : ℕ) (a : Bool) (ts : List (ℕ × Bool)) → first ((suc n, a) ∷ ts) ≡ 0 → (a ≡ false) × (first ts ≡ 0)
row-failed n true ts h = absurd (omega arith)
row-failed n false ts h = (refl, h)

module _ (op options : ℕ) (d buffer : List ℕ) where
  options-whole : options_in (options_in options) ≡ options_in options
  options-whole = omega arith

  pub made-number : (made op options d buffer).status ≡ first (make_refusals op (options_in options) d (length buffer))
  made-number =
      ap (λ (m : Made). m.status) (made-by op options d buffer (first (make_refusals op (options_in options) d (length buffer))) refl)
      ∙ made-status (first (make_refusals op (options_in options) d (length buffer))) op (options_in options) d buffer

  pub made-place : (made op options d buffer).fault-place ≡ fault_place (first (make_refusals op (options_in options) d (length buffer))) op (options_in options) d
  made-place =
      ap (λ (m : Made). m.fault-place) (made-by op options d buffer (first (make_refusals op (options_in options) d (length buffer))) refl)
      ∙ made_fault (first (make_refusals op (options_in options) d (length buffer))) op (options_in options) d buffer

  number-as-read : 512 ≤ length buffer
      → first (make_refusals op (options_in options) d (length buffer)) ≡ first (refusals (packet_of op (options_in options) d))
  number-as-read room =
      ap (λ (b : Bool). first ((1, b) ∷ (3, ltb 512 (fields (options_in options) + length d)) ∷ judgement op (options_in options) d)) (le-ltb (length buffer) 512 room)
      ∙ sym (made_reads op (options_in options) d options-whole).refusal

  pub refuses-as-read : 512 ≤ length buffer
      → ((made op options d buffer).status ≡ (reading (packet_of op (options_in options) d)).number)
      × ((made op options d buffer).fault-place ≡ (reading (packet_of op (options_in options) d)).fault-place)
  refuses-as-read room =
      let reads = made_reads op (options_in options) d options-whole in
      let n : ℕ = first (make_refusals op (options_in options) d (length buffer)) in (
        made-number ∙ number-as-read room ∙ sym (reading-number (packet_of op (options_in options) d)),
        made-place
            ∙ alike (fault_place n) (sym reads.opcode) (sym reads.options) (sym reads.content)
            ∙ ap (λ (n : ℕ). fault_of n (packet_of op (options_in options) d)) (number-as-read room)
            ∙ sym (reading-fault (packet_of op (options_in options) d)),
      )

  pub reads-as-made : (made op options d buffer).status ≡ 0 → ReadsAsMade op options d (made op options d buffer)
  reads-as-made done =
      let p : List ℕ = packet_of op (options_in options) d in
      let reads = made_reads op (options_in options) d options-whole in
      let none = sym made-number ∙ done in
      let after = row-failed 0 (ltb (length buffer) 512) ((3, ltb 512 (fields (options_in options) + length d)) ∷ judgement op (options_in options) d) none in
      rw (made-by op options d buffer 0 none)
      (record {
        command =
            rw (take-over p buffer)
            (accepted p (reads.refusal ∙ after.1)
            ∙ sym (standing-as p (sym reads.opcode) (sym reads.options) (sym reads.data-place) (sym reads.data-size)));
        content = rw (take-over p buffer) reads.content;
      })
