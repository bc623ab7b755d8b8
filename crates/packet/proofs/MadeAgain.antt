-- A packet that is read is made again, byte for byte: its head, its data and its checksum, if it has one, are those that making writes
-- from what reading gave. A two-byte opcode that is carried has a high byte of 0.
use Prim.Native.Nat.{ℕ, zero, suc, ◌+◌, ◌-◌, ◌*◌, ◌/◌, ◌%◌, ◌≤◌, ◌<◌}
use mathlib.Core.Path.{◌≡◌, refl, sym, ap, ◌∙◌}
use mathlib.Core.Bool.{false, not, ◌&&◌}
use mathlib.Core.List.{List, [], ◌∷◌, ◌++◌, append-nil}
use native.Mathlib.Nat.{add-zero}
use native.Mathlib.Omega.{arith}
use borrow.Author.Tests.{eqb-true, not-false, ltb-false}
use lib.ListN.{length, take, drop, length-drop, take-append-drop, drop_of_length-le}
use lib.Seq.{take_all, take-add, drop-cons, get_or-drop, length-take-le}
use lib.Dec.{eqb}
use Rattle.wire.specs.Numbers.{byte_at, word_at, word_bytes}
use Rattle.wire.specs.Checksum.{checksum}
use Rattle.wire.specs.Buffers.{over}
use Rattle.opcode.specs.Options.{two_byte, has_length, has_checksum, options_in}
use Rattle.opcode.specs.Judgement.{judgement}
use Rattle.opcode.proofs.Below.{carried-below}
use Rattle.packet.specs.Frame.{header_of, opcode_of, place, fields, data_size, data_of}
use Rattle.packet.specs.Reading.{too_short, too_long, length_differs, checksum_differs, elsewhere, reading}
use Rattle.packet.specs.Making.{present, head_bytes, packet_of}
use Rattle.packet.specs.Promises.{MadeAgain}
use Rattle.packet.proofs.Frames.{Passed, none_of, reading-number, accepted}
use Rattle.packet.proofs.Makes.{made-whole}
use Rattle.packet.proofs.Stores.{length-packet}
use Rattle.packet.proofs.MadeReads.{two-same, length-same, sum_same}

-- The bytes at the places of options, there or not.
first_two : (p : List ℕ) → 2 ≤ length p → take 2 p ≡ byte_at p 0 ∷ byte_at p 1 ∷ []
first_two [] h = absurd (omega arith)
first_two (x ∷ []) h = absurd (omega arith)
first_two (x ∷ y ∷ r) h = refl

high : (t : ℕ) (r : List ℕ) → t < 2 → t ≤ length r → t * byte_at r 0 ≡ 0 → take t r ≡ present t (0 ∷ [])
high zero r h i e = refl
high (suc zero) [] h i e = absurd (omega arith)
high (suc zero) (z ∷ r) h i e = let none : z ≡ 0 = omega arith in rw none
high (suc (suc t)) r h i e = absurd (omega arith)

size : (l n w : ℕ) (r : List ℕ) → l < 2 → 2 * l ≤ length r → byte_at r 0 < 256 → word_at r 0 ≡ w → (eqb l 1 && not (eqb w n)) ≡ false
    → take (2 * l) r ≡ present l (word_bytes n)
size zero n w r h i b f e = refl
size (suc zero) n w [] h i b f e = absurd (omega arith)
size (suc zero) n w (x ∷ []) h i b f e = absurd (omega arith)
size (suc zero) n w (x ∷ y ∷ r) h i b f e =
    let same = eqb-true w n (not-false (eqb w n) e) in
    let low : x ≡ n % 256 = omega arith in
    let up : y ≡ n / 256 = omega arith in
    rw (low, up)
size (suc (suc l)) n w r h i b f e = absurd (omega arith)

summed : (k : ℕ) (p : List ℕ) → k < 2 → k ≤ length p
    → (eqb k 1 && not (eqb (byte_at p (length p - 1)) (checksum (take (length p - 1) p)))) ≡ false
    → take (length p - k) p ++ present k (checksum (take (length p - k) p) ∷ []) ≡ p
summed zero p h i e = append-nil (take (length p - 0) p) ∙ take_all (length p - 0) p (omega arith)
summed (suc zero) p h i e =
    let n : ℕ = length p - 1 in
    let same = eqb-true (byte_at p n) (checksum (take n p)) (not-false (eqb (byte_at p n) (checksum (take n p))) e) in
    let end : length p ≤ suc n = omega arith in
    let last : drop n p ≡ checksum (take n p) ∷ [] = drop-cons p n 0 (omega arith) ∙ rw (same, drop_of_length-le p end) in
    rw (← last) (take-append-drop n p)
summed (suc (suc k)) p h i e = absurd (omega arith)

-- A part read from its start is the packet read from the part's place.
byte-drop : (a : ℕ) (p : List ℕ) → byte_at (drop a p) 0 ≡ byte_at p a
byte-drop a p = get_or-drop a p 0 0 ∙ rw (add-zero a)

word-drop : (a : ℕ) (p : List ℕ) → word_at (drop a p) 0 ≡ word_at p a
word-drop a p = rw (byte-drop a p, get_or-drop a p 1 0)

-- Equal parts make equal heads and equal packets.
head-alike : {x x' y y' t t' l l' : ℕ} (n : ℕ) → x ≡ x' → y ≡ y' → t ≡ t' → l ≡ l'
    → (x ∷ y ∷ present t (0 ∷ [])) ++ present l (word_bytes n) ≡ (x' ∷ y' ∷ present t' (0 ∷ [])) ++ present l' (word_bytes n)
head-alike n e f g h = rw (e, f, g, h)

seal-alike : {s s' : List ℕ} {k k' : ℕ} → s ≡ s' → k ≡ k' → s ++ present k (checksum s ∷ []) ≡ s' ++ present k' (checksum s' ∷ [])
seal-alike e f = rw (e, f)

-- The packet's parts, from what stands in it.
module _ (p : List ℕ) (bytes : (k : ℕ) → byte_at p k < 256)
    (tests : Passed (too_short p) (too_long p) (length_differs p) (checksum_differs p) (elsewhere p)) (below : opcode_of p < 256) where
  enough : fields (header_of p) ≤ length p
  enough = ltb-false (length p) (fields (header_of p)) tests.no-2

  header-again : 4 + options_in (header_of p) ≡ header_of p
  header-again = let here = eqb-true (header_of p % 8) 4 (not-false (eqb (header_of p % 8) 4) tests.no-6) in omega arith

  none_above : two_byte (header_of p) * byte_at p 2 ≡ 0
  none_above = omega arith

  opcode-again : opcode_of p ≡ byte_at p 1
  opcode-again = omega (arith, none_above)

  data-long : length (data_of p) ≡ data_size p
  data-long = length-take-le (data_size p) (drop (place (header_of p)) p) (rw length-drop (omega (arith, enough)))

  options-again : options_in (options_in (header_of p)) ≡ options_in (header_of p)
  options-again = omega arith

  head-parts : take (place (header_of p)) p
      ≡ (byte_at p 0 ∷ byte_at p 1 ∷ present (two_byte (header_of p)) (0 ∷ [])) ++ present (has_length (header_of p)) (word_bytes (data_size p))
  head-parts =
      let t : ℕ = two_byte (header_of p) in
      let l : ℕ = has_length (header_of p) in
      let up : take t (drop 2 p) ≡ present t (0 ∷ []) =
      high t (drop 2 p) (omega arith) (rw length-drop (omega (arith, enough))) (rw (byte-drop 2 p) none_above) in
      let sized : take (2 * l) (drop (2 + t) p) ≡ present l (word_bytes (data_size p)) =
      size l (data_size p) (word_at p (2 + t)) (drop (2 + t) p) (omega arith) (rw length-drop (omega (arith, enough)))
      (rw (byte-drop (2 + t) p) (bytes (2 + t))) (word-drop (2 + t) p) tests.no-4 in
      take-add (2 + t) (2 * l) p ∙ rw (take-add 2 t p, first_two p (omega (arith, enough)), up, sized)

  -- The packet made from what stands in the packet is the packet.
  pub packet-again : packet_of (opcode_of p) (options_in (header_of p)) (data_of p) ≡ p
  unfolding packet_of
  packet-again =
      let o : ℕ = options_in (header_of p) in
      let two : two_byte o ≡ two_byte (header_of p) = rw header-again at (sym (two-same o options-again)) in
      let long : has_length o ≡ has_length (header_of p) = rw header-again at (sym (length-same o options-again)) in
      let sum : has_checksum o ≡ has_checksum (header_of p) = rw header-again at (sym (sum_same o options-again)) in
      let end : length p - has_checksum (header_of p) ≡ place (header_of p) + data_size p = omega (arith, enough) in
      let front : head_bytes (opcode_of p) o (length (data_of p)) ++ data_of p ≡ take (length p - has_checksum (header_of p)) p =
      ap (λ (n : ℕ). head_bytes (opcode_of p) o n ++ data_of p) data-long
      ∙ ap (λ (s : List ℕ). s ++ data_of p) (head-alike (data_size p) header-again opcode-again two long ∙ sym head-parts)
      ∙ sym (rw end (take-add (place (header_of p)) (data_size p) p)) in
      seal-alike front sum ∙ summed (has_checksum (header_of p)) p (omega arith) (omega (arith, enough)) tests.no-5

-- What is read of a packet makes the same packet, and writes it over the buffer.
pub made_again : (p buffer : List ℕ) → ((k : ℕ) → byte_at p k < 256) → (reading p).number ≡ 0 → 512 ≤ length buffer → MadeAgain p (reading p) buffer
made_again p buffer bytes read room =
    let none = sym (reading-number p) ∙ read in
    let op : ℕ = opcode_of p in
    let o : ℕ = options_in (header_of p) in
    let d : List ℕ = data_of p in
    let failed = none_of (too_short p) (too_long p) (length_differs p) (checksum_differs p) (elsewhere p) (judgement op o d) none in
    let again = packet-again p bytes failed.0 (carried-below op o d failed.1) in
    let short = ltb-false 512 (length p) failed.0.no-3 in
    let fit : fields o + length d ≤ 512 = omega (arith, length-packet op o d, ap length again) in
    rw (accepted p none)
    (made-whole op o d buffer (omega arith) room fit failed.1
    ∙ ap (λ (q : List ℕ). record { status = 0; fault-place = 0; size = length q; buffer = over q buffer }) again)
