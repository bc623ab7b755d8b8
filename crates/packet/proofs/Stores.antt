-- Runs of stores, one behind the other, are one run; a run from the start of a buffer writes over it. So the stores of a packet's
-- parts put the packet over the buffer.
use Prim.Native.Nat.{ℕ, zero, suc, ◌+◌, ◌*◌, ◌≤◌, ◌<◌}
use mathlib.Core.Path.{◌≡◌, refl, sym, ◌∙◌}
use mathlib.Core.List.{List, [], ◌∷◌, ◌++◌}
use native.Mathlib.Omega.{arith}
use lib.ListN.{length, take, length-append}
use lib.Seq.{sets, sets-eq, paste}
use Rattle.wire.specs.Numbers.{word_bytes}
use Rattle.wire.specs.Checksum.{checksum}
use Rattle.wire.specs.Buffers.{over}
use Rattle.wire.proofs.Copies.{sets-paste}
use Rattle.wire.proofs.Laws.{sets-append, take-over}
use Rattle.opcode.specs.Options.{two_byte, has_length, has_checksum}
use Rattle.packet.specs.Frame.{place, fields}
use Rattle.packet.specs.Making.{present, head_bytes, packet_of}

pub sets-sets : (l : List ℕ) (i j : ℕ) (a b : List ℕ) → j ≡ i + length a → sets (sets l i a) j b ≡ sets l i (a ++ b)
sets-sets l i j a b e = rw e (sets-append l i a b)

pub sets_over : (s l : List ℕ) → length s ≤ length l → sets l 0 s ≡ over s l
unfolding over
sets_over s l h =
    let same : 0 + length s ≡ length s = omega arith in
    rw same at (sets-eq s l 0 (omega arith))

-- A store behind a run from the start.
pub stored : (l a b : List ℕ) {m n : List ℕ} {j : ℕ} → j ≡ length a → m ≡ sets l 0 a → n ≡ sets m j b → n ≡ sets l 0 (a ++ b)
stored l a b {m} {n} {j} h e f = f ∙ rw e (sets-sets l 0 j a b (omega arith))

-- Lengths.
pub length-present : (option : ℕ) (s : List ℕ) → option < 2 → length (present option s) ≡ option * length s
length-present zero s h = omega arith
length-present (suc zero) s h = omega arith
length-present (suc (suc n)) s h = absurd (omega arith)

pub length-head : (op o n : ℕ) → length (head_bytes op o n) ≡ place o
length-head op o n =
    simp length-append (omega (arith, length-present (two_byte o) (0 ∷ []) (omega arith), length-present (has_length o) (word_bytes n) (omega arith)))

pub length_front : (op o : ℕ) (d : List ℕ) → length (head_bytes op o (length d) ++ d) ≡ place o + length d
length_front op o d = rw length-append (omega (arith, length-head op o (length d)))

pub length-packet : (op o : ℕ) (d : List ℕ) → length (packet_of op o d) ≡ fields o + length d
unfolding packet_of
length-packet op o d =
    let s : List ℕ = head_bytes op o (length d) ++ d in
    rw (length-append s (present (has_checksum o) (checksum s ∷ [])))
    (omega (arith, length_front op o d, length-present (has_checksum o) (checksum s ∷ []) (omega arith)))

-- A packet's stores: four for the head, the data copied behind it, and the checksum.
module _ (op o : ℕ) (d l : List ℕ) (room : fields o + length d ≤ length l) where
  pub stores : {b₁ b₂ b₃ b₄ b₅ b₆ : List ℕ} {at from end : ℕ}
      → b₁ ≡ sets l 0 ((4 + o) ∷ [])
      → b₂ ≡ sets b₁ 1 (op ∷ [])
      → b₃ ≡ sets b₂ 2 (present (two_byte o) (0 ∷ []))
      → at ≡ 2 + two_byte o → b₄ ≡ sets b₃ at (present (has_length o) (word_bytes (length d)))
      → from ≡ at + 2 * has_length o → length b₄ ≡ length l → b₅ ≡ paste b₄ from d (length d)
      → end ≡ from + length d → b₆ ≡ sets b₅ end (present (has_checksum o) (checksum (take end b₅) ∷ []))
      → b₆ ≡ over (packet_of op o d) l
  unfolding packet_of
  stores {b₁} {b₂} {b₃} {b₄} {b₅} {b₆} {at} {from} {end} e₁ e₂ e₃ h₄ e₄ h₅ same e₅ h₆ e₆ =
      let high : List ℕ = present (two_byte o) (0 ∷ []) in
      let size : List ℕ = present (has_length o) (word_bytes (length d)) in
      let s : List ℕ = head_bytes op o (length d) ++ d in
      let two : b₂ ≡ sets l 0 ((4 + o) ∷ op ∷ []) = stored l ((4 + o) ∷ []) (op ∷ []) refl e₁ e₂ in
      let three : b₃ ≡ sets l 0 ((4 + o) ∷ op ∷ high) = stored l ((4 + o) ∷ op ∷ []) high refl two e₃ in
      let head : b₄ ≡ sets l 0 (head_bytes op o (length d)) =
      stored l ((4 + o) ∷ op ∷ high) size (omega (arith, length-present (two_byte o) (0 ∷ []) (omega arith))) three e₄ in
      let front : b₅ ≡ sets l 0 s =
      stored l (head_bytes op o (length d)) d (omega (arith, length-head op o (length d))) head (e₅ ∙ sym (sets-paste b₄ from d (omega arith))) in
      let long : end ≡ length s = omega (arith, length_front op o d) in
      let first : take end b₅ ≡ s = rw (front, long, sets_over s l (omega arith)) (take-over s l) in
      let whole : b₆ ≡ sets l 0 (packet_of op o d) = stored l s (present (has_checksum o) (checksum s ∷ [])) long front (rw first at e₆) in
      whole ∙ sets_over (packet_of op o d) l (omega (arith, length-packet op o d))
