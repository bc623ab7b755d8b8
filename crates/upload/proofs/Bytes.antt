-- Rule 6.3: a part's packet byte by byte; and that every number of the batch is a byte.
use Prim.Native.Nat.{ℕ, zero, suc, ◌+◌, ◌*◌, ◌/◌, ◌%◌, ◌≤◌, ◌<◌}
use mathlib.Core.Path.{◌≡◌}
use mathlib.Core.List.{List, [], ◌∷◌, ◌++◌, append-nil, map}
use native.Mathlib.Omega.{arith}
use lib.ListN.{length, take, drop, get_or, length-take, length-drop}
use lib.Seq.{get_or-drop}
use lib.Dec.{lit<}
use Rattle.wire.specs.Tables.{bytes}
use Rattle.wire.proofs.Tables.{length-halves, halves-below}
use Rattle.packet.specs.Making.{packet_of}
use Rattle.upload.specs.Plan.{Part, packet_for, packets_of, joined, batch_of}
use Rattle.upload.specs.Judge.{MapOf}
use Rattle.upload.specs.Parts.{Fits, InOrder, none, next}
use Rattle.upload.proofs.Lists.{plan-in-order}

pub packet-form : (n : ℕ) (wanted : List ℕ) (p : Part) → length wanted ≡ 2 * n → Fits n p
    → packet_for wanted p
    ≡ 0x14 ∷ 0x34 ∷ (2 + 4 * p.count) % 256 ∷ (2 + 4 * p.count) / 256 ∷ p.start % 256 ∷ p.start / 256
    ∷ bytes (take (2 * p.count) (drop (2 * p.start) wanted))
unfolding packet_for packet_of
packet-form n wanted p e f =
    let pts : List ℕ = take (2 * p.count) (drop (2 * p.start) wanted) in
    let wide : length pts ≡ 2 * p.count = simp (length-take, length-drop) (omega arith) in
    let long : suc (suc (length (bytes pts))) ≡ 2 + 4 * p.count = omega (arith, length-halves 256 pts) in
    rw (long, append-nil (bytes pts))

-- Numbers below a bound, in parts of a list and in lists together.
pub below-take : {b : ℕ} (n : ℕ) (l : List ℕ) → 0 < b → ((k : ℕ) → get_or l k 0 < b) → (k : ℕ) → get_or (take n l) k 0 < b
below-take zero l z h k = z
below-take (suc n) [] z h k = z
below-take (suc n) (x ∷ l) z h zero = h 0
below-take (suc n) (x ∷ l) z h (suc k) = below-take n l z (λ i. h (suc i)) k

below-append : {b : ℕ} (l m : List ℕ) → ((k : ℕ) → get_or l k 0 < b) → ((k : ℕ) → get_or m k 0 < b) → (k : ℕ) → get_or (l ++ m) k 0 < b
below-append [] m h g k = g k
below-append (x ∷ l) m h g zero = h 0
below-append (x ∷ l) m h g (suc k) = below-append l m (λ i. h (suc i)) g k

below-form : (s c : ℕ) (l : List ℕ) → s < 65536 → c ≤ 126 → ((k : ℕ) → get_or l k 0 < 256)
    → (k : ℕ) → get_or (0x14 ∷ 0x34 ∷ (2 + 4 * c) % 256 ∷ (2 + 4 * c) / 256 ∷ s % 256 ∷ s / 256 ∷ l) k 0 < 256
below-form s c l h i g zero = lit< tt
below-form s c l h i g (suc zero) = lit< tt
below-form s c l h i g (suc (suc zero)) = omega arith
below-form s c l h i g (suc (suc (suc zero))) = omega arith
below-form s c l h i g (suc (suc (suc (suc zero)))) = omega arith
below-form s c l h i g (suc (suc (suc (suc (suc zero))))) = omega arith
below-form s c l h i g (suc (suc (suc (suc (suc (suc k)))))) = g k

-- Up to 65,536 points, of which rule 6.1 takes 1,984.
module _ (n : ℕ) (small : n ≤ 65536) (wanted : List ℕ) (w : MapOf n wanted) where
  pub packet-bytes : (p : Part) → Fits n p → (k : ℕ) → get_or (packet_for wanted p) k 0 < 256
  packet-bytes p f =
      let pts : List ℕ = take (2 * p.count) (drop (2 * p.start) wanted) in
      let points : (k : ℕ) → get_or (bytes pts) k 0 < 256 =
      halves-below 256 pts (below-take (2 * p.count) (drop (2 * p.start) wanted) (lit< tt) (λ k. rw get_or-drop (w.words _))) in
      rw (packet-form n wanted p w.long f)
      (below-form p.start p.count (bytes pts) (omega arith) f.few points)

  parts-bytes : {i : ℕ} {ps : List Part} → InOrder n i ps → (k : ℕ) → get_or (joined (map (packet_for wanted) ps)) k 0 < 256
  unfolding joined
  parts-bytes none k = lit< tt
  parts-bytes (next {p = p} {ps = ps} l f r) k = below-append (packet_for wanted p) (joined (map (packet_for wanted) ps)) (packet-bytes p f) (λ j. parts-bytes r j) k

  pub batch-bytes : (held : List ℕ) → MapOf n held → (k : ℕ) → get_or (batch_of held wanted) k 0 < 256
  unfolding batch_of packets_of
  batch-bytes held h k = parts-bytes (plan-in-order n held wanted h.long w.long) k
