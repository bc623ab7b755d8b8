-- What a packet's stores make of a batch.
use Prim.Native.Nat.{ℕ, suc, ◌+◌, ◌*◌, ◌/◌, ◌%◌, ◌<◌}
use mathlib.Core.Path.{◌≡◌, ap, ◌∙◌}
use mathlib.Core.List.{List, ◌∷◌, ◌++◌, append-nil}
use native.Mathlib.Omega.{arith}
use lib.ListN.{length, take, drop, length-append}
use denote.Ref.{at_last}
use Rattle.wire.specs.Numbers.{word_bytes}
use Rattle.wire.specs.Tables.{bytes}
use Rattle.wire.proofs.Laws.{sets-append}
use Rattle.wire.proofs.Tables.{length-halves}
use Rattle.packet.specs.Making.{packet_of}
use Rattle.upload.specs.Plan.{packet_for}
use Rattle.upload.specs.Parts.{part, Fits}
use Rattle.upload.proofs.Bytes.{packet-form}
use Rattle.batch.specs.Pairs.{pairs_packet}
use Rattle.batch.specs.Writing.{PacketFits}
use Rattle.batch.specs.Internal.{opened, behind, head_of}
use Rattle.batch.specs.declared.Batch.{Batch}

-- Bytes behind what is filled, and bytes behind those, are both behind it.
pub behind-behind : (b : Batch) (s t : List ℕ) → behind (behind b s) t ≡ behind b (s ++ t)
behind-behind b s t =
    let more : b.filled + length s + length t ≡ b.filled + length (s ++ t) = omega (arith, length-append s t) in
    λ i. opened (at_last b.buffer (sets-append b.buffer.now b.filled s t i)) (more i)

-- Head, start and points are the packet.
pub packet-put : (b : Batch) (map : List ℕ) (start count : ℕ) → PacketFits b.buffer.now b.filled map start count
    → behind (behind (behind b (head_of 0x34 (2 + 4 * count))) (word_bytes start)) (bytes (take (2 * count) (drop (2 * start) map)))
    ≡ behind b (packet_for map (part start count))
packet-put b map start count h =
    let fits : Fits (length map / 2) (part start count) = record { some = h.1; few = h.2; within = omega (arith, h.4) } in
    let points : List ℕ = bytes (take (2 * count) (drop (2 * start) map)) in
    let front : List ℕ = head_of 0x34 (2 + 4 * count) in
    let same : front ++ (word_bytes start ++ points) ≡ packet_for map (part start count) =
    rw (packet-form (length map / 2) map (part start count) (omega (arith, h.5)) fits) in
    behind-behind (behind b front) (word_bytes start) points
    ∙ behind-behind b front (word_bytes start ++ points)
    ∙ ap (behind b) same

-- A packet of pairs, byte by byte; head, flag and colour, count, start and words are such a packet.
pub pairs-form : (colour start : ℕ) (ws : List ℕ)
    → pairs_packet colour start ws
    ≡ 0x14 ∷ 0x2B ∷ (6 + 2 * length ws) % 256 ∷ (6 + 2 * length ws) / 256 ∷ 1 ∷ colour
    ∷ length ws % 256 ∷ length ws / 256 ∷ start % 256 ∷ start / 256 ∷ bytes ws
unfolding pairs_packet packet_of
pairs-form colour start ws =
    let long : suc (suc (suc (suc (suc (suc (length (bytes ws))))))) ≡ 6 + 2 * length ws = omega (arith, length-halves 256 ws) in
    rw (long, append-nil (bytes ws))

pub pairs-put : (b : Batch) (colour start : ℕ) (ws : List ℕ) → colour < 256
    → (let front : Batch = behind (behind b (head_of 0x2B (6 + 2 * length ws))) (word_bytes (1 + 256 * colour)) in
    behind (behind (behind front (word_bytes (length ws))) (word_bytes start)) (bytes ws) ≡ behind b (pairs_packet colour start ws))
pairs-put b colour start ws small =
    let n : ℕ = length ws in
    let front : List ℕ = head_of 0x2B (6 + 2 * n) in
    let kind : List ℕ = word_bytes (1 + 256 * colour) in
    let part : List ℕ = bytes ws in
    let low : (1 + 256 * colour) % 256 ≡ 1 = omega arith in
    let high : (1 + 256 * colour) / 256 ≡ colour = omega arith in
    let same : front ++ (kind ++ (word_bytes n ++ (word_bytes start ++ part))) ≡ pairs_packet colour start ws =
    rw (pairs-form colour start ws, low, high) in
    behind-behind (behind (behind (behind b front) kind) (word_bytes n)) (word_bytes start) part
    ∙ behind-behind (behind (behind b front) kind) (word_bytes n) (word_bytes start ++ part)
    ∙ behind-behind (behind b front) kind (word_bytes n ++ (word_bytes start ++ part))
    ∙ behind-behind b front (kind ++ (word_bytes n ++ (word_bytes start ++ part)))
    ∙ ap (behind b) same
