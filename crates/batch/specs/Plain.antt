-- Rule 10.3: a packet of compressed gains, byte by byte. Rules 6.4 and 10.4: what is told of a
-- batch.
use Rattle.std.specs.Prelude.{ℕ, ◌+◌, ◌*◌, ◌/◌, ◌%◌, ◌≡◌, List, ◌∷◌, length, Ok, Err}
use Rattle.wire.specs.Tables.{bytes}
use Rattle.batch.specs.declared.Sent.{Sent}
use Rattle.batch.specs.Pairs.{pairs_packet}
use Rattle.batch.specs.Sending.{packets_of, bytes_of}

-- Rule 10.3: header 14h and 2Bh, how many bytes follow, flag 1, the colour, how many words, where
-- they start, and the words, low byte first. Rules 6.4 and 10.4: so many packets and bytes, of a
-- refusal none.
pub record Pinned : Type 0 where
  pub pairs-packet : (colour start : ℕ) (ws : List ℕ)
      → pairs_packet colour start ws
      ≡ 0x14 ∷ 0x2B ∷ (6 + 2 * length ws) % 256 ∷ (6 + 2 * length ws) / 256 ∷ 1 ∷ colour
      ∷ length ws % 256 ∷ length ws / 256 ∷ start % 256 ∷ start / 256 ∷ bytes ws
  -- A refusal is of a type with one value here; planning and splitter say the same of theirs.
  pub sent : (sent : Sent) → (packets_of {E = Unit} (Ok sent) ≡ sent.packets) × (bytes_of {E = Unit} (Ok sent) ≡ sent.bytes)
  pub none-sent : (packets_of {E = Unit} (Err tt) ≡ 0) × (bytes_of {E = Unit} (Err tt) ≡ 0)
