-- Rule 10.3: a packet of compressed gains.
use Rattle.std.specs.Prelude.{ℕ, List, [], ◌∷◌, ◌++◌, length}
use Rattle.wire.specs.Numbers.{word_bytes}
use Rattle.wire.specs.Tables.{bytes}
use Rattle.packet.specs.Making.{packet_of}

-- Rules 5.8 and 5.11: a write's data: flag 1, the colour, how many words, the start, the words.
abbrev pub pairs_data : ℕ → ℕ → List ℕ → List ℕ
pairs_data colour start ws = (1 ∷ colour ∷ []) ++ word_bytes (length ws) ++ word_bytes start ++ bytes ws

-- Rule 10.3: such a packet, with header 14h.
unfoldable pub pairs_packet : ℕ → ℕ → List ℕ → List ℕ
pairs_packet colour start ws = packet_of 0x2B 0x10 (pairs_data colour start ws)
