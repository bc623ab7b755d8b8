-- What a reply is.
use Rattle.std.specs.Prelude.{ℕ, Bool, List, ◌∷◌, ◌++◌, length}
use Rattle.wire.specs.Numbers.{word_bytes}
use Rattle.wire.specs.Checksum.{sealed}

-- Rule 3.1: status, data length in two bytes, data, and behind them their checksum where the packet has one.
unfoldable pub reply_bytes : Bool → ℕ → List ℕ → List ℕ
reply_bytes sum status d = sealed sum (status ∷ (word_bytes (length d) ++ d))
