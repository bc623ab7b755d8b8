-- What is answered of a batch that is made or refused.
use Rattle.std.specs.Prelude.{ℕ, Result, Ok, Err}
use Rattle.batch.specs.declared.Sent.{Sent}

-- Rules 6.4 and 10.4: a refusal has no packets, and no bytes.
abbrev pub packets_of : {E : Type 0} → Result Sent E → ℕ
packets_of (Ok sent) = sent.packets
packets_of (Err why) = 0

abbrev pub bytes_of : {E : Type 0} → Result Sent E → ℕ
bytes_of (Ok sent) = sent.bytes
bytes_of (Err why) = 0
