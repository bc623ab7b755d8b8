-- The loop keeps that the text of the first bytes stands in the buffer.
use Rattle.text.proofs.Bytes.{Writing}
use Rattle.text.proofs.store_all.Given as goal

abbrev pub invariant-loop-b : goal.invariant-loop-b
invariant-loop-b l = Writing l.initial.out l.at l.bytes l.out l.end l.b-index
