-- Pairs, or gains one by one, behind the fields.
use Rattle.gain_words.proofs.Right.{large-bound, fault-bound}
use Rattle.opcode.specs.Judgement.{words_fault}
use Rattle.opcode.proofs.judgement.words_fault.Goals as goal

pub returns-then-in_pairs : goal.returns-then-in_pairs
unfolding words_fault
returns-then-in_pairs c = (
  simp (← c.in_pairs.ensures, c.if-in_pairs.true, ← c.words-words.ensures) c.pair_fault.ensures,
  rw (c.pair_fault.ensures, c.words-words.ensures) (fault-bound c.args.«data».now 6),
)

pub returns : goal.returns
unfolding words_fault
returns c = (
  simp (← c.in_pairs.ensures, c.if-in_pairs.false, ← c.words-words.ensures) c.first_large.ensures,
  rw (c.first_large.ensures, c.words-words.ensures) (large-bound c.args.«data».now 6),
)
