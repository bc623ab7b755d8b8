use Rattle.std.proofs.Common.{rules, arith}
use Rattle.replay.proofs.FromReset.{from_reset}
use Rattle.replay.proofs.main.Goals as goal

pub run-requires : goal.run-requires
run-requires c = (search (rules, from_reset), omega arith)
