-- The table, proved by its test.
use Rattle.bench_table.proofs.Holds.{rows-hold}
use Rattle.bench_table.proofs.rows_hold.Goals as goal

pub returns : goal.returns
returns c = rows-hold
