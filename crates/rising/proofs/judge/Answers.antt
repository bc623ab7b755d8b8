-- The size, the first list, the second, and then nothing is at fault.
use native.Mathlib.Omega.{arith}
use Rattle.rising.proofs.Alone.{by_size, by-columns, by_rows, by-neither}
use Rattle.rising.proofs.judge.Goals as goal

pub returns-then-lists-ne-LISTS_SIZE : goal.returns-then-lists-ne-LISTS_SIZE
returns-then-lists-ne-LISTS_SIZE c = omega (arith, by_size c.args.lists.now c.if-lists-ne-LISTS_SIZE.true)

pub returns-then-columns-lt-MOST_COLUMNS : goal.returns-then-columns-lt-MOST_COLUMNS
returns-then-columns-lt-MOST_COLUMNS c = let columns = c.rise-columns.ensures.0 in
    omega (arith, by-columns c.args.lists.now (omega arith) (omega arith))

pub returns-then-rows-lt-MOST_ROWS : goal.returns-then-rows-lt-MOST_ROWS
returns-then-rows-lt-MOST_ROWS c = let columns = c.rise-columns.ensures.0 in
    let rows = c.rise-rows.ensures.0 in
    omega (arith, by_rows c.args.lists.now (omega arith) (omega arith) (omega arith))

pub returns : goal.returns
returns c = let columns = c.rise-columns.ensures.0 in
    let rows = c.rise-rows.ensures.0 in
    omega (arith, by-neither c.args.lists.now (omega arith) (omega arith) (omega arith))
