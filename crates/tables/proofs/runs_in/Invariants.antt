-- What is left to write makes the goal: a pair fills its run and moves the place. What stands
-- behind the numbers stays.
use Rattle.std.proofs.Common.{◌≡◌, ◌≤◌, ◌+◌, ◌*◌, length, drop}
use lib.Seq.{sets}
use Rattle.wire.specs.Tables.{words}
use Rattle.gain_words.specs.Pairs.{expand, sum_runs}
use Rattle.tables.specs.Behind.{SameBehind}
use Rattle.tables.proofs.runs_in.Given as goal

abbrev pub invariant-loop-k : goal.invariant-loop-k
invariant-loop-k g l = let numbers = g.T.Element.numbers in
    let left = drop (2 * l.k) (words l.src) in
    (sets (numbers l.table) l.place (expand left) ≡ sets (numbers l.initial.table) l.at (expand (words l.src)))
    × (l.place + sum_runs left ≤ length (numbers l.initial.table))
    × (length (numbers l.table) ≡ length (numbers l.initial.table))
    × SameBehind g.T.Element.WIDTH numbers l.table l.initial.table
