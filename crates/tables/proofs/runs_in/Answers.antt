use Rattle.std.proofs.Common.{◌*◌, ◌∙◌, arith}
use lib.Seq.{length-sets}
use Rattle.wire.specs.Tables.{words}
use Rattle.gain_words.proofs.Walk.{next-pair}
use Rattle.tables.proofs.Parts.{runs-turn, runs-left, runs_done}
use Rattle.tables.proofs.runs_in.Goals as goal

pub fill-requires : goal.fill-requires
fill-requires g c = let ws = words c.args.src.now in
    omega (arith, c.loop-k.invariant.1, c.loop-k.invariant.2, runs-left ws (2 * c.loop-k.k) (omega arith) c.number-run.ensures)

pub overflow_add-place : goal.overflow_add-place
overflow_add-place g c = let ws = words c.args.src.now in
    omega (arith, c.loop-k.invariant.1, runs-left ws (2 * c.loop-k.k) (omega arith) c.number-run.ensures, g.T.Element.laws.short c.args.table.now)

pub loop-k-preserved : goal.loop-k-preserved
loop-k-preserved g c = let numbers = g.T.Element.numbers in
    let ws = words c.args.src.now in
    let k = c.loop-k.k in
    let left = runs-left ws (2 * k) (omega arith) c.number-run.ensures in
    let aim = runs-turn ws (numbers c.loop-k.table) (2 * k) c.loop-k.place (omega arith) c.number-run.ensures c.number.ensures in
    rw (next-pair k) (
      rw c.fill.ensures.numbers (aim ∙ c.loop-k.invariant.0),
      omega (arith, left, c.loop-k.invariant.1),
      rw c.fill.ensures.numbers (rw length-sets c.loop-k.invariant.2),
      c.fill.ensures.behind ∙ c.loop-k.invariant.3,
    )

pub returns-clause-numbers : goal.returns-clause-numbers
returns-clause-numbers g c = let ws = words c.args.src.now in
    rw (runs_done ws (2 * c.loop-k.k) (omega arith)) at c.loop-k.invariant.0
