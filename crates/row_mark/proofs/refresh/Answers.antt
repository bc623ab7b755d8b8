-- A row a turn: its bit, and no other.
use mathlib.Core.Path.{◌∙◌, ap}
use mathlib.Core.Bool.{Bool}
use lib.ListN.{set}
use Rattle.row_mark.specs.Bits.{bits_of}
use Rattle.row_mark.proofs.Rows.{refreshing-turn, refreshing-done}
use Rattle.row_mark.proofs.refresh.Goals as goal

pub loop-row-preserved : goal.loop-row-preserved
loop-row-preserved g c = refreshing-turn c.loop-row-test.true
    (c.put_bit-fresh.ensures ∙ ap (λ (moved : Bool). set (bits_of 32 c.loop-row.fresh) c.loop-row.row moved) c.row_differs.ensures)
    c.loop-row.invariant

pub returns : goal.returns
returns g c = refreshing-done c.loop-row-test.false c.loop-row.invariant
