-- The loop takes off four digits a turn; the one to four that are left are counted by tests.
use native.Mathlib.Omega.{arith}
use Rattle.text.proofs.Number.{count-start, count_turn, count_most, count-one, count-tens, count-hundreds, count-thousands}
use Rattle.text.proofs.count.Goals as goal

pub loop-rest-init : goal.loop-rest-init
loop-rest-init c = count-start _ c.ranges.n.fits

pub overflow_add-k : goal.overflow_add-k
overflow_add-k c = omega (arith, count_most c.loop-rest.invariant)

pub loop-rest-preserved : goal.loop-rest-preserved
loop-rest-preserved c = count_turn c.loop-rest-test.true c.loop-rest.invariant

pub overflow_add-result : goal.overflow_add-result
overflow_add-result c = omega (arith, count_most c.loop-rest.invariant)

pub overflow_add-result-then-rest-lt100 : goal.overflow_add-result-then-rest-lt100
overflow_add-result-then-rest-lt100 c = omega (arith, count_most c.loop-rest.invariant)

pub overflow_add-result-then-rest-lt1000 : goal.overflow_add-result-then-rest-lt1000
overflow_add-result-then-rest-lt1000 c = omega (arith, count_most c.loop-rest.invariant)

pub overflow_add-result-else-rest-lt1000 : goal.overflow_add-result-else-rest-lt1000
overflow_add-result-else-rest-lt1000 c = omega (arith, count_most c.loop-rest.invariant)

pub returns-then-rest-lt10 : goal.returns-then-rest-lt10
returns-then-rest-lt10 c = count-one c.if-rest-lt10.true c.loop-rest.invariant

pub returns-then-rest-lt100 : goal.returns-then-rest-lt100
returns-then-rest-lt100 c = count-tens c.if-rest-lt10.false c.if-rest-lt100.true c.loop-rest.invariant

pub returns-then-rest-lt1000 : goal.returns-then-rest-lt1000
returns-then-rest-lt1000 c = count-hundreds c.if-rest-lt100.false c.if-rest-lt1000.true c.loop-rest.invariant

pub returns-else-rest-lt1000 : goal.returns-else-rest-lt1000
returns-else-rest-lt1000 c = count-thousands c.if-rest-lt1000.false c.loop-rest-test.false c.loop-rest.invariant
