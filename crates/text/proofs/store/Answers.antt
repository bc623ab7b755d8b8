-- The loop keeps that the digits taken off stand behind `end`; the one or two that are left come to the start.
use native.Mathlib.Omega.{arith}
use Rattle.text.proofs.Number.{store-start, store-turn, store_long, store-end, store-room, store-room-two, store-one, store_two}
use mathlib.Core.Path.{◌∙◌}
use Rattle.text.proofs.store.Goals as goal

pub loop-rest-init : goal.loop-rest-init
loop-rest-init c = store-start _ _ _ _ c.ranges.n.fits c.requires.0

pub overflow_sub-end : goal.overflow_sub-end
overflow_sub-end c = omega (arith, store-room c.loop-rest.invariant c.loop-rest-test.true)

pub store_pair-requires : goal.store_pair-requires
store_pair-requires c = let inv = c.loop-rest.invariant in
    let room = store-room inv c.loop-rest-test.true in
    (omega (arith, (store-end inv).1, store_long inv), omega arith)

pub loop-rest-preserved : goal.loop-rest-preserved
loop-rest-preserved c = rw c.store_pair.ensures (store-turn c.loop-rest.invariant c.loop-rest-test.true)

pub bounds-out-at : goal.bounds-out-at
bounds-out-at c = let inv = c.loop-rest.invariant in omega (arith, store-end inv, store_long inv)

pub store_pair-requires-else-rest-lt10 : goal.store_pair-requires-else-rest-lt10
store_pair-requires-else-rest-lt10 c = let inv = c.loop-rest.invariant in
    let room = store-room-two inv c.if-rest-lt10.false in
    (omega (arith, (store-end inv).1, store_long inv), omega arith)

pub returns-then-rest-lt10 : goal.returns-then-rest-lt10
returns-then-rest-lt10 c = rw c.digit.ensures (store-one c.loop-rest.invariant c.if-rest-lt10.true)

pub returns-else-rest-lt10 : goal.returns-else-rest-lt10
returns-else-rest-lt10 c = c.store_pair-else-rest-lt10.ensures
    ∙ store_two c.loop-rest.invariant c.if-rest-lt10.false c.loop-rest-test.false
