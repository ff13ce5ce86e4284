use Rattle.group_ops.proofs.Roomy.{below_next, below_all, counted_small}
use Rattle.machine.proofs.Steps.{sized}
use native.Mathlib.Omega.{arith}
use Rattle.group_ops.proofs.room.has_room.Goals as goal

pub bounds-m-at : goal.bounds-m-at
bounds-m-at c = omega (arith, sized c.requires.image, c.cpu_place-at.ensures, c.loop-t-test.true)

pub bounds-m-at-in-loop-t : goal.bounds-m-at-in-loop-t
bounds-m-at-in-loop-t c = omega (arith, sized c.requires.image, c.cpu_place-at.ensures, c.loop-t-test.true)

pub overflow_add-most : goal.overflow_add-most
overflow_add-most c = omega (arith, counted_small c.requires.image _ c.cpu_place-at.ensures c.loop-t-test.true c.max-most.ensures c.requires.count_bound)

pub loop-t-preserved : goal.loop-t-preserved
loop-t-preserved c = record { few = omega arith; room = λ M e o. below_next _ _ M e o _ _ _ c.loop-t-test.true c.cpu_place-at.ensures c.max-most.ensures c.if-most-count-gt64.false (c.loop-t.invariant.room M e o) }

pub returns : goal.returns
returns c = λ M e o z. below_all _ _ M e o _ c.loop-t-test.false c.requires.count_bound (c.loop-t.invariant.room M e o)
