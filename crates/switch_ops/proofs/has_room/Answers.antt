-- `switch_ops::has_room` meets its contract. Assumes nothing.
use native.Mathlib.Omega.{arith}
use Rattle.machine.proofs.Steps.{sized}
use Rattle.switch_ops.proofs.Counted.{small_counts, counts_are}
use Rattle.switch_ops.proofs.has_room.Goals as goal

pub bounds-m-at : goal.bounds-m-at
bounds-m-at c = omega (arith, sized c.requires.image)

pub bounds-m-at-2 : goal.bounds-m-at-2
bounds-m-at-2 c = omega (arith, sized c.requires.image)

pub overflow_add-result-3 : goal.overflow_add-result-3
overflow_add-result-3 c = omega (arith, small_counts c.requires.image _ c.start-at.ensures c.args.cpu.present)

pub bounds-m-at-3 : goal.bounds-m-at-3
bounds-m-at-3 c = omega (arith, sized c.requires.image)

pub overflow_add-result-5 : goal.overflow_add-result-5
overflow_add-result-5 c = omega (arith, small_counts c.requires.image _ c.start-at.ensures c.args.cpu.present)

pub returns : goal.returns
returns c = λ M e o. counts_are _ _ c.start-at.ensures c.args.cpu.present M e o
