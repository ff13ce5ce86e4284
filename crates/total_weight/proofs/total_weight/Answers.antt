use Rattle.total_weight.proofs.Weighed.{light, sched_below, active_counts, idle_not_counted, prio_below}
use Rattle.machine.proofs.Steps.{sized}
use native.Mathlib.Omega.{arith}
use borrow.Author.Rules.{rules}
use Rattle.total_weight.proofs.total_weight.Goals as goal

-- src/lib.rt:42:31
pub slice_bounds-queue_weight-end : goal.slice_bounds-queue_weight-end
slice_bounds-queue_weight-end c = omega (arith, sized c.requires.image)

-- src/lib.rt:42:9
pub queue_weight-queued-requires : goal.queue_weight-queued-requires
queue_weight-queued-requires c = record { b_len = search rules; light = light _ c.start-at.ensures c.args.cpu.present c.requires.image }

-- src/lib.rt:43:28
pub bounds-m-at : goal.bounds-m-at
bounds-m-at c = omega (arith, sized c.requires.image)

-- src/lib.rt:44:9
pub load-q-requires : goal.load-q-requires
load-q-requires c = record { image = c.requires.image; x_lt_n = sched_below _ c.start-at.ensures c.args.cpu.present c.requires.image _ c.index-x.ensures }

-- src/lib.rt:46:25
pub weight_of-requires : goal.weight_of-requires
weight_of-requires c = prio_below c.requires.image _ _ (sched_below _ c.start-at.ensures c.args.cpu.present c.requires.image _ c.index-x.ensures) c.load-q.ensures

-- src/lib.rt:46:9
pub returns-then-q : goal.returns-then-q
returns-then-q c = λ M e o. active_counts _ c.start-at.ensures c.args.cpu.present M e o _ _ _ c.queue_weight-queued.ensures.0 c.index-x.ensures (c.load-q.ensures M e o) c.if-q.true _ c.weight_of.ensures.0

-- src/lib.rt:35:1
pub returns : goal.returns
returns c = λ M e o. idle_not_counted _ c.start-at.ensures c.args.cpu.present M e o _ _ _ c.queue_weight-queued.ensures.0 c.index-x.ensures (c.load-q.ensures M e o) c.if-q.false
