use Prim.Native.Nat.{◌<◌}
use native.Mathlib.Omega.{arith}
use Rattle.machine.proofs.Steps.{sized, step_then}
use Rattle.context_ops.proofs.Waking.{list_below, list_count, no_room, woken}
use Rattle.context_ops.proofs.wake.wakeup_on.Goals as goal

pub bounds-m-at : goal.bounds-m-at
bounds-m-at c =
    let b : c.list_for-t.result.0 < c.args.cpu.c = rw c.list_for-t.ensures (list_below c.args.cpu.k c.args.other c.args.cpu.present c.requires.other)
    in omega (arith, sized c.requires.image, c.cpu_place.ensures, c.count.ensures.1)

pub returns-then-m-at-ge64 : goal.returns-then-m-at-ge64
returns-then-m-at-ge64 c = λ M e o. no_room c.args.m.now M e o _ _ _ _ c.args.other (list_below _ _ c.args.cpu.present c.requires.other)
    (rw (list_count c.args.cpu.n c.args.m.now c.args.cpu.k c.args.other c.list_for-t.ensures c.cpu_place.ensures c.count.ensures.0) at c.if-m-at-ge64.true) c.refused.ensures

pub push-requires : goal.push-requires
push-requires c = record { image = c.requires.image; t_lt_c = (rw c.list_for-t.ensures (list_below c.args.cpu.k c.args.other c.args.cpu.present c.requires.other), c.requires.bounded, rw (← c.cpu_place.ensures, ← c.count.ensures.0) c.if-m-at-ge64.false) }

pub returns : goal.returns
returns c = λ M e o. woken c.args.m.now M e o _ _ _ _ c.args.other c.list_for-t.ensures c.is_some.ensures (list_below _ _ c.args.cpu.present c.requires.other)
    (rw (list_count c.args.cpu.n c.args.m.now c.args.cpu.k c.args.other c.list_for-t.ensures c.cpu_place.ensures c.count.ensures.0) at c.if-m-at-ge64.false) ((step_then c.push.ensures c.store.ensures).step M e o).0
