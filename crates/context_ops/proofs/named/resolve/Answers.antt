use Rattle.context_ops.proofs.Resolved.{live_below, absent_cpu, gone_context, locked_context, free_context}
use Rattle.machine.proofs.Steps.{sized}
use native.Mathlib.Omega.{arith}
use Rattle.context_ops.proofs.named.resolve.Goals as goal

pub returns-in_default : goal.returns-in_default
returns-in_default c = λ M e o. absent_cpu M _ _ _ (c.get_percpu_block.ensures M e o) c.in_default.is

pub returns-in_default-look_up : goal.returns-in_default-look_up
returns-in_default-look_up c = λ M e o. gone_context M _ _ _ (c.get_percpu_block.ensures M e o) _ c.in-Some.is _ (c.look_up.ensures M e o) c.in_default-look_up.is

pub context_place-at-requires : goal.context_place-at-requires
context_place-at-requires c = omega (arith, sized c.requires, live_below c.requires _ _ _ c.look_up.ensures c.in-Some-look_up.is)

pub overflow_add-at : goal.overflow_add-at
overflow_add-at c = omega (arith, sized c.requires, live_below c.requires _ _ _ c.look_up.ensures c.in-Some-look_up.is)

pub offset_bounds-m-at : goal.offset_bounds-m-at
offset_bounds-m-at c = omega (arith, sized c.requires, live_below c.requires _ _ _ c.look_up.ensures c.in-Some-look_up.is)

pub bounds-m-at : goal.bounds-m-at
bounds-m-at c = omega (arith, sized c.requires, live_below c.requires _ _ _ c.look_up.ensures c.in-Some-look_up.is)

pub returns-then-m-at-ne0 : goal.returns-then-m-at-ne0
returns-then-m-at-ne0 c = λ M e o. locked_context M _ _ _ (c.get_percpu_block.ensures M e o) _ c.in-Some.is _ (c.look_up.ensures M e o) _ e o _ c.in-Some-look_up.is c.context_place-at.ensures c.if-m-at-ne0.true

pub returns : goal.returns
returns c = λ M e o. free_context M _ _ _ (c.get_percpu_block.ensures M e o) _ c.in-Some.is _ (c.look_up.ensures M e o) _ e o _ c.in-Some-look_up.is c.context_place-at.ensures c.if-m-at-ne0.false
