-- `Context::charge_runnable` meets its contract. Assumes nothing.
use mathlib.Core.Path.{◌∙◌}
use native.Mathlib.Nat.{div-le_self}
use native.Mathlib.Omega.{arith}
use Rattle.charging.proofs.Charged.{charged_yield, charged_turn}
use Rattle.charging.proofs.charge_runnable.Goals as goal

pub overflow_add-c : goal.overflow_add-c
overflow_add-c c = omega (arith, div-le_self c.args.spent.ticks c.weight_of-weight.result)

pub overflow_add-c-then-spent-lt-YIELD_BOUND : goal.overflow_add-c-then-spent-lt-YIELD_BOUND
overflow_add-c-then-spent-lt-YIELD_BOUND c = omega (arith, div-le_self c.args.spent.ticks c.weight_of-weight.result, div-le_self c.saturating_sub-rem_slice.result c.weight_of-weight.result)

pub renew-requires : goal.renew-requires
renew-requires c = (c.requires.prio, omega (arith, div-le_self c.args.spent.ticks c.weight_of-weight.result, div-le_self c.saturating_sub-rem_slice.result c.weight_of-weight.result))

pub returns-then-spent-lt-YIELD_BOUND : goal.returns-then-spent-lt-YIELD_BOUND
returns-then-spent-lt-YIELD_BOUND c = c.renew.ensures ∙ charged_yield _ _ _ _ _ _ c.weight_of-weight.ensures.0 c.saturating_sub-rem_slice.ensures c.max-vtime.ensures c.if-spent-lt-YIELD_BOUND.true

pub renew-requires-2 : goal.renew-requires-2
renew-requires-2 c = (c.requires.prio, omega (arith, div-le_self c.args.spent.ticks c.weight_of-weight.result))

pub returns : goal.returns
returns c = c.renew-2.ensures ∙ charged_turn _ _ _ _ _ _ c.weight_of-weight.ensures.0 c.saturating_sub-rem_slice.ensures c.max-vtime.ensures c.if-spent-lt-YIELD_BOUND.false
