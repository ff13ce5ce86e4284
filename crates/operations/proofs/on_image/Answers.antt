use Rattle.answer.specs.declared.Answer.{Answer}
use Rattle.context_ops.specs.Reply.{reply}
use mathlib.Core.Path.{ap}
use Rattle.operations.proofs.Dispatched.{on_tick, on_switch, on_direct_switch_to, on_unblock_context, on_drain, on_block, on_hard_block, on_none}
use Rattle.operations.proofs.on_image.Goals as goal

pub returns-in-1 : goal.returns-in-1
returns-in-1 c = λ M e o. on_tick _ M _ _ _ _ c.in-1.is (c.tick.ensures M e o).replies

pub returns-in-2 : goal.returns-in-2
returns-in-2 c = λ M e o. on_switch _ M _ _ _ _ c.in-2.is (c.switch.ensures M e o).replies

pub returns-in-3 : goal.returns-in-3
returns-in-3 c = λ M e o. on_direct_switch_to _ M _ _ _ _ c.in-3.is (c.direct_switch_to.ensures M e o).replies

pub returns-in-4 : goal.returns-in-4
returns-in-4 c = λ M e o. on_unblock_context _ M _ _ _ _ c.in-4.is (c.unblock_context.ensures M e o)

pub returns-in-5 : goal.returns-in-5
returns-in-5 c = λ M e o. on_drain _ M _ _ _ _ c.in-5.is (c.drain_ipi_context_wakeups.ensures M e o)

pub returns-in-6 : goal.returns-in-6
returns-in-6 c = λ M e o. on_block _ M _ _ _ _ c.in-6.is (c.block.ensures M e o)

pub returns-in-7 : goal.returns-in-7
returns-in-7 c = λ M e o. on_hard_block _ M _ _ _ _ c.in-7.is (c.hard_block.ensures M e o)

pub returns-in_default : goal.returns-in_default
returns-in_default c = λ M e o. on_none _ M _ _ _ _ c.in_default.in_default-own.rest.0.0.0.0.0.0.1 c.in_default.in_default-own.rest.0.0.0.0.0.1 c.in_default.in_default-own.rest.0.0.0.0.1 c.in_default.in_default-own.rest.0.0.0.1 c.in_default.in_default-own.rest.0.0.1 c.in_default.in_default-own.rest.0.1 c.in_default.in_default-own.rest.1 (ap (λ (a : Answer). reply a c.args.image.now) c.refused.ensures)
