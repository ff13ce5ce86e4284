use Rattle.context_ops.proofs.Operated.{absent_call, present_call}
use Rattle.context_ops.proofs.Resolved.{present_below}
use Rattle.context_ops.proofs.drain_ipi_context_wakeups.Goals as goal

pub invariant_of-drain : goal.invariant_of-drain
invariant_of-drain c = record { present = present_below c.requires _ _ _ c.get_percpu_block.ensures c.in-Some.is }

pub returns-in-Some : goal.returns-in-Some
returns-in-Some c = λ M e o. present_call _ _ _ _ _ (c.get_percpu_block.ensures M e o) c.in-Some.is (c.drain.ensures M e o)

pub returns-in-None : goal.returns-in-None
returns-in-None c = λ M e o. absent_call _ _ _ _ (c.get_percpu_block.ensures M e o) c.in-None.is c.refused.ensures
