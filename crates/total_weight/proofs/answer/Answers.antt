use Rattle.total_weight.proofs.Weighed.{absent_answer, present_answer}
use Rattle.context_ops.proofs.Resolved.{present_below}
use mathlib.Core.Path.{◌∙◌}
use Rattle.total_weight.proofs.answer.Goals as goal

-- src/lib.rt:58:9
pub returns-in_default : goal.returns-in_default
returns-in_default c = λ M e o. absent_answer M _ _ (c.get_percpu_block.ensures M e o) _ c.in_default.is c.refused.ensures

-- src/lib.rt:62:17
pub invariant_of-total_weight : goal.invariant_of-total_weight
invariant_of-total_weight c = record { present = present_below c.requires _ _ _ c.get_percpu_block.ensures c.in-Some.is }

-- src/lib.rt:52:1
pub returns : goal.returns
returns c = λ M e o. c.accepted.ensures ∙ present_answer M _ _ (c.get_percpu_block.ensures M e o) _ _ c.in-Some.is (c.total_weight.ensures M e o)
