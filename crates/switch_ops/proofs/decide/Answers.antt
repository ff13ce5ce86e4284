use Rattle.context_ops.proofs.Resolved.{present_below}
use Rattle.switch_ops.proofs.Answered.{absent, present_on}
use Rattle.switch_ops.proofs.decide.Goals as goal

pub invariant_of-decide_on : goal.invariant_of-decide_on
invariant_of-decide_on c = record { present = present_below c.requires.image _ _ _ c.get_percpu_block.ensures c.in-Some.is }

pub decide_on-requires : goal.decide_on-requires
decide_on-requires c = record { image = c.requires.image; bounded = c.requires.time_le_max_number; target_below = c.requires.target_below; ranged = c.requires.ranged }

pub returns-in-Some : goal.returns-in-Some
returns-in-Some c = λ M e o. present_on _ M _ _ _ _ (c.get_percpu_block.ensures M e o) _ c.in-Some.is (c.decide_on.ensures M e o)

pub returns-in-None : goal.returns-in-None
returns-in-None c = λ M e o. absent _ M _ _ _ _ (c.get_percpu_block.ensures M e o) c.in-None.is c.refused.ensures
