use Rattle.trial.proofs.Trying.{attempted, attempted_by}
use Rattle.switch_ops.proofs.Answered.{absent}
use Rattle.model.specs.Accepted.{by_switch}
use Rattle.context_ops.proofs.Resolved.{present_below}
use Rattle.trial.proofs.switch.Goals as goal

pub invariant_of-switch_on : goal.invariant_of-switch_on
invariant_of-switch_on c = record { present = present_below c.requires.image _ _ _ c.get_percpu_block.ensures c.in-Some.is }

pub switch_on-requires : goal.switch_on-requires
switch_on-requires c = record { image = c.requires.image; bounded = c.requires.time_le_max_number; ranged = c.requires.ranged }

pub returns-in-Some : goal.returns-in-Some
returns-in-Some c = λ M e o. attempted_by _ M _ _ _ _ (c.get_percpu_block.ensures M e o) c.in-Some.is (c.switch_on.ensures M e o)

pub returns-in-None : goal.returns-in-None
returns-in-None c = λ M e o. attempted (absent _ M _ by_switch _ _ (c.get_percpu_block.ensures M e o) c.in-None.is c.refused.ensures)
