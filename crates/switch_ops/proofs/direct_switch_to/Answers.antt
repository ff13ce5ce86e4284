use Rattle.context_ops.proofs.Resolved.{live_below}
use Rattle.switch_ops.proofs.Answered.{gone, alive, target_is}
use Rattle.switch_ops.proofs.direct_switch_to.Goals as goal

pub returns-in_default : goal.returns-in_default
returns-in_default c = λ M e o. gone _ M _ _ _ _ (c.look_up.ensures M e o) c.in_default.is c.refused.ensures

pub decide-requires : goal.decide-requires
decide-requires c = record { image = c.requires.image; time_le_max_number = c.requires.time_le_max_number; target_below = target_is _ (live_below c.requires.image _ _ _ c.look_up.ensures c.in-Some.is); ranged = c.requires.ranged }

pub returns : goal.returns
returns c = λ M e o. alive _ M _ _ _ _ (c.look_up.ensures M e o) _ c.in-Some.is (c.decide.ensures M e o)
