use mathlib.Core.Path.{refl}
use Rattle.refusal.proofs.Numbered.{number_some}
use Rattle.trial.proofs.Trying.{attempted, attempted_on}
use Rattle.switch_ops.proofs.Answered.{refused_on, in_time, switch_no_target}
use Rattle.model.specs.Accepted.{by_switch}
use Rattle.trial.proofs.switch_on.Goals as goal

pub returns-in-Err : goal.returns-in-Err
returns-in-Err c = λ M e o. attempted (refused_on _ M _ by_switch _ _ (c.in-Err.ensures M e o) (number_some _) c.refused.ensures)

pub attempt-requires : goal.attempt-requires
attempt-requires c = record { image = c.requires.image; bounded = c.requires.bounded; target_below = switch_no_target; ranged = c.requires.ranged; k_bound = λ M e o. in_time by_switch M _ _ _ (c.in_default.ensures M e o) refl }

pub returns : goal.returns
returns c = λ M e o. attempted_on _ M _ _ _ (c.in_default.ensures M e o) refl (c.attempt.ensures M e o)
