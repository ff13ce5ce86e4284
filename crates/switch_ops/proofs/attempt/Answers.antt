use mathlib.Core.Path.{refl}
use Rattle.switch_ops.proofs.Answered.{attempt_room, attempt_no_room}
use Rattle.switch_ops.proofs.attempt.Goals as goal

pub returns-in-Err : goal.returns-in-Err
returns-in-Err c = λ M e o. attempt_no_room _ _ refl (c.in-Err.ensures.decides M e o) c.refused.ensures

pub returns-in-Ok : goal.returns-in-Ok
returns-in-Ok c = λ M e o. attempt_room _ _ refl (c.in-Ok.ensures.decides M e o) c.accepted.ensures
