use mathlib.Core.Path.{ap}
use Rattle.refusal.specs.Number.{numbered}
use Rattle.calls.proofs.Called.{same_reply, call_refused, call_image, call_done}
use Rattle.ronthuyal.proofs.ronthuyal_total_weight.Goals as goal

pub answer-requires : goal.answer-requires
answer-requires c = call_image _ _ _ c.check-checked.ensures _ _ (ap numbered c.in-Ok.is)

pub returns-in-Err : goal.returns-in-Err
returns-in-Err c = call_refused _ _ _ c.check-checked.ensures _ _ (ap numbered c.in-Err.is) c.refused.ensures

pub returns-in-Ok : goal.returns-in-Ok
returns-in-Ok c = call_done _ _ _ c.check-checked.ensures _ _ _ (ap numbered c.in-Ok.is) (λ M e o. same_reply _ _ _ (c.answer.ensures M e o))
