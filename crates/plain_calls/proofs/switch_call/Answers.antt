use mathlib.Core.Path.{ap}
use Rattle.refusal.specs.Number.{numbered}
use Rattle.switch_ops.proofs.Answered.{switch_no_target}
use Rattle.calls.proofs.Called.{call_refused, call_image, call_time, call_ranged, call_done}
use Rattle.plain_calls.proofs.switch_call.Goals as goal

-- src/lib.rt:117:34
pub decide-requires : goal.decide-requires
decide-requires c = record { image = call_image _ _ _ c.check.ensures _ _ (ap numbered c.in-Ok.is); time_le_max_number = (call_time _ _ _ c.check.ensures _ _ (ap numbered c.in-Ok.is), switch_no_target); ranged = call_ranged _ _ _ c.check.ensures _ _ (ap numbered c.in-Ok.is) }

-- src/lib.rt:111:1
pub returns-in-Err : goal.returns-in-Err
returns-in-Err c = call_refused _ _ _ c.check.ensures _ _ (ap numbered c.in-Err.is) c.refused.ensures

-- src/lib.rt:111:1
pub returns-in-Ok : goal.returns-in-Ok
returns-in-Ok c = call_done _ _ _ c.check.ensures _ _ _ (ap numbered c.in-Ok.is) c.decide.ensures
