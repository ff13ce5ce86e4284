use mathlib.Core.Path.{ap}
use Rattle.refusal.specs.Number.{numbered}
use Rattle.calls.proofs.Called.{call_image, call_time}
use Rattle.rival.proofs.Entering.{rival_refused, rival_passed}
use Rattle.rival.proofs.rival.Goals as goal

-- src/lib.rt:116:34
pub rival_on-requires : goal.rival_on-requires
rival_on-requires c = record { image = call_image _ _ _ c.check.ensures _ _ (ap numbered c.in-Ok.is); time_le_max_number = call_time _ _ _ c.check.ensures _ _ (ap numbered c.in-Ok.is) }

-- src/lib.rt:110:1
pub returns-in-Err : goal.returns-in-Err
returns-in-Err c = rival_refused _ _ _ _ _ _ _ c.check.ensures _ _ (ap numbered c.in-Err.is) c.refused.ensures

-- src/lib.rt:110:1
pub returns-in-Ok : goal.returns-in-Ok
returns-in-Ok c = rival_passed _ _ _ _ _ _ _ c.check.ensures _ _ _ (ap numbered c.in-Ok.is) c.rival_on.ensures
