use mathlib.Core.Path.{ap}
use Rattle.refusal.specs.Number.{numbered}
use Rattle.operations.proofs.Dispatched.{refused_is, passed_is}
use Rattle.calls.proofs.Called.{call_image, call_time, call_ranged}
use Rattle.operations.proofs.call.Goals as goal

pub on_image-requires : goal.on_image-requires
on_image-requires c = record { image = call_image _ _ _ c.check.ensures _ _ (ap numbered c.in-Ok.is); time_le_max_number = call_time _ _ _ c.check.ensures _ _ (ap numbered c.in-Ok.is); ranged = call_ranged _ _ _ c.check.ensures _ _ (ap numbered c.in-Ok.is) }

pub returns-in-Err : goal.returns-in-Err
returns-in-Err c = refused_is _ _ _ c.check.ensures _ _ _ _ (ap numbered c.in-Err.is) c.refused.ensures

pub returns-in-Ok : goal.returns-in-Ok
returns-in-Ok c = passed_is _ _ _ c.check.ensures _ _ _ _ _ (ap numbered c.in-Ok.is) c.on_image.ensures
