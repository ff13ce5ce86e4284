use mathlib.Core.Path.{ap}
use Rattle.refusal.specs.Number.{numbered}
use Rattle.ask.proofs.Committing.{commit_refused, commit_passed}
use Rattle.calls.proofs.Called.{call_image, call_time, call_ranged}
use Rattle.ask.proofs.commit.Goals as goal

pub commit_on-requires : goal.commit_on-requires
commit_on-requires c = record { image = call_image _ _ _ c.check.ensures _ _ (ap numbered c.in-Ok.is); time_le_max_number = call_time _ _ _ c.check.ensures _ _ (ap numbered c.in-Ok.is); ranged = call_ranged _ _ _ c.check.ensures _ _ (ap numbered c.in-Ok.is) }

pub returns-in-Err : goal.returns-in-Err
returns-in-Err c = commit_refused _ _ _ c.check.ensures _ _ _ (ap numbered c.in-Err.is) c.refused.ensures

pub returns-in-Ok : goal.returns-in-Ok
returns-in-Ok c = commit_passed _ _ _ c.check.ensures _ _ _ _ (ap numbered c.in-Ok.is) c.commit_on.ensures
