use mathlib.Core.Path.{ap}
use Rattle.refusal.specs.Number.{numbered}
use Rattle.humblest.proofs.Finding.{check_refused, check_passed, check_found}
use Rattle.humblest.proofs.find.Goals as goal

-- src/lib.rt:75:34
pub humblest_on-requires : goal.humblest_on-requires
humblest_on-requires c = check_passed _ _ _ c.check.ensures _ _ (ap numbered c.in-Ok.is)

-- src/lib.rt:69:1
pub returns-in-Err : goal.returns-in-Err
returns-in-Err c = check_refused _ _ _ _ _ c.check.ensures _ (ap numbered c.in-Err.is) c.refused.ensures

-- src/lib.rt:69:1
pub returns-in-Ok : goal.returns-in-Ok
returns-in-Ok c = check_found _ _ _ _ _ c.check.ensures _ _ (ap numbered c.in-Ok.is) c.humblest_on.ensures
