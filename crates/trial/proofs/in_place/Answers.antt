use mathlib.Core.Path.{ap}
use Rattle.refusal.specs.Number.{numbered}
use Rattle.trial.proofs.Trying.{tried_refused, passes, tried_here}
use Rattle.trial.proofs.in_place.Goals as goal

pub switch-requires : goal.switch-requires
switch-requires c = passes _ _ _ c.check.ensures _ _ (ap numbered c.in-Ok.is)

pub returns-in-Err : goal.returns-in-Err
returns-in-Err c = tried_refused _ _ _ c.check.ensures _ _ _ (ap numbered c.in-Err.is) c.refused.ensures

pub returns-in-Ok : goal.returns-in-Ok
returns-in-Ok c = tried_here _ _ _ c.check.ensures _ _ (ap numbered c.in-Ok.is) _ _ c.switch.ensures
