use mathlib.Core.Path.{ap}
use Rattle.refusal.specs.Number.{numbered}
use Rattle.trial.proofs.Trying.{copied, tried_refused, fits_longest, copy_passes, tried}
use native.Mathlib.Omega.{arith}
use borrow.Author.Rules.{rules}
use Rattle.trial.proofs.on_copy.Goals as goal

pub copy-requires : goal.copy-requires
copy-requires c = omega (arith, fits_longest _ _ _ c.check.ensures _ _ (ap numbered c.in-Ok.is))

pub slice_bounds-switch-end : goal.slice_bounds-switch-end
slice_bounds-switch-end c = omega (arith, fits_longest _ _ _ c.check.ensures _ _ (ap numbered c.in-Ok.is))

pub switch-requires : goal.switch-requires
switch-requires c = copy_passes _ _ _ c.check.ensures _ _ (ap numbered c.in-Ok.is) _ (copied _ _ c.copy.ensures)

pub returns-in-Err : goal.returns-in-Err
returns-in-Err c = tried_refused _ _ _ c.check.ensures _ _ _ (ap numbered c.in-Err.is) c.refused.ensures

pub returns-in-Ok : goal.returns-in-Ok
returns-in-Ok c = tried _ _ _ c.check.ensures _ _ (ap numbered c.in-Ok.is) _ _ _ _ (copied _ _ c.copy.ensures) (search rules) c.switch.ensures
