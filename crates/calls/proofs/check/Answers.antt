use Rattle.std.proofs.lemmas.Result.{err_from_is_err_and}
use Rattle.refusal.proofs.Numbered.{number_some}
use Rattle.calls.proofs.Called.{check_refused, check_passed, long_enough}
use mathlib.Core.Path.{refl}
use native.Mathlib.Omega.{arith}
use Rattle.calls.proofs.check.Goals as goal

pub returns-in_err-check : goal.returns-in_err-check
returns-in_err-check c =
    let p = err_from_is_err_and c.from_residual.result c.from_residual.ensures.1 in
    rw (p.1, p.2) (check_refused _ _ _ c.in_err-check.ensures (number_some _))

pub bounds-image-0 : goal.bounds-image-0
bounds-image-0 c = omega (arith, long_enough _ _ _ c.in_ok-check.ensures refl)

pub bounds-image-1 : goal.bounds-image-1
bounds-image-1 c = omega (arith, long_enough _ _ _ c.in_ok-check.ensures refl)

pub returns : goal.returns
returns c = check_passed _ _ _ _ _ c.in_ok-check.ensures refl c.index.ensures c.index-2.ensures
