-- `schedule::switching::switch_as` meets its contract. Assumes nothing.
use Rattle.std.proofs.lemmas.Result.{err_from_is_err_and}
use Rattle.schedule.proofs.Inner.{as_nobody, as_somebody, as_full}
use Rattle.schedule.proofs.switching.switch_as.Goals as goal

pub switch_unless_current-requires : goal.switch_unless_current-requires
switch_unless_current-requires c = record { image = c.requires.image; bounded = (c.requires.bounded.1 _ c.in-Some.is, c.requires.bounded.0); ranged = c.requires.ranged }

pub returns-in-None : goal.returns-in-None
returns-in-None c = as_nobody c.args.time c.in-None.is c.mark_idle.ensures

pub returns-in_err-switch_unless_current-in-Some : goal.returns-in_err-switch_unless_current-in-Some
returns-in_err-switch_unless_current-in-Some c = let p = err_from_is_err_and c.from_residual.result c.from_residual.ensures.1 in rw p.1 (as_full c.args.time _ c.in-Some.is c.in_err-switch_unless_current-in-Some.ensures)

pub returns-in_ok-switch_unless_current-in-Some : goal.returns-in_ok-switch_unless_current-in-Some
returns-in_ok-switch_unless_current-in-Some c = as_somebody c.args.time _ c.in-Some.is c.in_ok-switch_unless_current-in-Some.ensures
