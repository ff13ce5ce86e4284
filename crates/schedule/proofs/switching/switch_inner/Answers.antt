-- `schedule::switching::switch_inner` meets its contract. Assumes nothing.
use Rattle.std.proofs.lemmas.Result.{err_from_is_err_and}
use mathlib.Core.Path.{refl}
use Rattle.model.specs.SwitchTo.{try_direct_switch_back}
use Rattle.schedule.proofs.Inner.{back_ranged, direct_is, begin_again, switched_back, no_room_back, not_back}
use Rattle.schedule.proofs.switching.switch_inner.Goals as goal

pub try_direct_switch_back-requires : goal.try_direct_switch_back-requires
try_direct_switch_back-requires c = record { image = c.requires.image; bounded = c.requires.bounded; ranged = back_ranged c.args.time c.requires.can_begin }

pub decide-requires : goal.decide-requires
decide-requires c = let t = direct_is c.if-branch.false c.in_ok-try_direct_switch_back.ensures in record { image = t.image refl; bounded = c.requires.bounded; can_begin = begin_again c.args.time (try_direct_switch_back c.args.cpu.k c.args.time) t c.requires.image c.requires.can_begin }

pub returns-in_err-try_direct_switch_back : goal.returns-in_err-try_direct_switch_back
returns-in_err-try_direct_switch_back c = let p = err_from_is_err_and c.from_residual.result c.from_residual.ensures.1 in rw p.1 (no_room_back c.args.time c.in_err-try_direct_switch_back.ensures)

pub returns-then-branch : goal.returns-then-branch
returns-then-branch c = switched_back c.args.time (direct_is c.if-branch.true c.in_ok-try_direct_switch_back.ensures)

pub returns : goal.returns
returns c = not_back c.args.time (direct_is c.if-branch.false c.in_ok-try_direct_switch_back.ensures) c.requires.image c.decide.ensures
