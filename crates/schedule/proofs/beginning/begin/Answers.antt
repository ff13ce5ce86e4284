-- `schedule::beginning::begin` meets its contract. Assumes nothing.
use Rattle.std.proofs.lemmas.Result.{err_from_is_err_and}
use mathlib.Core.Path.{refl}
use Rattle.schedule.proofs.Start.{counting_ranged, counted_ranged, begun_full, served_ranged, served_in_time, begun, begun_ticks, begun_ranged}
use borrow.Author.Rules.{rules}
use Rattle.schedule.proofs.beginning.begin.Goals as goal

pub count_switch-requires : goal.count_switch-requires
count_switch-requires c = record { image = c.requires.image; ranged = counting_ranged c.requires.can_begin }

pub serve_wakeups-requires : goal.serve_wakeups-requires
serve_wakeups-requires c = record { image = c.count_switch.ensures.image refl; bounded = c.requires.bounded; ranged = counted_ranged c.args.cpu.present c.requires.can_begin c.count_switch.ensures }

pub returns-in_err-serve_wakeups : goal.returns-in_err-serve_wakeups
returns-in_err-serve_wakeups c = let p = err_from_is_err_and c.from_residual.result c.from_residual.ensures.1 in rw p.1 (record { stage = begun_full c.args.cpu.present c.requires.can_begin c.count_switch.ensures c.in_err-serve_wakeups.ensures; ticks_le_max_ticks = search rules })

pub times-requires : goal.times-requires
times-requires c = record { image = c.in_ok-serve_wakeups.ensures.image refl; bounded = c.requires.bounded; ranged = served_ranged c.args.cpu.present c.requires.can_begin c.count_switch.ensures c.in_ok-serve_wakeups.ensures; in_time = served_in_time c.args.cpu.present c.requires.can_begin c.count_switch.ensures c.in_ok-serve_wakeups.ensures }

pub returns : goal.returns
returns c = record { stage = begun c.args.cpu.present c.requires.can_begin c.count_switch.ensures c.in_ok-serve_wakeups.ensures c.times.ensures; ticks_le_max_ticks = (begun_ticks c.args.cpu.present c.requires.can_begin c.count_switch.ensures c.in_ok-serve_wakeups.ensures c.times.ensures, begun_ranged c.args.cpu.present c.requires.can_begin c.count_switch.ensures c.in_ok-serve_wakeups.ensures c.times.ensures c.requires.bounded) }
