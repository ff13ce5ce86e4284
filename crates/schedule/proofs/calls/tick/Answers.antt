-- `schedule::calls::tick` meets its contract. Assumes nothing.
use Rattle.std.proofs.lemmas.Result.{err_from_is_err_and}
use mathlib.Core.Path.{refl}
use Rattle.schedule.proofs.Called.{ticked_begin, tick_early, tick_due}
use Rattle.schedule.proofs.calls.tick.Goals as goal

pub returns-then-count-lt-TICK_INTERVAL : goal.returns-then-count-lt-TICK_INTERVAL
returns-then-count-lt-TICK_INTERVAL c = tick_early c.args.time c.args.cpu.present c.count_tick-count.ensures c.if-count-lt-TICK_INTERVAL.true

pub switch_inner-requires : goal.switch_inner-requires
switch_inner-requires c = record { image = c.count_tick-count.ensures.image refl; bounded = c.requires.bounded; can_begin = ticked_begin c.args.time c.args.cpu.present c.count_tick-count.ensures c.requires.ranged c.requires.k_bound }

pub returns-in_err-decided : goal.returns-in_err-decided
returns-in_err-decided c = let p = err_from_is_err_and c.from_residual.result c.from_residual.ensures.1 in rw p.1 (tick_due c.args.time c.args.cpu.present c.count_tick-count.ensures c.if-count-lt-TICK_INTERVAL.false c.in_err-decided.ensures)

pub returns : goal.returns
returns c = tick_due c.args.time c.args.cpu.present c.count_tick-count.ensures c.if-count-lt-TICK_INTERVAL.false c.in_ok-decided.ensures
