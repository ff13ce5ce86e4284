use Rattle.wakeup_read.proofs.Items.{timer_read}
use Rattle.stages.proofs.Lent.{timers_small}
use Rattle.machine.proofs.Steps.{sized}
use native.Mathlib.Omega.{arith}
use borrow.Author.Rules.{rules}
use Rattle.wakeup_read.proofs.timer.Goals as goal

pub slice_bounds-timer-end : goal.slice_bounds-timer-end
slice_bounds-timer-end c = omega (arith, sized c.requires.image)

pub timer-requires : goal.timer-requires
timer-requires c = (search rules, omega (arith, timers_small c.requires.image _ c.args.cpu.present))

pub returns : goal.returns
returns c = timer_read c.requires.image _ c.start-at.ensures c.args.cpu.present _ c.requires.bounded _ c.timer.ensures
