use mathlib.Core.Path.{refl}
use Rattle.wakeup_read.proofs.Draining.{drains_start, drains_long, drains_next, drains_end}
use native.Mathlib.Omega.{arith}
use Rattle.wakeup_read.proofs.take_out.drain_timers.Goals as goal

pub loop-i-init : goal.loop-i-init
loop-i-init c = drains_start _ _ c.args.cpu.present c.requires.image c.due-i.ensures.2

pub take_timer-requires : goal.take_timer-requires
take_timer-requires c = record { image = c.loop-i.invariant.staged.image refl; bounded = (drains_long c.args.cpu.present c.loop-i.invariant (omega arith) c.requires.image) }

pub loop-i-preserved : goal.loop-i-preserved
loop-i-preserved c = drains_next c.args.cpu.present c.loop-i.invariant (omega arith) c.take_timer.ensures

pub returns : goal.returns
returns c = drains_end c.loop-i.invariant (omega arith)
