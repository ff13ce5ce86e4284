use Rattle.percpu.specs.declared.PercpuBlock.{PercpuBlock}
use mathlib.Core.Path.{ap}
use Rattle.wakeup_read.proofs.Reading.{timers_start, timers_next, timers_end}
use native.Mathlib.Omega.{arith}
use Rattle.wakeup_read.proofs.read_timers.Goals as goal

pub loop-i-init : goal.loop-i-init
loop-i-init c = timers_start _ _ _ _ _ _ (omega arith)

pub loop-i-preserved : goal.loop-i-preserved
loop-i-preserved c = timers_next c.args.cpu.present c.loop-i.invariant c.loop-i-test.true _ c.due-count.ensures.0 (λ M e o. ap (λ (b : PercpuBlock). b.sched_ctxt) (c.load_block-b.ensures M e o)) c.timer-t.ensures c.read_timer-len.ensures (omega arith)

pub returns : goal.returns
returns c = timers_end _ c.args.cpu.present c.loop-i.invariant c.loop-i.auto.i-end c.loop-i-test.false c.due-count.ensures.1 c.due-count.ensures.2
