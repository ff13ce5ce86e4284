use Rattle.wakeup_read.proofs.Draining.{Drains}
use Rattle.wakeup_read.proofs.take_out.drain_timers.Given as goal

abbrev pub invariant-loop-i : goal.invariant-loop-i
invariant-loop-i l = Drains l.cpu.c l.cpu.n l.cpu.k l.time l.initial.m l.m l.i
