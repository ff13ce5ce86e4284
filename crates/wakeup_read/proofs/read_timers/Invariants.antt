use Rattle.wakeup_read.proofs.Reading.{TimersLoop}
use Rattle.wakeup_read.proofs.read_timers.Given as goal

abbrev pub invariant-loop-i : goal.invariant-loop-i
invariant-loop-i l = TimersLoop l.cpu.c l.cpu.n l.cpu.k l.count l.m l.d l.len l.i
