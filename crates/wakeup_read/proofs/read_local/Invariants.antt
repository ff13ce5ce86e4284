use Rattle.wakeup_read.proofs.Reading.{LocalLoop}
use Rattle.wakeup_read.proofs.read_local.Given as goal

abbrev pub invariant-loop-i : goal.invariant-loop-i
invariant-loop-i l = LocalLoop l.cpu.c l.cpu.n l.cpu.k l.from l.count l.m l.initial.d l.d l.i
