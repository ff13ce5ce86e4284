use Rattle.select.proofs.Walking.{Loop}
use Rattle.select.proofs.scan.scan_queue.Given as goal

abbrev pub invariant-loop-i : goal.invariant-loop-i
invariant-loop-i l = Loop l.cpu.c l.cpu.n l.cpu.k l.len l.initial.m l.m l.d l.t l.w l.i
