use Rattle.wakeup.proofs.Serving.{ServeLoop}
use Rattle.wakeup.proofs.serve_all.Given as goal

abbrev pub invariant-loop-w : goal.invariant-loop-w
invariant-loop-w l = ServeLoop l.cpu.c l.cpu.n l.cpu.k l.initial.m l.m l.wakeups l.w-index
