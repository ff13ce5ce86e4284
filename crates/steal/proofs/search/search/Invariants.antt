use Rattle.steal.specs.Search.{Passed}
use Rattle.steal.proofs.Offered.{Inner}
use Rattle.steal.proofs.search.search.Given as goal

abbrev pub invariant-loop-j : goal.invariant-loop-j
invariant-loop-j l = Inner l.cpu.c l.cpu.n l.cpu.k l.len l.want l.m l.w l.locked l.got l.t l.j

abbrev pub invariant-loop-i : goal.invariant-loop-i
invariant-loop-i l = Passed l.cpu.c l.cpu.n l.cpu.k l.i l.m l.w l.locked
