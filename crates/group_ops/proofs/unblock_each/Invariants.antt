use Rattle.group_ops.proofs.Reaching.{Left}
use Rattle.group_ops.proofs.unblock_each.Given as goal

abbrev pub invariant-loop-x : goal.invariant-loop-x
invariant-loop-x l = Left l.cpu.c l.cpu.n l.cpu.k l.mask l.initial.m l.m l.count l.interrupt l.x-iterator.rest
