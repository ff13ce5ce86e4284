use Rattle.plain_wakeup.proofs.Going.{Locals}
use Rattle.plain_wakeup.proofs.serve_names.Given as goal

abbrev pub invariant-loop-x : goal.invariant-loop-x
invariant-loop-x l = Locals l.n l.x-items l.initial.s l.s l.x-index
