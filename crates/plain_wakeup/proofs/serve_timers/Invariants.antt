use Rattle.plain_wakeup.proofs.Going.{Timers}
use Rattle.plain_wakeup.proofs.serve_timers.Given as goal

abbrev pub invariant-loop-e : goal.invariant-loop-e
invariant-loop-e l = Timers l.n l.time l.before l.e-items l.initial.s l.s l.e-index
