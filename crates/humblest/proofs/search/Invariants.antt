use Rattle.humblest.specs.Humblest.{priorities, greatest}
use Rattle.priority_trial.specs.Works.{works}
use mathlib.Core.Path.{◌≡◌}
use Rattle.humblest.proofs.search.Given as goal

abbrev pub invariant-loop-p : goal.invariant-loop-p
invariant-loop-p l = greatest (works l.image l.cpu.k l.time l.x) priorities ≡ greatest (works l.image l.cpu.k l.time l.x) l.p
