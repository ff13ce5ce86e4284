-- `timers::remove_superseded` meets its contract. Assumes nothing.
use mathlib.Core.Path.{◌≡◌}
use lib.ListN.{length}
use Rattle.timers.proofs.Superseding.{Superseding}
use Rattle.timers.proofs.remove_superseded.Given as goal

abbrev pub invariant-loop-i : goal.invariant-loop-i
invariant-loop-i l = (length l.b ≡ length l.initial.b) × Superseding l.t l.initial.b l.b l.i
