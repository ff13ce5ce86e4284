use lib.ListN.{length}
use mathlib.Core.Path.{◌≡◌}
use Prim.Native.Nat.{◌-◌}
use Rattle.run.proofs.Running.{Loop}
use Rattle.run.specs.Knowledge.{Holds}
use Rattle.run.proofs.make_calls.Given as goal

abbrev pub invariant-loop-i : goal.invariant-loop-i
invariant-loop-i l = Loop l.initial.image l.calls l.count l.image l.answers l.i × (length l.image ≡ length l.initial.image) × Holds l.s l.image
