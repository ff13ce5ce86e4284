use mathlib.Core.Path.{◌≡◌}
use Prim.Native.Nat.{◌*◌, ◌≤◌}
use lib.ListN.{get_or}
use Rattle.weights.specs.Weights.{max_weight}
use Rattle.percpu.specs.Places.{queue_count}
use Rattle.total_weight.specs.Words.{weight_words}
use Rattle.total_weight.proofs.queue_weight.Given as goal

abbrev pub invariant-loop-i : goal.invariant-loop-i
invariant-loop-i l = (l.count ≡ get_or l.b queue_count 0) × (l.total ≡ weight_words l.b l.i) × (l.total ≤ max_weight * l.i)
