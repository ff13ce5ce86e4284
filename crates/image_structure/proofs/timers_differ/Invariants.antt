use Rattle.image_structure.specs.Structure.{is_first_timer}
use Rattle.image_structure.proofs.Marks.{Marked}
use Rattle.columns.specs.Common.{every}
use Rattle.percpu.specs.Places.{timers_count}
use lib.ListN.{length, get_or}
use Prim.Native.Nat.{◌≤◌}
use mathlib.Core.Bool.{true}
use mathlib.Core.Path.{◌≡◌}
use Rattle.image_structure.proofs.timers_differ.Given as goal

abbrev pub invariant-loop-i : goal.invariant-loop-i
invariant-loop-i l = (l.k ≡ get_or l.b timers_count 0) × (l.k ≤ 64) × (length l.seen ≡ 64) × Marked l.b l.seen l.i × (every (is_first_timer l.b) l.i ≡ true)
