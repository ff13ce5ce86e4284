use Rattle.columns.specs.Common.{every}
use lib.ListN.{get_or}
use lib.Dec.{leb}
use Prim.Native.Nat.{ℕ}
use mathlib.Core.Bool.{true, ◌&&◌}
use mathlib.Core.Path.{◌≡◌}
use Rattle.image_ranges.proofs.ranges.used.Given as goal

abbrev pub invariant-loop-x : goal.invariant-loop-x
invariant-loop-x l = every (λ (j : ℕ). leb l.low (get_or l.x-items j 0) && leb (get_or l.x-items j 0) l.high) l.x-index ≡ true
