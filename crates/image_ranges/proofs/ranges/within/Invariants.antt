use Rattle.columns.specs.Common.{every}
use lib.ListN.{get_or}
use lib.Dec.{leb}
use Prim.Native.Nat.{ℕ}
use mathlib.Core.Bool.{true}
use mathlib.Core.Path.{◌≡◌}
use Rattle.image_ranges.proofs.ranges.within.Given as goal

abbrev pub invariant-loop-i : goal.invariant-loop-i
invariant-loop-i l = every (λ (j : ℕ). leb (get_or l.w j 0) (get_or l.table j 0)) l.i ≡ true
