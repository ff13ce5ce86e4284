-- `ranges::zero_words` meets its contract. Assumes nothing.
use mathlib.Core.Path.{◌≡◌}
use Prim.Native.Nat.{ℕ}
use lib.Dec.{eqb}
use lib.ListN.{get_or}
use Rattle.columns.specs.Common.{every}
use Rattle.image_ranges.proofs.ranges.zero_words.Given as goal

abbrev pub invariant-loop-x : goal.invariant-loop-x
invariant-loop-x l = eqb l.all 0 ≡ every (λ (j : ℕ). eqb (get_or l.w j 0) 0) l.x-index
