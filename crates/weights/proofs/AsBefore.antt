-- All whole slices are those of before: the formula over the weights gives the table that left the code. Assumes nothing.
use mathlib.Core.Path.{◌≡◌, refl}
use mathlib.Core.List.{map}
use Prim.Native.Nat.{ℕ, ◌<◌, ◌/◌}
use lib.Dec.{eqb}
use lib.ListN.{get_or}
use borrow.Author.Tests.{eqb-true}
use Rattle.columns.specs.Common.{every}
use Rattle.columns.proofs.Tests.{every_at}
use Rattle.weights.specs.Weights.{weights, weight, full_slice, whole_slice}
use Rattle.weights.specs.Before.{slices_before}

-- as lists: as many, and one by one
pub slices_as_before : map (λ (w : ℕ). full_slice / w) weights ≡ slices_before
unfolding weights slices_before
slices_as_before = refl

-- of every priority
pub slice_as_before : (prio : ℕ) → prio < 40 → get_or slices_before prio 0 ≡ whole_slice prio
unfolding every slices_before whole_slice weight weights
slice_as_before prio h = eqb-true _ _ (every_at (λ (k : ℕ). eqb (get_or slices_before k 0) (whole_slice k)) 40 prio refl h)
