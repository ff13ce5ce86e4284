-- What holds of every weight and every whole slice: one test over all 40, which antt computes. Assumes nothing.
use mathlib.Core.Path.{◌≡◌, refl, ap}
use Prim.Native.Nat.{ℕ, ◌<◌, ◌≤◌, ◌/◌}
use lib.Dec.{leb}
use borrow.Author.Tests.{leb-true}
use Rattle.columns.specs.Common.{every}
use Rattle.columns.proofs.Tests.{every_at}
use Rattle.weights.specs.Weights.{weights, weight, min_weight, max_weight, full_slice, whole_slice, max_whole_slice}

module _ (prio : ℕ) where
  -- a full slice over a number that is the weight
  pub slice_is : {w : ℕ} → w ≡ weight prio → full_slice / w ≡ whole_slice prio
  unfolding whole_slice
  slice_is e = ap (λ (w : ℕ). full_slice / w) e

  module _ (h : prio < 40) where
    pub weight_low : min_weight ≤ weight prio
    unfolding every weight weights
    weight_low = leb-true min_weight _ (every_at (λ (k : ℕ). leb min_weight (weight k)) 40 prio refl h)

    pub weight_high : weight prio ≤ max_weight
    unfolding every weight weights
    weight_high = leb-true _ max_weight (every_at (λ (k : ℕ). leb (weight k) max_weight) 40 prio refl h)

    pub whole_slice_high : whole_slice prio ≤ max_whole_slice
    unfolding every whole_slice weight weights
    whole_slice_high = leb-true _ max_whole_slice (every_at (λ (k : ℕ). leb (whole_slice k) max_whole_slice) 40 prio refl h)
