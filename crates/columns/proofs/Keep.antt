-- The items of a list that pass a test. Assumes nothing.
use mathlib.Core.Bool.{Bool}
use mathlib.Core.List.{List, [], ◌∷◌}
use Prim.Native.Nat.{◌≤◌}
use native.Mathlib.Omega.{arith}
use lib.ListN.{length}
use Rattle.columns.specs.Common.{keep, All}
use Rattle.columns.proofs.Tests.{by_test}

module _ {A : Type 0} (t : A → Bool) where
  pub length_keep : (l : List A) → length (keep t l) ≤ length l
  length_keep [] = omega arith
  length_keep (x ∷ xs) =
      let h : length (keep t xs) ≤ length xs = length_keep xs
      in by_test (t x) (λ e. rw e (omega arith)) (λ e. rw e (omega arith))

  pub all_keep : (P : A → Type 0) (l : List A) → All P l → All P (keep t l)
  all_keep P [] a = tt
  all_keep P (x ∷ xs) a = by_test (t x) (λ e. rw e (a.0, all_keep P xs a.1)) (λ e. rw e (all_keep P xs a.1))
