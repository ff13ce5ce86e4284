-- A list in which each item stands before the next is sorted. Assumes nothing.
use mathlib.Core.Path.{◌≡◌}
use mathlib.Core.Bool.{Bool, true}
use Prim.Native.Nat.{ℕ, zero, suc, ◌<◌}
use native.Mathlib.Omega.{arith}
use Rattle.columns.specs.Common.{All, tabulate}
use Rattle.entries.specs.Sorted.{Sorted}

module _ {A : Type 0} (lt : A → A → Bool) (trans : (a b c : A) → lt a b ≡ true → lt b c ≡ true → lt a c ≡ true) where
  above : (n : ℕ) (f : ℕ → A) (x : A) → ((i : ℕ) → suc i < n → lt (f i) (f (suc i)) ≡ true) → (0 < n → lt x (f 0) ≡ true)
      → All (λ y. lt x y ≡ true) (tabulate n f)
  unfolding tabulate
  above zero f x h g = tt
  above (suc n) f x h g =
      (g (omega arith), above n (λ (i : ℕ). f (suc i)) x (λ i b. h (suc i) (omega arith)) (λ b. trans x (f 0) (f 1) (g (omega arith)) (h 0 (omega arith))))

  pub sorted_tabulate : (n : ℕ) (f : ℕ → A) → ((i : ℕ) → suc i < n → lt (f i) (f (suc i)) ≡ true) → Sorted lt (tabulate n f)
  unfolding tabulate
  sorted_tabulate zero f h = tt
  sorted_tabulate (suc n) f h = (
    above n (λ (i : ℕ). f (suc i)) (f 0) (λ i b. h (suc i) (omega arith)) (λ b. h 0 (omega arith)),
    sorted_tabulate n (λ (i : ℕ). f (suc i)) (λ i b. h (suc i) (omega arith)),
  )
