-- Some choice, the first one, every one: of a list of them, one after the other. Assumes nothing.
use Rattle.std.specs.Prelude.{if◌then◌else◌, None, Some, is_some}
use mathlib.Core.Path.{◌≡◌, sym}
use mathlib.Core.Bool.{Bool, true, false}
use mathlib.Core.List.{List, [], ◌∷◌}
use Prim.Native.Nat.{ℕ, zero, suc, ◌<◌, ◌≤◌}
use native.Mathlib.Omega.{arith}
use lib.ListN.{length, get_or}
use Rattle.columns.proofs.Tests.{by_test}
use Rattle.rounds.specs.declared.Choice.{Choice}
use Rattle.rounds.specs.declared.Choice.TheVariants.{GoOn, Yield, Block}
use Rattle.rival.specs.Game.{some_choice, first_choice, every_choice}
use Rattle.rival.specs.Reached.{choices}

-- of the first i choices each is b
abbrev pub Before : (Choice → Bool) → Bool → List Choice → ℕ → Type 0
Before g b cs i = (j : ℕ) → j < i → g (get_or cs j GoOn) ≡ b

module _ (g : Choice → Bool) where
  pub some_first : is_some (first_choice g) ≡ some_choice g
  unfolding first_choice
  some_first =
      by_test (g GoOn) (λ a. rw a)
      (λ a. by_test (g Yield) (λ b. rw (a, b)) (λ b. by_test (g Block) (λ d. rw (a, b, d)) (λ d. rw (a, b, d))))

  -- the one behind i others is the first
  pub first_is : (i : ℕ) → i < 3 → Before g false choices i → g (get_or choices i GoOn) ≡ true → first_choice g ≡ Some (get_or choices i GoOn)
  unfolding first_choice
  first_is zero q h e = rw e
  first_is (suc zero) q h e = rw (h 0 (omega arith), e)
  first_is (suc (suc zero)) q h e = rw (h 0 (omega arith), h 1 (omega arith), e)
  first_is (suc (suc (suc n))) q h e = absurd (omega arith)

  pub first_none : (i : ℕ) → 3 ≤ i → Before g false choices i → first_choice g ≡ None
  unfolding first_choice
  first_none i p h = rw (h 0 (omega arith), h 1 (omega arith), h 2 (omega arith))

  -- of the choices that one has: three, or the first alone
  pub all_of : (b : Bool) (i : ℕ) → length (if b then choices else GoOn ∷ []) ≤ i → Before g true (if b then choices else GoOn ∷ []) i
      → true ≡ (if b then every_choice g else g GoOn)
  all_of true i p h = sym (rw (h 0 (omega arith), h 1 (omega arith), h 2 (omega arith)))
  all_of false i p h = sym (h 0 (omega arith))
