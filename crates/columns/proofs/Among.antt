-- Whether one of the words of a part passes a test, as `contains` answers it, by a test of every place. Assumes nothing.
use Rattle.std.specs.List.{list_any}
use Rattle.std.proofs.lemmas.List.{get_or-drop}
use Rattle.std.proofs.lemmas.List.Folds.{list_any_more}
use mathlib.Core.Path.{◌≡◌, refl, sym, ap, ◌∙◌}
use mathlib.Core.Bool.{Bool, true, false, ◌&&◌, ◌||◌, not}
use mathlib.Core.List.{List}
use Prim.Native.Nat.{ℕ, zero, suc, ◌+◌, ◌-◌, ◌≤◌}
use native.Mathlib.Omega.{arith}
use native.Mathlib.Numerals.{add-one}
use lib.ListN.{length, get_or, take, drop, length-drop}
use Rattle.columns.specs.Common.{every}

neither : (a b : Bool) → not (a || b) ≡ (not a && not b)
neither true b = refl
neither false b = refl

module _ (p : ℕ → Bool) where
  none_of : (xs : List ℕ) (n : ℕ) → n ≤ length xs → not (list_any p (take n xs)) ≡ every (λ (i : ℕ). not (p (get_or xs i 0))) n
  unfolding every
  none_of xs zero h = refl
  none_of xs (suc n) h =
      ap (λ (k : ℕ). not (list_any p (take k xs))) (sym (add-one n))
      ∙ ap not (list_any_more p xs n 0 (omega arith))
      ∙ neither (list_any p (take n xs)) (p (get_or xs n 0))
      ∙ ap (λ (b : Bool). b && not (p (get_or xs n 0))) (none_of xs n (omega arith))

  -- n words of b from s on
  pub none_among : (b : List ℕ) (s n : ℕ) → s + n ≤ length b → not (list_any p (take (s + n - s) (drop s b))) ≡ every (λ (i : ℕ). not (p (get_or b (s + i) 0))) n
  none_among b s n h =
      let e : s + n - s ≡ n = omega arith in
      ap (λ (k : ℕ). not (list_any p (take k (drop s b)))) e
      ∙ none_of (drop s b) n (rw length-drop (omega arith))
      ∙ (λ j. every (λ (i : ℕ). not (p (get_or-drop s b i 0 j))) n)
