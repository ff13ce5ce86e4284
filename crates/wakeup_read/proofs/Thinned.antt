-- Timers at the front of a set, and a sorted list without an item. Assumes nothing.
use mathlib.Core.Path.{◌≡◌, refl, sym, ap, ◌∙◌}
use mathlib.Core.Bool.{Bool, true, false, not}
use mathlib.Core.List.{List, [], ◌∷◌, ◌++◌}
use Prim.Native.Nat.{ℕ, zero, suc, ◌<◌}
use native.Mathlib.Omega.{arith}
use lib.ListN.{length, get_or, take, drop, take-append-drop}
use Rattle.columns.specs.Common.{keep}
use Rattle.columns.specs.Columns.{remove_at}
use Rattle.columns.proofs.Tests.{by_test}
use Rattle.columns.proofs.Thinned.{all_out, thinned}
use Rattle.entries.specs.Sorted.{Sorted}
use Rattle.table.specs.First.{lead}

pub sorted_out : {A : Type 0} (lt : A → A → Bool) (i : ℕ) (l : List A) → Sorted lt l → Sorted lt (remove_at i l)
unfolding remove_at
sorted_out lt zero [] s = tt
sorted_out lt zero (x ∷ xs) s = s.1
sorted_out lt (suc i) [] s = tt
sorted_out lt (suc i) (x ∷ xs) s = (all_out (λ y. lt x y ≡ true) i xs s.0, sorted_out lt i xs s.1)

-- where all that does not pass g passes f, and what passes g stands at the front
module _ {A : Type 0} (f g : A → Bool) (up : (x : A) → g x ≡ false → f x ≡ true) where
  kept_past : (l : List A) → keep f (keep (λ x. not (g x)) l) ≡ keep (λ x. not (g x)) l
  kept_past [] = refl
  kept_past (x ∷ xs) =
      by_test (g x) (λ e. rw e (kept_past xs)) (λ e. let p : f x ≡ true = up x e in rw e (rw p (ap (λ (l : List A). x ∷ l) (kept_past xs))))

  pub thinned_none : (l : List A) → keep (λ x. not (g x)) l ≡ drop (lead g l) l → thinned f (lead g l) l ≡ l
  thinned_none l h =
      ap (λ (y : List A). take (lead g l) l ++ y) (ap (keep f) (sym h) ∙ kept_past l ∙ h) ∙ take-append-drop (lead g l) l

-- the items at the front pass the test
pub lead_passes : {A : Type 0} (g : A → Bool) (d : A) (i : ℕ) (l : List A) → i < lead g l → (g (get_or l i d) ≡ true) × (i < length l)
unfolding lead
lead_passes g d i [] h = absurd (omega arith)
lead_passes g d zero (x ∷ xs) h =
    by_test (g x) (λ e. (e, omega arith)) (λ e. let z : lead g (x ∷ xs) ≡ 0 = rw e in absurd (omega arith))
lead_passes g d (suc i) (x ∷ xs) h =
    by_test (g x)
    (λ e. let z : lead g (x ∷ xs) ≡ suc (lead g xs) = rw e in let r = lead_passes g d i xs (omega arith) in (r.0, omega (arith, r.1)))
    (λ e. let z : lead g (x ∷ xs) ≡ 0 = rw e in absurd (omega arith))
