-- Lists that are tabulated, and the newest of a list. Assumes nothing.
use mathlib.Core.Path.{◌≡◌, refl, sym, ap, ◌∙◌}
use Prim.Native.Nat.{ℕ, zero, suc, ◌+◌, ◌-◌, ◌<◌, ◌≤◌}
use native.Mathlib.Omega.{arith}
use mathlib.Core.List.{List, [], ◌∷◌, ◌++◌}
use lib.ListN.{length, drop, length-append, length-drop}
use lib.Seq.{drop-append-le, drop-drop}
use Rattle.columns.specs.Common.{tabulate, All}
use Rattle.window.specs.Window.{newest}

pub tabulate_snoc : {A : Type 0} (n : ℕ) (f : ℕ → A) → tabulate (suc n) f ≡ tabulate n f ++ (f n ∷ [])
unfolding tabulate
tabulate_snoc zero f = refl
tabulate_snoc (suc n) f = ap (λ (l : List _). f zero ∷ l) (tabulate_snoc n (λ (i : ℕ). f (suc i)))

pub tabulate_same : {A : Type 0} (n : ℕ) (f g : ℕ → A) → ((i : ℕ) → i < n → f i ≡ g i) → tabulate n f ≡ tabulate n g
unfolding tabulate
tabulate_same zero f g h = refl
tabulate_same (suc n) f g h = λ j. h zero (omega arith) j ∷ tabulate_same n (λ (i : ℕ). f (suc i)) (λ (i : ℕ). g (suc i)) (λ i b. h (suc i) (omega arith)) j

pub tabulate_all : {A : Type 0} (P : A → Type 0) (n : ℕ) (f : ℕ → A) → ((i : ℕ) → i < n → P (f i)) → All P (tabulate n f)
unfolding tabulate
tabulate_all P zero f h = tt
tabulate_all P (suc n) f h = (h zero (omega arith), tabulate_all P n (λ (i : ℕ). f (suc i)) (λ i b. h (suc i) (omega arith)))

-- all but the first
pub drop_tabulate : {A : Type 0} (n : ℕ) (f : ℕ → A) → drop 1 (tabulate (suc n) f) ≡ tabulate n (λ (i : ℕ). f (suc i))
unfolding tabulate
drop_tabulate n f = refl

module _ {A : Type 0} (k : ℕ) where
  pub newest_all : (l : List A) → length l ≤ k → newest k l ≡ l
  unfolding newest
  newest_all l h = let e : length l - k ≡ 0 = omega arith in rw e

  -- what is no longer among the newest does not come back
  pub newest_newest : (l m : List A) → newest k (newest k l ++ m) ≡ newest k (l ++ m)
  unfolding newest
  newest_newest l m =
      let e : drop (length l - k) l ++ m ≡ drop (length l - k) (l ++ m) = sym (drop-append-le (length l - k) l m (omega arith))
      in let s : length (l ++ m) ≡ length l + length m = length-append l m
      in let g : length (drop (length l - k) (l ++ m)) ≡ length (l ++ m) - (length l - k) = length-drop (length l - k) (l ++ m)
      in let h : (length l - k) + (length (drop (length l - k) (l ++ m)) - k) ≡ length (l ++ m) - k = omega arith
      in ap (λ (z : List A). drop (length z - k) z) e
      ∙ drop-drop (length (drop (length l - k) (l ++ m)) - k) (length l - k) (l ++ m)
      ∙ ap (λ (j : ℕ). drop j (l ++ m)) h
