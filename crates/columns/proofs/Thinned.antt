-- A list thinned out from its end, place by place. Assumes nothing.
use mathlib.Core.Path.{◌≡◌, refl, ap}
use mathlib.Core.Bool.{Bool, true, false}
use mathlib.Core.List.{List, [], ◌∷◌, ◌++◌}
use Prim.Native.Nat.{ℕ, zero, suc, ◌<◌, ◌≤◌}
use native.Mathlib.Omega.{arith}
use lib.ListN.{length, get_or, take, drop}
use Rattle.columns.specs.Common.{keep, All}
use Rattle.columns.specs.Columns.{remove_at}

-- without one item
module _ {A : Type 0} where
  pub length_out : (i : ℕ) (l : List A) → length (remove_at i l) ≤ length l
  unfolding remove_at
  length_out zero [] = omega arith
  length_out zero (x ∷ xs) = omega arith
  length_out (suc i) [] = omega arith
  length_out (suc i) (x ∷ xs) = let h : length (remove_at i xs) ≤ length xs = length_out i xs in omega arith

  pub all_out : (P : A → Type 0) (i : ℕ) (l : List A) → All P l → All P (remove_at i l)
  unfolding remove_at
  all_out P zero [] a = tt
  all_out P zero (x ∷ xs) a = a.1
  all_out P (suc i) [] a = tt
  all_out P (suc i) (x ∷ xs) a = (a.0, all_out P i xs a.1)

-- from place i on only what passes the test
module _ {A : Type 0} (f : A → Bool) where
  abbrev pub thinned : ℕ → List A → List A
  thinned i l = take i l ++ keep f (drop i l)

  pub thinned_long : (i : ℕ) (l : List A) → i ≤ length l → i ≤ length (thinned i l)
  thinned_long zero l h = omega arith
  thinned_long (suc i) [] h = absurd (omega arith)
  thinned_long (suc i) (x ∷ xs) h = let g : i ≤ length (thinned i xs) = thinned_long i xs (omega arith) in omega arith

  module _ (d : A) where
    pub thinned_item : (i : ℕ) (l : List A) → i < length l → get_or (thinned (suc i) l) i d ≡ get_or l i d
    thinned_item i [] h = absurd (omega arith)
    thinned_item zero (x ∷ xs) h = refl
    thinned_item (suc i) (x ∷ xs) h = thinned_item i xs (omega arith)

    pub thinned_stays : (i : ℕ) (l : List A) → i < length l → f (get_or l i d) ≡ true → thinned (suc i) l ≡ thinned i l
    thinned_stays i [] h e = absurd (omega arith)
    thinned_stays zero (x ∷ xs) h e = rw e
    thinned_stays (suc i) (x ∷ xs) h e = ap (λ (l : List A). x ∷ l) (thinned_stays i xs (omega arith) e)

    pub thinned_out : (i : ℕ) (l : List A) → i < length l → f (get_or l i d) ≡ false → remove_at i (thinned (suc i) l) ≡ thinned i l
    unfolding remove_at
    thinned_out i [] h e = absurd (omega arith)
    thinned_out zero (x ∷ xs) h e = rw e
    thinned_out (suc i) (x ∷ xs) h e = ap (λ (l : List A). x ∷ l) (thinned_out i xs (omega arith) e)

  pub thinned_whole : (l : List A) → thinned (length l) l ≡ l
  thinned_whole [] = refl
  thinned_whole (x ∷ xs) = ap (λ (l : List A). x ∷ l) (thinned_whole xs)
