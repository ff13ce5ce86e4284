-- The part of an array that is in use. Assumes nothing.
use mathlib.Core.Path.{◌≡◌, refl, sym, ap, ◌∙◌}
use mathlib.Core.List.{List, [], ◌∷◌}
use Prim.Native.Nat.{ℕ, zero, suc, ◌<◌, ◌≤◌}
use native.Mathlib.Omega.{arith}
use lib.ListN.{length, get_or, take, set}
use lib.Seq.{get_or-take}

module _ {A : Type 0} where
  pub any_default : (l : List A) (i : ℕ) (d e : A) → i < length l → get_or l i d ≡ get_or l i e
  any_default [] i d e h = absurd (omega arith)
  any_default (x ∷ l) zero d e h = refl
  any_default (x ∷ l) (suc i) d e h = any_default l i d e (omega arith)

  -- what is read of it; d and e: what is read past the end
  pub read_front : (l : List A) (n i : ℕ) (d e : A) → i < n → n ≤ length l → get_or l i d ≡ get_or (take n l) i e
  read_front l n i d e h g = any_default l i d e (omega arith) ∙ sym (get_or-take n l i e h)

  pub take_set : (l : List A) (n i : ℕ) (a : A) → take n (set l i a) ≡ set (take n l) i a
  take_set [] zero i a = refl
  take_set [] (suc n) i a = refl
  take_set (x ∷ l) zero zero a = refl
  take_set (x ∷ l) zero (suc i) a = refl
  take_set (x ∷ l) (suc n) zero a = refl
  take_set (x ∷ l) (suc n) (suc i) a = ap (λ (z : List A). x ∷ z) (take_set l n i a)
