-- A fold that goes on with the next item, and an item of a list of such. Assumes nothing.
use mathlib.Core.Path.{◌≡◌, refl}
use mathlib.Core.List.{List, [], ◌∷◌, ◌++◌}
use Prim.Native.Nat.{ℕ, zero, suc, ◌+◌, ◌<◌}
use native.Mathlib.Numerals.{add-one}
use native.Mathlib.Omega.{arith}
use lib.ListN.{length, get_or, take}
use lib.Seq.{take-suc}
use Rattle.columns.specs.Common.{fold, All}

module _ {A B : Type 0} (f : B → A → B) where
  pub fold_behind : (b : B) (l : List A) (x : A) → fold f b (l ++ (x ∷ [])) ≡ f (fold f b l) x
  fold_behind b [] x = refl
  fold_behind b (y ∷ l) x = fold_behind (f b y) l x

  pub fold_next : (b : B) (l : List A) (i : ℕ) (d : A) → i < length l → fold f b (take (i + 1) l) ≡ f (fold f b (take i l)) (get_or l i d)
  fold_next b l i d h = rw (add-one i, take-suc l i d h) (fold_behind b (take i l) (get_or l i d))

pub all_get_d : {A : Type 0} (P : A → Type 0) (l : List A) (i : ℕ) (d : A) → i < length l → All P l → P (get_or l i d)
all_get_d P [] i d h a = absurd (omega arith)
all_get_d P (x ∷ l) zero d h a = a.0
all_get_d P (x ∷ l) (suc i) d h a = all_get_d P l i d (omega arith) a.1
