-- What a test keeps of one more item. Assumes nothing.
use Rattle.std.specs.Prelude.{if◌then◌else◌}
use mathlib.Core.Path.{◌≡◌, refl, sym, ap, ◌∙◌}
use mathlib.Core.Bool.{Bool, true, false}
use mathlib.Core.List.{List, [], ◌∷◌, ◌++◌}
use Prim.Native.Nat.{ℕ, ◌+◌, ◌<◌, ◌≤◌}
use native.Mathlib.Numerals.{add-one}
use lib.ListN.{length, get_or, take}
use lib.Seq.{take-suc, take_all}
use Rattle.columns.specs.Common.{keep}

module _ {A : Type 0} where
  front : (a b : Bool) (y x : A) (l m : List A) → m ≡ (if b then l ++ (x ∷ []) else l)
      → (if a then y ∷ m else m) ≡ (if b then (if a then y ∷ l else l) ++ (x ∷ []) else (if a then y ∷ l else l))
  front true true y x l m e = ap (λ (z : List A). y ∷ z) e
  front true false y x l m e = ap (λ (z : List A). y ∷ z) e
  front false true y x l m e = e
  front false false y x l m e = e

  module _ (p : A → Bool) where
    behind : (xs : List A) (x : A) → keep p (xs ++ (x ∷ [])) ≡ if p x then keep p xs ++ (x ∷ []) else keep p xs
    behind [] x = refl
    behind (y ∷ ys) x = front (p y) (p x) y x (keep p ys) (keep p (ys ++ (x ∷ []))) (behind ys x)

    pub keep_next : (l : List A) (i : ℕ) (d : A) → i < length l
        → keep p (take (i + 1) l) ≡ if p (get_or l i d) then keep p (take i l) ++ (get_or l i d ∷ []) else keep p (take i l)
    keep_next l i d h = rw (add-one i, take-suc l i d h) (behind (take i l) (get_or l i d))

    -- r: m, and x behind it if b
    pub kept_next : (l m r : List A) (i : ℕ) (x : A) (b : Bool) → i < length l → x ≡ get_or l i x → b ≡ p x → m ≡ keep p (take i l)
        → r ≡ (if b then m ++ (x ∷ []) else m) → r ≡ keep p (take (i + 1) l)
    kept_next l m r i x b h is t e s =
        let k : keep p (take (i + 1) l) ≡ if p x then keep p (take i l) ++ (x ∷ []) else keep p (take i l) = rw (← is) at (keep_next l i x h) in
        s ∙ rw (t, e) (sym k)

    pub kept_all : (l m : List A) (i : ℕ) → length l ≤ i → m ≡ keep p (take i l) → m ≡ keep p l
    kept_all l m i h e = rw (take_all i l h) at e
