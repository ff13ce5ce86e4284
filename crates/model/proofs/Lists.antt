-- All and In, over lists. Assumes nothing.
use mathlib.Core.Path.{◌≡◌, refl, subst, sym, ap}
use mathlib.Core.Bool.{Bool, true}
use mathlib.Core.List.{List, [], ◌∷◌, ◌++◌, map}
use mathlib.Core.Logic.{◌⊎◌, inl, inr}
use Prim.Native.Nat.{ℕ, suc, ◌<◌}
use lib.ListN.{length, get_or, drop}
use lib.Seq.{drop-cons}
use Rattle.columns.specs.Common.{fold, keep}
use Rattle.model.proofs.Cases.{by_test}
pub use Rattle.columns.specs.Common.{All, In}

module _ {A : Type 0} where
  pub all_at : (P : A → Type 0) (l : List A) → All P l → (a : A) → In a l → P a
  all_at P [] h a i = absurd i
  all_at P (x ∷ xs) h a (inl e) = subst P (sym e) h.0
  all_at P (x ∷ xs) h a (inr i) = all_at P xs h.1 a i

  pub all_map : (P Q : A → Type 0) → ((a : A) → P a → Q a) → (l : List A) → All P l → All Q l
  all_map P Q f [] h = tt
  all_map P Q f (x ∷ xs) h = (f x h.0, all_map P Q f xs h.1)

  pub all_in : (P : A → Type 0) (l : List A) → ((a : A) → In a l → P a) → All P l
  all_in P [] f = tt
  all_in P (x ∷ xs) f = (f x (inl refl), all_in P xs (λ a i. f a (inr i)))

module _ {A B : Type 0} where
  -- what every scan-step keeps, the fold keeps
  pub fold_keeps : (P : B → Type 0) (f : B → A → B) → ((b : B) (a : A) → P b → P (f b a)) → (b : B) (l : List A) → P b → P (fold f b l)
  fold_keeps P f k b [] p = p
  fold_keeps P f k b (x ∷ xs) p = fold_keeps P f k (f b x) xs (k b x p)

  -- a loop's invariant: the fold over what is left
  pub fold_drop : (f : B → A → B) (b : B) (l : List A) (i : ℕ) (d : A) → i < length l → fold f b (drop i l) ≡ fold f (f b (get_or l i d)) (drop (suc i) l)
  fold_drop f b l i d h = rw (drop-cons l i d h)

  -- what every step keeps at an item of the list
  pub fold_keeps_in : (P : B → Type 0) (f : B → A → B) (l : List A) → ((b : B) (a : A) → In a l → P b → P (f b a)) → (b : B) → P b → P (fold f b l)
  fold_keeps_in P f [] k b p = p
  fold_keeps_in P f (x ∷ xs) k b p = fold_keeps_in P f xs (λ c a i. k c a (inr i)) (f b x) (k b x (inl refl) p)

  pub in_map : (f : A → B) (l : List A) (b : B) → In b (map f l) → (a : A) × In a l × (b ≡ f a)
  in_map f [] b i = absurd i
  in_map f (x ∷ xs) b (inl e) = (x, inl refl, e)
  in_map f (x ∷ xs) b (inr i) = let (a, j, e) = in_map f xs b i in (a, inr j, e)

  pub map_in : (f : A → B) (l : List A) (a : A) → In a l → In (f a) (map f l)
  map_in f [] a i = absurd i
  map_in f (x ∷ xs) a (inl e) = inl (ap f e)
  map_in f (x ∷ xs) a (inr i) = inr (map_in f xs a i)

module _ {A : Type 0} where
  pub in_append : (l m : List A) (a : A) → In a (l ++ m) → In a l ⊎ In a m
  in_append [] m a i = inr i
  in_append (x ∷ xs) m a (inl e) = inl (inl e)
  in_append (x ∷ xs) m a (inr i) = go (in_append xs m a i)
    where
      go : In a xs ⊎ In a m → In a (x ∷ xs) ⊎ In a m
      go (inl j) = inl (inr j)
      go (inr j) = inr j

  pub in_right : (l m : List A) (a : A) → In a m → In a (l ++ m)
  in_right [] m a i = i
  in_right (x ∷ xs) m a i = inr (in_right xs m a i)

  pub in_left : (l m : List A) (a : A) → In a l → In a (l ++ m)
  in_left [] m a i = absurd i
  in_left (x ∷ xs) m a (inl e) = inl e
  in_left (x ∷ xs) m a (inr i) = inr (in_left xs m a i)

  pub in_keep : (p : A → Bool) (l : List A) (a : A) → In a (keep p l) → In a l × (p a ≡ true)
  in_keep p [] a i = absurd i
  in_keep p (x ∷ xs) a i =
      by_test (p x) (λ t. go t (λ j. in_keep p xs a j) (rw t at i)) (λ t. let (j, q) = in_keep p xs a (rw t at i) in (inr j, q))
    where
      go : p x ≡ true → (In a (keep p xs) → In a xs × (p a ≡ true)) → (a ≡ x) ⊎ In a (keep p xs) → In a (x ∷ xs) × (p a ≡ true)
      go t r (inl e) = (inl e, rw e t)
      go t r (inr j) = let (m, q) = r j in (inr m, q)

  pub keep_in : (p : A → Bool) (l : List A) (a : A) → In a l → p a ≡ true → In a (keep p l)
  keep_in p [] a i t = absurd i
  keep_in p (x ∷ xs) a (inl e) t = rw (← e, t) (inl refl)
  keep_in p (x ∷ xs) a (inr i) t = by_test (p x) (λ z. rw z (inr (keep_in p xs a i t))) (λ z. rw z (keep_in p xs a i t))
