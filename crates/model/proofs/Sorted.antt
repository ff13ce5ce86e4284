-- Sorted lists: inserting and removing. Assumes nothing.
use mathlib.Core.Path.{◌≡◌, refl}
use mathlib.Core.Bool.{Bool, true, false}
use mathlib.Core.List.{List, [], ◌∷◌}
use mathlib.Core.Logic.{◌⊎◌, inl, inr}
use Rattle.entries.specs.Queue.{insert, remove}
use Rattle.entries.proofs.Ordered.{IsOrder}
pub use Rattle.model.specs.Tidy.{Sorted}
use Rattle.model.proofs.Cases.{by_test, never}
use Rattle.model.proofs.Lists.{All, In, all_at, all_map, all_in}

module _ {A : Type 0} (lt : A → A → Bool) where
  -- what holds of a and of all of l holds of all after the insertion
  pub all_insert : (P : A → Type 0) (a : A) (l : List A) → P a → All P l → All P (insert lt a l)
  unfolding insert
  all_insert P a [] p h = (p, tt)
  all_insert P a (x ∷ xs) p h =
      by_test (lt a x) (λ e. rw e (p, h))
      (λ e. rw e (by_test (lt x a) (λ e'. rw e' (h.0, all_insert P a xs p h.1)) (λ e'. rw e' (p, h.1))))

  pub all_remove : (P : A → Type 0) (a : A) (l : List A) → All P l → All P (remove lt a l)
  unfolding remove
  all_remove P a [] h = tt
  all_remove P a (x ∷ xs) h =
      by_test (lt a x) (λ e. rw e h)
      (λ e. rw e (by_test (lt x a) (λ e'. rw e' (h.0, all_remove P a xs h.1)) (λ e'. rw e' h.1)))

module _ {A : Type 0} {lt : A → A → Bool} (o : IsOrder lt) where
  pub insert_sorted : (a : A) (l : List A) → Sorted lt l → Sorted lt (insert lt a l)
  unfolding insert
  insert_sorted a [] s = (tt, tt)
  insert_sorted a (x ∷ xs) s =
      by_test (lt a x) (λ e. rw e ((e, all_map _ _ (λ y h. o.trans a x y e h) xs s.0), s))
      (λ e. rw e
      (by_test (lt x a) (λ e'. rw e' (all_insert lt _ a xs e' s.0, insert_sorted a xs s.1))
      (λ e'. rw e' (all_map _ _ (λ y h. o.tie a x y e e' h) xs s.0, s.1))))

  pub remove_sorted : (a : A) (l : List A) → Sorted lt l → Sorted lt (remove lt a l)
  unfolding remove
  remove_sorted a [] s = tt
  remove_sorted a (x ∷ xs) s =
      by_test (lt a x) (λ e. rw e s)
      (λ e. rw e
      (by_test (lt x a) (λ e'. rw e' (all_remove lt _ a xs s.0, remove_sorted a xs s.1)) (λ e'. rw e' s.1)))

-- members: an inserted list has the new item and the old ones of other keys; a list with a key removed has the old ones of other keys
module _ {A : Type 0} (lt : A → A → Bool) where
  -- of another key
  abbrev pub Apart : A → A → Type 0
  Apart a b = (lt a b ≡ true) ⊎ (lt b a ≡ true)

  pub in_inserted : (a : A) (l : List A) → In a (insert lt a l)
  unfolding insert
  in_inserted a [] = inl refl
  in_inserted a (x ∷ xs) =
      by_test (lt a x) (λ e. rw e (inl refl)) (λ e. rw e (by_test (lt x a) (λ e'. rw e' (inr (in_inserted a xs))) (λ e'. rw e' (inl refl))))

  pub in_insert : (a b : A) (l : List A) → In b (insert lt a l) → (b ≡ a) ⊎ In b l
  in_insert a b l i = all_at (λ y. (y ≡ a) ⊎ In y l) (insert lt a l) (all_insert lt _ a l (inl refl) (all_in _ l (λ y j. inr j))) b i

  pub still_in_insert : (a b : A) (l : List A) → Apart a b → In b l → In b (insert lt a l)
  unfolding insert
  still_in_insert a b [] n i = absurd i
  still_in_insert a b (x ∷ xs) n (inl p) =
      by_test (lt a x) (λ e. rw e (inr (inl p)))
      (λ e. rw e (by_test (lt x a) (λ e'. rw e' (inl p)) (λ e'. absurd (same e e' n))))
    where
      same : lt a x ≡ false → lt x a ≡ false → Apart a b → ⊥
      same e e' (inl m) = never (rw p at m) e
      same e e' (inr m) = never (rw p at m) e'
  still_in_insert a b (x ∷ xs) n (inr j) =
      by_test (lt a x) (λ e. rw e (inr (inr j)))
      (λ e. rw e (by_test (lt x a) (λ e'. rw e' (inr (still_in_insert a b xs n j))) (λ e'. rw e' (inr j))))

  pub in_remove : (a b : A) (l : List A) → In b (remove lt a l) → In b l
  in_remove a b l i = all_at (λ y. In y l) (remove lt a l) (all_remove lt _ a l (all_in _ l (λ y j. j))) b i

  pub still_in_remove : (a b : A) (l : List A) → Apart a b → In b l → In b (remove lt a l)
  unfolding remove
  still_in_remove a b [] n i = absurd i
  still_in_remove a b (x ∷ xs) n (inl p) =
      by_test (lt a x) (λ e. rw e (inl p))
      (λ e. rw e (by_test (lt x a) (λ e'. rw e' (inl p)) (λ e'. absurd (same e e' n))))
    where
      same : lt a x ≡ false → lt x a ≡ false → Apart a b → ⊥
      same e e' (inl m) = never (rw p at m) e
      same e e' (inr m) = never (rw p at m) e'
  still_in_remove a b (x ∷ xs) n (inr j) =
      by_test (lt a x) (λ e. rw e (inr j))
      (λ e. rw e (by_test (lt x a) (λ e'. rw e' (inr (still_in_remove a b xs n j))) (λ e'. rw e' j)))

module _ {A : Type 0} {lt : A → A → Bool} (o : IsOrder lt) where
  -- scan-start of the removed key is left
  pub removed : (a : A) (l : List A) → Sorted lt l → All (λ y. Apart lt a y) (remove lt a l)
  unfolding remove
  removed a [] s = tt
  removed a (x ∷ xs) s =
      by_test (lt a x) (λ e. rw e (inl e, all_map _ _ (λ y h. inl (o.trans a x y e h)) xs s.0))
      (λ e. rw e
      (by_test (lt x a) (λ e'. rw e' (inr e', removed a xs s.1))
      (λ e'. rw e' (all_map _ _ (λ y h. inl (o.tie a x y e e' h)) xs s.0))))

  pub removed_at : (a : A) (l : List A) → Sorted lt l → (b : A) → In b (remove lt a l) → Apart lt a b
  removed_at a l s b i = all_at (λ y. Apart lt a y) (remove lt a l) (removed a l s) b i
