-- Putting in, leaving out and keeping, by ranks: what sorted lists do. Assumes nothing.
use mathlib.Core.Path.{◌≡◌, refl, sym}
use mathlib.Core.Bool.{Bool, true}
use mathlib.Core.List.{List, [], ◌∷◌, ◌++◌}
use mathlib.Core.Logic.{◌⊎◌, inl, inr}
use native.Mathlib.Omega.{arith}
use lib.ListN.{length}
use Rattle.columns.specs.Common.{keep, All, In, is_empty}
use Rattle.entries.specs.Queue.{insert, remove}
use Rattle.entries.specs.Sorted.{Sorted}
use Rattle.entries.proofs.Ordered.{IsOrder, sorted_keep}
use Rattle.model.proofs.Cases.{by_test, or_either}
use Rattle.model.proofs.Lists.{all_at, all_in, all_map, in_append, in_left, in_right, in_keep, keep_in}
use Rattle.model.proofs.Sorted.{insert_sorted, remove_sorted, in_inserted, in_insert, still_in_insert, in_remove, still_in_remove, removed_at}
use Rattle.plain_model.specs.Rank.{by_rank, other_key, leave_out, put_in, Differ}
use Rattle.plain_model.proofs.Ranked.{Apart, one_or_apart, keep_differs, in_by_rank, by_rank_in, by_rank_sorted, same_sorted, length_by_rank}

module _ {A : Type 0} {lt : A → A → Bool} (o : IsOrder lt) where
  -- a sorted list is so by its ranks
  pub sorted_differs : (xs : List A) → Sorted lt xs → Differ lt xs
  sorted_differs [] s = tt
  sorted_differs (x ∷ xs) s = (all_map _ _ (λ y t. rw t) xs s.0, sorted_differs xs s.1)

  pub by_rank_of_sorted : (xs : List A) → Sorted lt xs → by_rank lt xs ≡ xs
  by_rank_of_sorted xs s =
      same_sorted o (by_rank lt xs) xs (by_rank_sorted o xs (sorted_differs xs s)) s (in_by_rank o xs) (by_rank_in o xs)

  -- by their ranks two lists of the same members are one
  pub by_rank_same : (xs ys : List A) → Differ lt xs → Differ lt ys → ((a : A) → In a xs → In a ys) → ((a : A) → In a ys → In a xs) → by_rank lt xs ≡ by_rank lt ys
  by_rank_same xs ys d e f g =
      same_sorted o (by_rank lt xs) (by_rank lt ys) (by_rank_sorted o xs d) (by_rank_sorted o ys e)
      (λ a i. by_rank_in o ys a (f a (in_by_rank o xs a i))) (λ a i. by_rank_in o xs a (g a (in_by_rank o ys a i)))

  pub by_rank_keep : (p : A → Bool) (xs : List A) → Differ lt xs → by_rank lt (keep p xs) ≡ keep p (by_rank lt xs)
  by_rank_keep p xs d =
      same_sorted o (by_rank lt (keep p xs)) (keep p (by_rank lt xs))
      (by_rank_sorted o (keep p xs) (keep_differs o p xs d)) (sorted_keep p lt (by_rank lt xs) (by_rank_sorted o xs d))
      (λ a i. let (j, t) = in_keep p xs a (in_by_rank o (keep p xs) a i) in keep_in p (by_rank lt xs) a (by_rank_in o xs a j) t)
      (λ a i. let (j, t) = in_keep p (by_rank lt xs) a i in by_rank_in o (keep p xs) a (keep_in p xs a (in_by_rank o xs a j) t))

  pub leave_out_differs : (a : A) (xs : List A) → Differ lt xs → Differ lt (leave_out lt a xs)
  unfolding leave_out
  leave_out_differs a xs d = keep_differs o (other_key lt a) xs d

  either : (a b : A) → Apart lt a b → other_key lt a b ≡ true
  either a b (inl t) = rw t
  either a b (inr t) = by_test (lt a b) (λ u. rw u) (λ u. rw (u, t))

  pub by_rank_leave_out : (a : A) (xs : List A) → Differ lt xs → by_rank lt (leave_out lt a xs) ≡ remove lt a (by_rank lt xs)
  unfolding leave_out
  by_rank_leave_out a xs d =
      same_sorted o (by_rank lt (leave_out lt a xs)) (remove lt a (by_rank lt xs))
      (by_rank_sorted o (leave_out lt a xs) (leave_out_differs a xs d)) (remove_sorted o a (by_rank lt xs) (by_rank_sorted o xs d))
      (λ b i.
      let (j, t) = in_keep (other_key lt a) xs b (in_by_rank o (leave_out lt a xs) b i)
      in still_in_remove lt a b (by_rank lt xs) (or_either (lt a b) (lt b a) t) (by_rank_in o xs b j))
      (λ b i.
      let t = removed_at o a (by_rank lt xs) (by_rank_sorted o xs d) b i
      in let j = in_by_rank o xs b (in_remove lt a b (by_rank lt xs) i)
      in by_rank_in o (leave_out lt a xs) b (keep_in (other_key lt a) xs b j (either a b t)))

  append_differs : (l : List A) (a : A) → Differ lt l → All (λ (y : A). other_key lt y a ≡ true) l → Differ lt (l ++ (a ∷ []))
  append_differs [] a d h = (tt, tt)
  append_differs (x ∷ l) a d h =
      (all_in (λ (y : A). other_key lt x y ≡ true) (l ++ (a ∷ [])) (λ y i. go y (in_append l (a ∷ []) y i)), append_differs l a d.1 h.1)
    where
      go : (y : A) → In y l ⊎ In y (a ∷ []) → other_key lt x y ≡ true
      go y (inl i) = all_at (λ (z : A). other_key lt x z ≡ true) l d.0 y i
      go y (inr (inl e)) = rw e h.0
      go y (inr (inr i)) = absurd i

  turned : (a b : A) → Apart lt a b → Apart lt b a
  turned a b (inl t) = inr t
  turned a b (inr t) = inl t

  pub put_in_differs : (a : A) (xs : List A) → Differ lt xs → Differ lt (put_in lt a xs)
  unfolding put_in leave_out
  put_in_differs a xs d =
      append_differs (leave_out lt a xs) a (leave_out_differs a xs d)
      (all_in (λ (y : A). other_key lt y a ≡ true) (leave_out lt a xs)
      (λ y i. let (j, t) = in_keep (other_key lt a) xs y i in either y a (turned a y (or_either (lt a y) (lt y a) t))))

  pub by_rank_put_in : (a : A) (xs : List A) → Differ lt xs → by_rank lt (put_in lt a xs) ≡ insert lt a (by_rank lt xs)
  unfolding put_in leave_out
  by_rank_put_in a xs d =
      same_sorted o (by_rank lt (put_in lt a xs)) (insert lt a (by_rank lt xs))
      (by_rank_sorted o (put_in lt a xs) (put_in_differs a xs d)) (insert_sorted o a (by_rank lt xs) (by_rank_sorted o xs d))
      (λ b i. there b (in_append (leave_out lt a xs) (a ∷ []) b (in_by_rank o (put_in lt a xs) b i)))
      (λ b i.
      by_rank_in o (put_in lt a xs) b
      (back b (one_or_apart o (insert lt a (by_rank lt xs)) (sorted_differs (insert lt a (by_rank lt xs)) (insert_sorted o a (by_rank lt xs) (by_rank_sorted o xs d))) a b (in_inserted lt a (by_rank lt xs)) i)
      (in_insert lt a b (by_rank lt xs) i)))
    where
      back : (b : A) → (a ≡ b) ⊎ Apart lt a b → (b ≡ a) ⊎ In b (by_rank lt xs) → In b (put_in lt a xs)
      back b (inl e) j = in_right (leave_out lt a xs) (a ∷ []) b (inl (sym e))
      back b (inr t) (inl e) = in_right (leave_out lt a xs) (a ∷ []) b (inl e)
      back b (inr t) (inr j) = in_left (leave_out lt a xs) (a ∷ []) b (keep_in (other_key lt a) xs b (in_by_rank o xs b j) (either a b t))

      there : (b : A) → In b (leave_out lt a xs) ⊎ In b (a ∷ []) → In b (insert lt a (by_rank lt xs))
      there b (inl i) =
          let (j, t) = in_keep (other_key lt a) xs b i
          in still_in_insert lt a b (by_rank lt xs) (or_either (lt a b) (lt b a) t) (by_rank_in o xs b j)
      there b (inr (inl e)) = rw e (in_inserted lt a (by_rank lt xs))
      there b (inr (inr i)) = absurd i

  pub empty_by_rank : (xs : List A) → is_empty (by_rank lt xs) ≡ is_empty xs
  empty_by_rank xs = go (by_rank lt xs) xs (length_by_rank o xs)
    where
      go : (l m : List A) → length l ≡ length m → is_empty l ≡ is_empty m
      go [] [] e = refl
      go [] (y ∷ m) e = absurd (omega arith)
      go (x ∷ l) [] e = absurd (omega arith)
      go (x ∷ l) (y ∷ m) e = refl
