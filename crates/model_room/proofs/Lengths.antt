-- How long a list is after an insertion, a removal, or the items that pass a test. Assumes nothing.
use mathlib.Core.Path.{◌≡◌}
use mathlib.Core.Bool.{Bool, true, false}
use mathlib.Core.List.{List, [], ◌∷◌}
use Prim.Native.Nat.{◌+◌, ◌≤◌}
use native.Mathlib.Omega.{arith}
use lib.ListN.{length}
use Rattle.columns.specs.Common.{keep}
use Rattle.columns.proofs.Tests.{by_test}
use Rattle.entries.specs.declared.Key.{Key}
use Rattle.entries.specs.declared.Entry.{Entry}
use Rattle.entries.specs.Order.{entry_before}
use Rattle.entries.specs.Queue.{insert, remove, keyed}
use Rattle.model.specs.Choice.{without_keys}

module _ {A : Type 0} (lt : A → A → Bool) (a : A) where
  pub length_insert : (l : List A) → length (insert lt a l) ≤ length l + 1
  unfolding insert
  length_insert [] = omega arith
  length_insert (x ∷ xs) =
      let h : length (insert lt a xs) ≤ length xs + 1 = length_insert xs
      in by_test (lt a x) (λ e. rw e (omega arith)) (λ e. rw e (by_test (lt x a) (λ f. rw f (omega arith)) (λ f. rw f (omega arith))))

  pub length_remove : (l : List A) → length (remove lt a l) ≤ length l
  unfolding remove
  length_remove [] = omega arith
  length_remove (x ∷ xs) =
      let h : length (remove lt a xs) ≤ length xs = length_remove xs
      in by_test (lt a x) (λ e. rw e (omega arith)) (λ e. rw e (by_test (lt x a) (λ f. rw f (omega arith)) (λ f. rw f (omega arith))))

-- no item passes p, and q and r
module _ {A : Type 0} (p q r : A → Bool) (apart : (x : A) → r x ≡ true → q x ≡ true → p x ≡ false) where
  pub length_apart : (l : List A) → length (keep p l) + length (keep q (keep r l)) ≤ length l
  length_apart [] = omega arith
  length_apart (x ∷ xs) =
      let h : length (keep p xs) + length (keep q (keep r xs)) ≤ length xs = length_apart xs in
      let either : length (keep p (x ∷ xs)) ≤ length (keep p xs) + 1 = by_test (p x) (λ e. rw e (omega arith)) (λ e. rw e (omega arith)) in
      by_test (r x)
      (λ e.
      by_test (q x) (λ f. let z : p x ≡ false = apart x e f in rw (e, f, z) (omega arith)) (λ f. rw (e, f) (omega arith)))
      (λ e. rw e (omega arith))

pub length_without : (ks : List Key) (q : List Entry) → length (without_keys q ks) ≤ length q
length_without [] q = omega arith
length_without (k ∷ ks) q = omega (arith, length_without ks (remove entry_before (keyed k) q), length_remove entry_before (keyed k) q)
