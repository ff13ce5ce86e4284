-- Tests that are computed of a machine, and what they say of it. Assumes nothing.
use mathlib.Core.Path.{◌≡◌, refl, subst, sym, ap, ◌∙◌}
use mathlib.Core.Bool.{Bool, true, false, not, ◌&&◌, ◌||◌}
use mathlib.Core.List.{List, [], ◌∷◌}
use mathlib.Core.Logic.{inl, inr}
use Prim.Native.Nat.{ℕ, zero, suc, ◌<◌}
use lib.Dec.{ltb}
use lib.ListN.{length, get_or-eq_default}
use borrow.Author.Tests.{ltb-true, ltb-false}
use Rattle.entries.specs.declared.Entry.{Entry}
use Rattle.entries.specs.Order.{entry_before}
use Rattle.percpu.specs.Cpu.{Cpu}
use Rattle.machine.specs.Machine.{Machine, cpu_at, no_cpu}
use Rattle.model.proofs.Cases.{by_test, never, and_both}
use Rattle.model.proofs.Lists.{In, all_in}
use Rattle.model.proofs.Sorted.{Sorted}

abbrev pub imp : Bool → Bool → Bool
imp a b = not a || b

pub imp_use : (a b : Bool) → imp a b ≡ true → a ≡ true → b ≡ true
imp_use true b e t = e
imp_use false b e t = never {b = false} t refl

-- some number below n passes
abbrev pub any : (ℕ → Bool) → ℕ → Bool
any f zero = false
any f (suc n) = any f n || f n

pub any_find : (f : ℕ → Bool) (n : ℕ) → any f n ≡ true → (i : ℕ) × (f i ≡ true)
any_find f zero e = never {b = false} e refl
any_find f (suc n) e = by_test (f n) (λ t. (n, t)) (λ t. any_find f n (sym (or_no (any f n) (f n) t) ∙ e))
  where
    or_no : (a b : Bool) → b ≡ false → (a || b) ≡ a
    or_no true b z = refl
    or_no false b z = z

module _ {A : Type 0} where
  -- every item passes, and some item does
  abbrev pub all_of : (A → Bool) → List A → Bool
  all_of f [] = true
  all_of f (x ∷ xs) = f x && all_of f xs

  abbrev pub some_of : (A → Bool) → List A → Bool
  some_of f [] = false
  some_of f (x ∷ xs) = f x || some_of f xs

  pub all_of_at : (f : A → Bool) (l : List A) → all_of f l ≡ true → (a : A) → In a l → f a ≡ true
  all_of_at f [] e a i = absurd i
  all_of_at f (x ∷ xs) e a (inl z) = subst (λ y. f y ≡ true) (sym z) (and_both (f x) _ e).0
  all_of_at f (x ∷ xs) e a (inr i) = all_of_at f xs (and_both (f x) _ e).1 a i

  pub some_of_find : (f : A → Bool) (l : List A) → some_of f l ≡ true → (a : A) × In a l × (f a ≡ true)
  some_of_find f [] e = never {b = false} e refl
  some_of_find f (x ∷ xs) e =
      by_test (f x) (λ t. (x, inl refl, t)) (λ t. let (a, i, u) = some_of_find f xs (rw t at e) in (a, inr i, u))

-- keys rise strictly
abbrev pub rises : List Entry → Bool
rises [] = true
rises (x ∷ xs) = all_of (entry_before x) xs && rises xs

pub rises_sorted : (l : List Entry) → rises l ≡ true → Sorted entry_before l
rises_sorted [] e = tt
rises_sorted (x ∷ xs) e =
    let (a, b) = and_both (all_of (entry_before x) xs) _ e in (all_in _ xs (λ y i. all_of_at (entry_before x) xs a y i), rises_sorted xs b)

-- a CPU whose lists have an item is one of them
pub listed_below : {A : Type 0} (f : Cpu → List A) → f no_cpu ≡ [] → (M : Machine) (i : ℕ) (a : A) → In a (f (cpu_at M i)) → i < length M.cpus
unfolding cpu_at
listed_below f e M i a h =
    by_test (ltb i (length M.cpus)) (λ t. ltb-true i _ t)
    (λ t. absurd (subst (λ l. In a l) (ap f (get_or-eq_default M.cpus no_cpu (ltb-false i _ t)) ∙ e) h))
