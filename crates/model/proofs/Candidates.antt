-- The entries that can be stolen: alive, of the victim's queue, in its order. And the victims: never the CPU itself.
use Rattle.std.specs.Prelude.{Option}
use mathlib.Core.Path.{◌≡◌, refl, sym, ◌∙◌}
use mathlib.Core.Bool.{true, false, ◌&&◌}
use mathlib.Core.List.{List, [], ◌∷◌, ◌++◌}
use mathlib.Core.Logic.{◌⊎◌, inl, inr, ◌≢◌}
use Prim.Native.Nat.{ℕ, zero, suc, ◌+◌, ◌-◌, ◌%◌, ◌<◌, ◌≤◌}
use native.Mathlib.Omega.{arith}
use native.Mathlib.Nat.{mod-eq_of_lt, mod-eq-sub-mod}
use lib.Dec.{ltb}
use lib.ListN.{length}
use borrow.Author.Tests.{ltb-true, ltb-false}
use Rattle.columns.specs.Common.{fold, tabulate}
use Rattle.context.specs.declared.Context.{Context}
use Rattle.entries.specs.declared.Entry.{Entry}
use Rattle.entries.specs.Order.{entry_before}
use Rattle.machine.specs.Machine.{context_at}
use Rattle.model.specs.Steal.{can_be_stolen, take_candidate, candidates, targets}
use Rattle.model.proofs.Cases.{by_test, never, and_both}
use Rattle.model.proofs.Lists.{In, all_at, all_in, in_append}
use Rattle.model.proofs.Sorted.{Sorted}

sorted_snoc : (l : List Entry) (e : Entry) → Sorted entry_before l → ((g : Entry) → In g l → entry_before g e ≡ true) → Sorted entry_before (l ++ (e ∷ []))
sorted_snoc [] e s b = (tt, tt)
sorted_snoc (x ∷ xs) e s b = (
  all_in _ (xs ++ (e ∷ [])) (λ g i. go g (in_append xs (e ∷ []) g i)),
  sorted_snoc xs e s.1 (λ g i. b g (inr i)),
)
  where
    go : (g : Entry) → In g xs ⊎ In g (e ∷ []) → entry_before x g ≡ true
    go g (inl i) = all_at _ xs s.0 g i
    go g (inr (inl m)) = rw m (b x (inl refl))
    go g (inr (inr i)) = absurd i

module _ (k : ℕ) (locked : List ℕ) (cs : List Context) (w : Option ℕ) (n : ℕ) where
  -- got: taken so far; es: the entries to come
  pub record Taking (got es : List Entry) : Type 0 where
    pub sorted : Sorted entry_before got
    pub before_rest : (g f : Entry) → In g got → In f es → entry_before g f ≡ true
    pub alive : (g : Entry) → In g got → (context_at cs g.context_ref).gone ≡ false

  stolen_alive : (got : List Entry) (e : Entry) → can_be_stolen k locked cs w got e ≡ true → (context_at cs e.context_ref).gone ≡ false
  unfolding can_be_stolen
  stolen_alive got e h = by_test (context_at cs e.context_ref).gone (λ t. never {b = false} (rw t at h) refl) (λ t. t)

  take_taking : (got : List Entry) (e : Entry) (es : List Entry) → Sorted entry_before (e ∷ es) → Taking got (e ∷ es) → Taking (take_candidate k locked cs w n got e) es
  take_taking got e es s a =
      by_test (ltb (length got) n && can_be_stolen k locked cs w got e)
      (λ t. rw t (record {
        sorted = sorted_snoc got e a.sorted (λ g i. a.before_rest g e i (inl refl));
        before_rest = λ g f i j. later g f j (in_append got (e ∷ []) g i);
        alive = λ g i. new t g (in_append got (e ∷ []) g i);
      }))
      (λ t. rw t (record { sorted = a.sorted; before_rest = λ g f i j. a.before_rest g f i (inr j); alive = a.alive }))
    where
      later : (g f : Entry) → In f es → In g got ⊎ In g (e ∷ []) → entry_before g f ≡ true
      later g f j (inl i) = a.before_rest g f i (inr j)
      later g f j (inr (inl m)) = rw m (all_at _ es s.0 f j)
      later g f j (inr (inr i)) = absurd i

      new : (ltb (length got) n && can_be_stolen k locked cs w got e) ≡ true → (g : Entry) → In g got ⊎ In g (e ∷ []) → (context_at cs g.context_ref).gone ≡ false
      new t g (inl i) = a.alive g i
      new t g (inr (inl m)) = rw m (stolen_alive got e (and_both (ltb (length got) n) _ t).1)
      new t g (inr (inr i)) = absurd i

  taking : (got es : List Entry) → Sorted entry_before es → Taking got es → Taking (fold (take_candidate k locked cs w n) got es) []
  taking got [] s a = a
  taking got (e ∷ es) s a = taking (take_candidate k locked cs w n got e) es s.1 (take_taking got e es s a)

  taken_from : (got es : List Entry) (g : Entry) → In g (fold (take_candidate k locked cs w n) got es) → In g got ⊎ In g es
  taken_from got [] g i = inl i
  taken_from got (e ∷ es) g i = go (taken_from (take_candidate k locked cs w n got e) es g i)
    where
      split : (l : List Entry) → In g (l ++ (e ∷ [])) → In g l ⊎ In g (e ∷ es)
      split l j = or (in_append l (e ∷ []) g j)
        where
          or : In g l ⊎ In g (e ∷ []) → In g l ⊎ In g (e ∷ es)
          or (inl a) = inl a
          or (inr (inl m)) = inr (inl m)
          or (inr (inr a)) = absurd a

      go : In g (take_candidate k locked cs w n got e) ⊎ In g es → In g got ⊎ In g (e ∷ es)
      go (inl j) =
          by_test (ltb (length got) n && can_be_stolen k locked cs w got e) (λ t. split got (rw t at j)) (λ t. inl (rw t at j))
      go (inr j) = inr (inr j)

  pub candidates_taking : (q : List Entry) → Sorted entry_before q → Taking (candidates k locked cs w n q) []
  unfolding candidates
  candidates_taking q s = taking [] q s (record { sorted = tt; before_rest = λ g f i. absurd i; alive = λ g i. absurd i })

  pub candidates_in : (q : List Entry) (g : Entry) → In g (candidates k locked cs w n q) → In g q
  unfolding candidates
  candidates_in q g i = go (taken_from [] q g i)
    where
      go : In g [] ⊎ In g q → In g q
      go (inl j) = absurd j
      go (inr j) = j

in_tabulate : (n : ℕ) (f : ℕ → ℕ) (t : ℕ) → In t (tabulate n f) → (i : ℕ) × (i < n) × (t ≡ f i)
unfolding tabulate
in_tabulate zero f t h = absurd h
in_tabulate (suc n) f t (inl e) = (0, omega arith, e)
in_tabulate (suc n) f t (inr h) = let (i, l, e) = in_tabulate n (λ (j : ℕ). f (suc j)) t h in (suc i, omega arith, e)

round_is_other : (k n i : ℕ) → k < n → i < n - 1 → (k + (i + 1)) % n ≢ k
round_is_other k n i h l z =
    by_test (ltb (k + (i + 1)) n)
    (λ t. let a : k + (i + 1) < n = ltb-true _ _ t in let b : (k + (i + 1)) % n ≡ k + (i + 1) = mod-eq_of_lt a in omega arith)
    (λ t. let a : n ≤ k + (i + 1) = ltb-false _ _ t in
    let c : k + (i + 1) - n < n = omega arith in
    let b : (k + (i + 1)) % n ≡ k + (i + 1) - n = mod-eq-sub-mod a ∙ mod-eq_of_lt c in omega arith)

pub target_is_other : (k n t : ℕ) → k < n → In t (targets k n) → t ≢ k
unfolding targets
target_is_other k n t h i m =
    let (j, l, e) = in_tabulate (n - 1) (λ (a : ℕ). (k + (a + 1)) % n) t i in round_is_other k n j h l (sym e ∙ m)
