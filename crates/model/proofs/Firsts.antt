-- `first` and `least` find what the rule says. Assumes nothing.
use Rattle.std.specs.Prelude.{None, Option, Some}
use mathlib.Core.Path.{◌≡◌, refl, sym, ap, ◌∙◌}
use mathlib.Core.Bool.{Bool, true, false, ◌&&◌}
use mathlib.Core.List.{List, [], ◌∷◌}
use mathlib.Core.Logic.{◌⊎◌, inl, inr}
use Prim.Native.Nat.{ℕ, ◌<◌, ◌≤◌}
use native.Mathlib.Omega.{arith}
use lib.Dec.{ltb}
use borrow.Author.Tests.{ltb-true, ltb-false, lt-ltb}
use Rattle.entries.specs.declared.Entry.{Entry}
use Rattle.entries.specs.Order.{entry_before}
use Rattle.model.specs.Scan.{below, ineligible_min_vtime}
use Rattle.model.proofs.Cases.{by_test, never, and_both}
use Rattle.model.proofs.Lists.{In, all_at}
use Rattle.model.proofs.Sorted.{Sorted}
use Rattle.model.proofs.Scanned.{first, least}

-- e is the first of those that pass: it passes, and comes before every other that does
pub record IsFirst (p : Entry → Bool) (q : List Entry) (e : Entry) : Type 0 where
  pub is_in : In e q
  pub passes : p e ≡ true
  pub leads : (f : Entry) → In f q → p f ≡ true → (f ≡ e) ⊎ (entry_before e f ≡ true)

-- e has the least vtime of those that pass, and is the first of them that has it
pub record IsLeast (p : Entry → Bool) (q : List Entry) (e : Entry) : Type 0 where
  pub is_in : In e q
  pub passes : p e ≡ true
  pub least_vtime : (f : Entry) → In f q → p f ≡ true → e.vtime ≤ f.vtime
  pub leads : (f : Entry) → In f q → p f ≡ true → f.vtime ≡ e.vtime → (f ≡ e) ⊎ (entry_before e f ≡ true)

pub some_some : {A : Type 0} {a b : A} → Some a ≡ Some b → a ≡ b
some_some e = cc

pub some_none : {A : Type 0} {a : A} {o : Option A} → o ≡ Some a → o ≡ None → ⊥
some_none p q = let z : ◌≡◌ {A = ℕ} 0 1 = cc in omega arith

pub first_is : (p : Entry → Bool) (q : List Entry) (e : Entry) → Sorted entry_before q → first p q ≡ Some e → IsFirst p q e
first_is p [] e s h = absurd (some_none h refl)
first_is p (x ∷ xs) e s h =
    by_test (p x)
    (λ t.
    let i : x ≡ e = some_some (rw t at h) in
    record {
      is_in = inl (sym i);
      passes = rw (← i) t;
      leads = λ f m k. rw (← i) (here f m);
    })
    (λ t.
    let r = first_is p xs e s.1 (rw t at h) in
    record { is_in = inr r.is_in; passes = r.passes; leads = λ f m k. there r t f m k })
  where
    here : (f : Entry) → (f ≡ x) ⊎ In f xs → (f ≡ x) ⊎ (entry_before x f ≡ true)
    here f (inl m) = inl m
    here f (inr m) = inr (all_at _ xs s.0 f m)

    there : IsFirst p xs e → p x ≡ false → (f : Entry) → (f ≡ x) ⊎ In f xs → p f ≡ true → (f ≡ e) ⊎ (entry_before e f ≡ true)
    there r t f (inl m) k = never (rw m at k) t
    there r t f (inr m) k = r.leads f m k

pub first_none : (p : Entry → Bool) (q : List Entry) → first p q ≡ None → (f : Entry) → In f q → p f ≡ false
first_none p [] h f i = absurd i
first_none p (x ∷ xs) h f i = by_test (p x) (λ t. absurd (some_none (sym (rw t at h)) refl)) (λ t. go t i (first_none p xs (rw t at h)))
  where
    go : p x ≡ false → (f ≡ x) ⊎ In f xs → ((g : Entry) → In g xs → p g ≡ false) → p f ≡ false
    go t (inl m) r = rw m t
    go t (inr m) r = r f m

below_down : (o : Option ℕ) (m n : ℕ) → below o m ≡ true → n < m → below o n ≡ true
below_down None m n b l = refl
below_down (Some k) m n b l = let j : m < k = ltb-true m k b in lt-ltb n k (omega arith)

pub below_split : (o : Option ℕ) (m n : ℕ) → below o n ≡ true → below o m ≡ false → n < m
below_split None m n b c = never refl c
below_split (Some k) m n b c = let i : n < k = ltb-true n k b in let j : k ≤ m = ltb-false m k c in omega arith

module _ (h : Option ℕ) (p : Entry → Bool) where
  -- the best so far stays, or an entry of the list takes its place
  Stays : Option Entry → List Entry → Entry → Type 0
  Stays l q e = (l ≡ Some e) × ((f : Entry) → In f q → p f ≡ true → e.vtime ≤ f.vtime)

  Comes : Option Entry → List Entry → Entry → Type 0
  Comes l q e = IsLeast p q e × (below (ineligible_min_vtime l h) e.vtime ≡ true)

  -- x takes the place of l: what the rest gives
  taken : (l : Option Entry) (x : Entry) (xs : List Entry) (e : Entry) → Sorted entry_before (x ∷ xs) → p x ≡ true → below (ineligible_min_vtime l h) x.vtime ≡ true
      → Stays (Some x) xs e ⊎ Comes (Some x) xs e → Comes l (x ∷ xs) e
  unfolding Stays Comes
  taken l x xs e s px b (inl (k, r)) =
      (record { is_in = inl (sym i); passes = rw (← i) px; least_vtime = lv; leads = λ f m pf t. rw (← i) (ld f m) }, rw (← i) b)
    where
      i : x ≡ e
      i = some_some k

      lv : (f : Entry) → (f ≡ x) ⊎ In f xs → p f ≡ true → e.vtime ≤ f.vtime
      lv f (inl m) pf = let w : f.vtime ≡ e.vtime = ap (λ (g : Entry). g.vtime) (m ∙ i) in omega arith
      lv f (inr m) pf = r f m pf

      ld : (f : Entry) → (f ≡ x) ⊎ In f xs → (f ≡ x) ⊎ (entry_before x f ≡ true)
      ld f (inl m) = inl m
      ld f (inr m) = inr (all_at _ xs s.0 f m)
  taken l x xs e s px b (inr (r, c)) =
      (record { is_in = inr r.is_in; passes = r.passes; least_vtime = lv; leads = ld }, below_down (ineligible_min_vtime l h) x.vtime e.vtime b less)
    where
      less : e.vtime < x.vtime
      less = ltb-true _ _ c

      lv : (f : Entry) → (f ≡ x) ⊎ In f xs → p f ≡ true → e.vtime ≤ f.vtime
      lv f (inl m) pf = let w : f.vtime ≡ x.vtime = ap (λ (g : Entry). g.vtime) m in let k : e.vtime < x.vtime = less in omega arith
      lv f (inr m) pf = r.least_vtime f m pf

      ld : (f : Entry) → (f ≡ x) ⊎ In f xs → p f ≡ true → f.vtime ≡ e.vtime → (f ≡ e) ⊎ (entry_before e f ≡ true)
      ld f (inl m) pf t = let w : f.vtime ≡ x.vtime = ap (λ (g : Entry). g.vtime) m in let k : e.vtime < x.vtime = less in absurd (omega arith)
      ld f (inr m) pf t = r.leads f m pf t

  -- x is passed over
  passed : (l : Option Entry) (x : Entry) (xs : List Entry) (e : Entry) → (p x ≡ true → below (ineligible_min_vtime l h) x.vtime ≡ false)
      → Stays l xs e ⊎ Comes l xs e → Stays l (x ∷ xs) e ⊎ Comes l (x ∷ xs) e
  unfolding Stays Comes
  passed l x xs e n (inl (k, r)) = inl (k, lv)
    where
      at_x : p x ≡ true → e.vtime ≤ x.vtime
      at_x px = let j : ltb x.vtime e.vtime ≡ false = rw k at (n px) in ltb-false _ _ j

      lv : (f : Entry) → (f ≡ x) ⊎ In f xs → p f ≡ true → e.vtime ≤ f.vtime
      lv f (inl m) pf = rw m (at_x (rw m at pf))
      lv f (inr m) pf = r f m pf
  passed l x xs e n (inr (r, c)) = inr (record { is_in = inr r.is_in; passes = r.passes; least_vtime = lv; leads = ld }, c)
    where
      less : p x ≡ true → e.vtime < x.vtime
      less px = below_split (ineligible_min_vtime l h) x.vtime e.vtime c (n px)

      lv : (f : Entry) → (f ≡ x) ⊎ In f xs → p f ≡ true → e.vtime ≤ f.vtime
      lv f (inl m) pf = let k : e.vtime < x.vtime = less (rw m at pf) in rw m (omega arith)
      lv f (inr m) pf = r.least_vtime f m pf

      ld : (f : Entry) → (f ≡ x) ⊎ In f xs → p f ≡ true → f.vtime ≡ e.vtime → (f ≡ e) ⊎ (entry_before e f ≡ true)
      ld f (inl m) pf t =
          let k : e.vtime < x.vtime = less (rw m at pf) in
          let w : f.vtime ≡ x.vtime = ap (λ (g : Entry). g.vtime) m in
          absurd (omega arith)
      ld f (inr m) pf t = r.leads f m pf t

  least_is' : (l : Option Entry) (q : List Entry) (e : Entry) → Sorted entry_before q → least h p l q ≡ Some e → Stays l q e ⊎ Comes l q e
  unfolding Stays
  least_is' l [] e s g = inl (g, λ f i. absurd i)
  least_is' l (x ∷ xs) e s g =
      by_test (p x && below (ineligible_min_vtime l h) x.vtime)
      (λ t. let (px, b) = and_both (p x) _ t in inr (taken l x xs e s px b (least_is' (Some x) xs e s.1 (rw t at g))))
      (λ t. passed l x xs e (not_below t) (least_is' l xs e s.1 (rw t at g)))
    where
      not_below : (p x && below (ineligible_min_vtime l h) x.vtime) ≡ false → p x ≡ true → below (ineligible_min_vtime l h) x.vtime ≡ false
      not_below t px = rw px at t

  pub least_is : (q : List Entry) (e : Entry) → Sorted entry_before q → least h p None q ≡ Some e → IsLeast p q e × (below h e.vtime ≡ true)
  unfolding Stays Comes
  least_is q e s g = go (least_is' None q e s g)
    where
      go : Stays None q e ⊎ Comes None q e → IsLeast p q e × (below h e.vtime ≡ true)
      go (inl (k, r)) = absurd (some_none k refl)
      go (inr r) = r

  -- what stands stays, if nobody passes it
  least_none' : (l : Option Entry) (q : List Entry) → least h p l q ≡ None → (l ≡ None) × ((f : Entry) → In f q → p f ≡ true → below h f.vtime ≡ false)
  least_none' l [] g = (g, λ f i. absurd i)
  least_none' l (x ∷ xs) g =
      by_test (p x && below (ineligible_min_vtime l h) x.vtime)
      (λ t. absurd (some_none refl (least_none' (Some x) xs (rw t at g)).0))
      (λ t. let (n, r) = least_none' l xs (rw t at g) in (n, λ f i pf. go n t r f i pf))
    where
      go : l ≡ None → (p x && below (ineligible_min_vtime l h) x.vtime) ≡ false → ((f : Entry) → In f xs → p f ≡ true → below h f.vtime ≡ false) → (f : Entry)
          → (f ≡ x) ⊎ In f xs → p f ≡ true → below h f.vtime ≡ false
      go n t r f (inl m) pf = let px : p x ≡ true = rw m at pf in rw m (rw (px, n) at t)
      go n t r f (inr m) pf = r f m pf

  pub least_none : (q : List Entry) → least h p None q ≡ None → (f : Entry) → In f q → p f ≡ true → below h f.vtime ≡ false
  least_none q g = (least_none' None q g).1

-- a test that agrees with another on the list finds the same
pub least_agree : (p r : Entry → Bool) (q : List Entry) (e : Entry) → ((f : Entry) → In f q → p f ≡ r f) → IsLeast p q e → IsLeast r q e
least_agree p r q e a l =
    record {
      is_in = l.is_in;
      passes = sym (a e l.is_in) ∙ l.passes;
      least_vtime = λ f i k. l.least_vtime f i (a f i ∙ k);
      leads = λ f i k t. l.leads f i (a f i ∙ k) t;
    }

-- among those that pass, if any does, one is the first of the least vtime
pub least_exists : (p : Entry → Bool) (q : List Entry) → Sorted entry_before q → (f : Entry) → In f q → p f ≡ true
    → (e : Entry) × IsLeast p q e
least_exists p q s f i t = go (least None p None q) refl
  where
    go : (o : Option Entry) → least None p None q ≡ o → (e : Entry) × IsLeast p q e
    go None z = never refl (least_none None p q z f i t)
    go (Some e) z = (e, (least_is None p q e s z).0)
