-- States that differ outside a set of contexts: reading and writing in the set. Assumes nothing.
use Rattle.std.specs.Prelude.{if◌then◌else◌}
use mathlib.Core.Path.{◌≡◌, refl, sym, ap, ◌∙◌, subst}
use mathlib.Core.Logic.{◌≢◌}
use mathlib.Core.Bool.{Bool, true, false}
use mathlib.Core.List.{List, [], ◌∷◌, ◌++◌}
use Prim.Native.Nat.{ℕ, ◌<◌, ◌≤◌}
use lib.Dec.{ltb, eqb}
use lib.ListN.{length, set, length-set}
use lib.Seq.{get_or-set_same, get_or-set_other, ext_get_or}
use borrow.Author.Tests.{ltb-true, ltb-false, eqb-true, eqb-false}
use Rattle.columns.specs.Common.{fold, keep, All}
use Rattle.columns.proofs.Tabulate.{get_d_tabulate, length_tabulate, get_d_past, tabulate_is}
use Rattle.context.specs.declared.Context.{Context}
use Rattle.machine.specs.Machine.{context_at, no_context}
use Rattle.model.specs.State.{State, at, put_context}
use Rattle.model.proofs.Cases.{by_test}
use Rattle.model_local.specs.Local.{with_others, others}

-- both ways of a test
pub branch : {A B : Type 0} (h : A → B) (b : Bool) {x y : A} {x' y' : B} → x' ≡ h x → y' ≡ h y → (if b then x' else y') ≡ h (if b then x else y)
branch h true p q = p
branch h false p q = q

-- a test that two states answer alike on every item of a list
pub keep_same : {A : Type 0} (P : A → Type 0) (p q : A → Bool) → ((a : A) → P a → p a ≡ q a) → (l : List A) → All P l → keep p l ≡ keep q l
keep_same P p q e [] h = refl
keep_same P p q e (x ∷ xs) h = λ j. if e x h.0 j then x ∷ keep_same P p q e xs h.1 j else keep_same P p q e xs h.1 j

pub all_keep : {A : Type 0} (P : A → Type 0) (p : A → Bool) (l : List A) → All P l → All P (keep p l)
all_keep P p [] h = tt
all_keep P p (x ∷ xs) h = by_test (p x) (λ t. rw t (h.0, all_keep P p xs h.1)) (λ t. rw t (all_keep P p xs h.1))

pub all_append : {A : Type 0} (P : A → Type 0) (l m : List A) → All P l → All P m → All P (l ++ m)
all_append P [] m h i = i
all_append P (x ∷ xs) m h i = (h.0, all_append P xs m h.1 i)

module _ {A B : Type 0} (P : A → Type 0) (Q : B → Type 0) (h : B → B) (f : B → A → B)
    (e : (b : B) (a : A) → P a → Q b → f (h b) a ≡ h (f b a)) (k : (b : B) (a : A) → P a → Q b → Q (f b a)) where
  -- a fold whose every step goes through h
  pub fold_through : (l : List A) → All P l → (b : B) → Q b → fold f (h b) l ≡ h (fold f b l)
  fold_through [] p b q = refl
  fold_through (x ∷ xs) p b q = ap (λ z. fold f z xs) (e b x p.0 q) ∙ fold_through xs p.1 (f b x) (k b x p.0 q)

  pub fold_holds : (l : List A) → All P l → (b : B) → Q b → Q (fold f b l)
  fold_holds [] p b q = q
  fold_holds (x ∷ xs) p b q = fold_holds xs p.1 (f b x) (k b x p.0 q)

module _ (S : ℕ → Bool) (ds : List Context) where
  pub others_count : (cs : List Context) → length (with_others S ds cs) ≡ length cs
  unfolding with_others
  others_count cs = length_tabulate (length cs) _

  others_get : (cs : List Context) (x : ℕ) → x < length cs → context_at (with_others S ds cs) x ≡ (if S x then context_at cs x else context_at ds x)
  unfolding with_others
  others_get cs x h = get_d_tabulate (length cs) x _ no_context h

  -- in the set nothing differs
  pub others_at : (cs : List Context) (x : ℕ) → S x ≡ true → context_at (with_others S ds cs) x ≡ context_at cs x
  others_at cs x t =
      by_test (ltb x (length cs)) (λ y. others_get cs x (ltb-true x _ y) ∙ rw t)
      (λ y. let h : length cs ≤ x = ltb-false x _ y in get_d_past (with_others S ds cs) x no_context (rw (others_count cs) h) ∙ sym (get_d_past cs x no_context h))

  pub others_out : (cs : List Context) (x : ℕ) → x < length cs → S x ≡ false → context_at (with_others S ds cs) x ≡ context_at ds x
  others_out cs x h t = others_get cs x h ∙ rw t

  -- a context of the set is stored
  pub others_set : (cs : List Context) (x : ℕ) (c : Context) → S x ≡ true → set (with_others S ds cs) x c ≡ with_others S ds (set cs x c)
  others_set cs x c t =
      ext_get_or no_context (set (with_others S ds cs) x c) (with_others S ds (set cs x c))
      (length-set (with_others S ds cs) x c ∙ others_count cs ∙ sym (others_count (set cs x c) ∙ length-set cs x c))
      (λ i l.
      let g : i < length cs = rw (others_count cs) at (rw (length-set (with_others S ds cs) x c) at l) in
      let g₁ : i < length (set cs x c) = rw (length-set cs x c) g in
      let g₂ : i < length (with_others S ds cs) = rw (others_count cs) g in
      by_test (eqb i x)
      (λ y.
      let q : i ≡ x = eqb-true i x y in
      (subst (λ (j : ℕ). context_at (set (with_others S ds cs) j c) i ≡ c) q (get_or-set_same (with_others S ds cs) i c no_context g₂))
      ∙ sym (others_at (set cs x c) i (rw q t) ∙ subst (λ (j : ℕ). context_at (set cs j c) i ≡ c) q (get_or-set_same cs i c no_context g)))
      (λ y.
      let n : i ≢ x = eqb-false i x y in
      get_or-set_other (with_others S ds cs) x i c no_context n ∙ others_get cs i g ∙ sym (others_get (set cs x c) i g₁ ∙ ap (λ (d : Context). if S i then d else context_at ds i) (get_or-set_other cs x i c no_context n))))

  -- contexts that are those of cs outside the set differ from it in the set only
  pub others_same : (cs : List Context) → length ds ≡ length cs → ((x : ℕ) → S x ≡ false → context_at cs x ≡ context_at ds x) → with_others S ds cs ≡ cs
  unfolding with_others
  others_same cs n e =
      tabulate_is no_context cs _ (λ i h. by_test (S i) (λ t. rw t) (λ t. rw t (sym (e i t))))

  module _ (s : State) (x : ℕ) (t : S x ≡ true) where
    pub at_others : at (others S ds s) x ≡ at s x
    at_others = others_at s.contexts x t

    pub put_others : (c : Context) → put_context x c (others S ds s) ≡ others S ds (put_context x c s)
    put_others c = λ j. record { contexts = others_set s.contexts x c t j; cpu = s.cpu; no_room = s.no_room }
