-- An array that is filled from the front, place by place. Assumes nothing.
use mathlib.Core.Path.{◌≡◌, refl, sym, ◌∙◌, subst}
use mathlib.Core.Bool.{Bool, true, false}
use mathlib.Core.List.{List}
use Prim.Native.Nat.{ℕ, ◌+◌, ◌<◌, ◌≤◌}
use native.Mathlib.Omega.{arith}
use lib.Dec.{ltb}
use lib.ListN.{length, get_or, set, length-set}
use lib.Seq.{get_or-set_same, get_or-set_other}
use borrow.Author.Tests.{ltb-true, ltb-false}

-- d: what is read past the end; P: what is asked of place j
module _ {A : Type 0} (d : A) (P : ℕ → A → Type 0) where
  -- k places, of which the first i are filled
  pub record Filled (k : ℕ) (l : List A) (i : ℕ) : Type 0 where
    pub places : length l ≡ k
    pub each : (j : ℕ) → j < i → P j (get_or l j d)

  pub filled_none : (k : ℕ) (l : List A) → length l ≡ k → Filled k l 0
  filled_none k l h = record { places = h; each = λ j b. absurd (omega arith) }

  pub filled_next : {k : ℕ} (l : List A) (i : ℕ) (a : A) → Filled k l i → i < k → P i a → Filled k (set l i a) (i + 1)
  filled_next {k} l i a f h p =
      record { places = length-set l i a ∙ f.places; each = λ j b. go j b (ltb j i) refl }
    where
      go : (j : ℕ) → j < i + 1 → (t : Bool) → ltb j i ≡ t → P j (get_or (set l i a) j d)
      go j b true e =
          let c : j < i = ltb-true j i e in
          subst (P j) (sym (get_or-set_other l i j a d (λ z. omega arith))) (f.each j c)
      go j b false e =
          let c : i ≤ j = ltb-false j i e in
          let z : i ≡ j = omega arith in
          let w : length l ≡ k = f.places in
          subst (λ (y : ℕ). P y (get_or (set l i a) y d)) z (subst (P i) (sym (get_or-set_same l i a d (omega arith))) p)

  -- what is asked of each place in use
  pub filled_all : {k : ℕ} (n : ℕ) (l : List A) (i : ℕ) → Filled k l i → n ≤ i → (j : ℕ) → j < n → P j (get_or l j d)
  filled_all n l i f h j b = f.each j (omega arith)
