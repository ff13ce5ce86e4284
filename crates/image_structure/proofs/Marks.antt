-- A mark for each context that has a timer among the first i. Assumes nothing.
use mathlib.Core.Path.{◌≡◌, refl, sym, ap, ◌∙◌}
use mathlib.Core.Bool.{Bool, true, false, not, ◌&&◌}
use mathlib.Core.List.{List}
use Prim.Native.Nat.{ℕ, ◌+◌, ◌<◌}
use native.Mathlib.Omega.{arith}
use native.Mathlib.Numerals.{add-one}
use lib.Dec.{eqb}
use lib.ListN.{length, get_or, set, replicate, get_or-replicate}
use lib.Seq.{get_or-set_same, get_or-set_other}
use borrow.Author.Tests.{eqb-true, eqb-false, eq-eqb}
use Rattle.columns.specs.Common.{every}
use Rattle.columns.proofs.Tests.{by_test, and_no}
use Rattle.percpu.specs.Layout.{timer_at}
use Rattle.image_structure.specs.Structure.{is_first_timer}

-- no timer of the first i is of context x
abbrev unnamed : List ℕ → ℕ → ℕ → Bool
unnamed b i x = every (λ (j : ℕ). not (eqb (timer_at b j).context_ref x)) i

-- a mark is false exactly where no timer of the first i is of its context
abbrev pub Marked : List ℕ → List Bool → ℕ → Type 0
Marked b seen i = (x : ℕ) → x < 64 → not (get_or seen x false) ≡ unnamed b i x

and_true : (a : Bool) → (a && true) ≡ a
and_true true = refl
and_true false = refl

-- timer i is of context x: the mark says whether it is the first
pub first_is : (b : List ℕ) (seen : List Bool) (i x : ℕ) → x ≡ (timer_at b i).context_ref → x < 64 → Marked b seen i → is_first_timer b i ≡ not (get_or seen x false)
unfolding is_first_timer
first_is b seen i x e h f = ap (unnamed b i) (sym e) ∙ sym (f x h)

pub marked_more : (b : List ℕ) (seen : List Bool) (i x : ℕ) → x ≡ (timer_at b i).context_ref → length seen ≡ 64 → x < 64 → Marked b seen i → Marked b (set seen x true) (i + 1)
unfolding every
marked_more b seen i x e l h f y g =
    by_test (eqb x y)
    (λ t.
    let q : x ≡ y = eqb-true x y t
    in let z : eqb (timer_at b i).context_ref y ≡ true = eq-eqb _ _ (sym e ∙ q)
    in let v : get_or (set seen x true) y false ≡ true = ap (λ (k : ℕ). get_or (set seen x true) k false) (sym q) ∙ get_or-set_same seen x true false (omega arith)
    in rw (add-one i, v, z) (sym (and_no (unnamed b i y) false refl)))
    (λ t.
    let z : eqb (timer_at b i).context_ref y ≡ false = ap (λ (k : ℕ). eqb k y) (sym e) ∙ t
    in let v : get_or (set seen x true) y false ≡ get_or seen y false = get_or-set_other seen x y true false (λ s. eqb-false x y t (sym s))
    in rw (add-one i, v, z) (f y g ∙ sym (and_true (unnamed b i y))))

pub marked_none : (b : List ℕ) → Marked b (replicate 64 false) 0
unfolding every
marked_none b x h = rw (get_or-replicate {A = Bool} 64 x false false h)
