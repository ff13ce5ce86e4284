-- The CPU and the context that a call names, from what the look-ups and tests said. Assumes nothing.
use Rattle.std.specs.Prelude.{None, Option, Some, Err, Ok, Result}
use mathlib.Core.Path.{◌≡◌, refl, sym, ap, ◌∙◌}
use mathlib.Core.Bool.{true}
use Prim.Native.Nat.{ℕ, ◌+◌, ◌<◌}
use native.Mathlib.Omega.{arith}
use mathlib.Core.List.{List}
use lib.Dec.{eqb}
use lib.ListN.{get_or}
use borrow.Author.Tests.{eq-eqb, ne_eqb}
use Rattle.columns.proofs.Tests.{by_test}
use Rattle.context.specs.Words.{context_words}
use Rattle.machine.specs.Machine.{Machine, context_at}
use Rattle.machine.specs.Encode.{encode, context_place}
use Rattle.machine.specs.Shape.{Image, Fits}
use Rattle.machine.specs.LookUp.{look_up, get_percpu_block}
use Rattle.machine.proofs.LookUps.{IsLive, live, IsPresent, present, context_word}
use Rattle.context_ops.specs.Named.{named, named_on, named_context}

-- what was found is below the sizes
pub live_below : {c n : ℕ} {m : List ℕ} (i : Image c n m) (context x : ℕ) (l : Option ℕ) → ((M : Machine) → m ≡ encode M → Fits c n M → l ≡ look_up M context) → l ≡ Some x → x < n
live_below i context x l f e =
    let t = live i.M context x (sym e ∙ f i.M i.eq i.fits) in omega (arith, t.is, t.below, i.fits.contexts)

pub present_below : {c n : ℕ} {m : List ℕ} (i : Image c n m) (cpu k : ℕ) (p : Option ℕ) → ((M : Machine) → m ≡ encode M → Fits c n M → p ≡ get_percpu_block M cpu) → p ≡ Some k → k < c
present_below i cpu k p f e =
    let t = present i.M cpu k (sym e ∙ f i.M i.eq i.fits) in omega (arith, t.is, t.below, i.fits.cpus)

module _ (M : Machine) (cpu context : ℕ) (p : Option ℕ) (hp : p ≡ get_percpu_block M cpu) where
  pub absent_cpu : p ≡ None → Err 5 ≡ named M cpu context
  unfolding named named_on
  absent_cpu e = rw (← hp, e)

  module _ (k : ℕ) (ek : p ≡ Some k) (l : Option ℕ) (hl : l ≡ look_up M context) where
    pub gone_context : l ≡ None → Err 5 ≡ named M cpu context
    unfolding named named_on named_context
    gone_context e = rw (← hp, ek, ← hl, e)

    module _ {c n : ℕ} (m : List ℕ) (eq : m ≡ encode M) (o : Fits c n M) (x : ℕ) (ex : l ≡ Some x) {at : ℕ} (place : at ≡ context_place x) where
      below : x < n
      below = let t = live M context x (sym ex ∙ hl) in omega (arith, t.is, t.below, o.contexts)

      lock_is : get_or m (at + 24) 0 ≡ (context_at M.contexts x).lock
      unfolding context_words
      lock_is = rw place (context_word m x M eq o 24 below (omega arith))

      pub locked_context : (get_or m (at + 24) 0 ≡ 0 → ⊥) → Err 6 ≡ named M cpu context
      unfolding named named_on named_context
      locked_context z = rw (← hp, ek, ← hl, ex, ne_eqb (context_at M.contexts x).lock 0 (λ y. z (lock_is ∙ y)))

      pub free_context : get_or m (at + 24) 0 ≡ 0 → Ok (k, x) ≡ named M cpu context
      unfolding named named_on named_context
      free_context z = rw (← hp, ek, ← hl, ex, eq-eqb (context_at M.contexts x).lock 0 (sym lock_is ∙ z))

-- the two numbers of what was found
abbrev pub first_found : Result (ℕ × ℕ) ℕ → ℕ
first_found (Ok p) = p.0
first_found (Err r) = 0

abbrev pub second_found : Result (ℕ × ℕ) ℕ → ℕ
second_found (Ok p) = p.1
second_found (Err r) = 0

-- what a name that is found says
pub record IsFound (M : Machine) (cpu context k x : ℕ) : Type 0 where
  pub cpu_is : IsPresent M cpu k
  pub context_is : IsLive M context x

found_context : (M : Machine) (context k i x : ℕ) (l : Option ℕ) → l ≡ look_up M context → Ok (k, x) ≡ named_context M i l → (k ≡ i) × (IsLive M context x)
unfolding named_context
found_context M context k i x None e z = let w : ◌≡◌ {A = ℕ} 0 1 = cc in absurd (omega arith)
found_context M context k i x (Some y) e z =
    by_test (eqb (context_at M.contexts y).lock 0) (λ t. same t (rw t at z)) (λ t. never (rw t at z))
  where
    never : ◌≡◌ {A = Result (ℕ × ℕ) ℕ} (Ok (k, x)) (Err 6) → (k ≡ i) × (IsLive M context x)
    never q = let w : ◌≡◌ {A = ℕ} 0 1 = cc in absurd (omega arith)

    same : eqb (context_at M.contexts y).lock 0 ≡ true → ◌≡◌ {A = Result (ℕ × ℕ) ℕ} (Ok (k, x)) (Ok (i, y)) → (k ≡ i) × (IsLive M context x)
    same t q = let s : x ≡ y = ap second_found q in (ap first_found q, live M context x (ap Some s ∙ e))

found_on : (M : Machine) (cpu context k x : ℕ) (p : Option ℕ) → p ≡ get_percpu_block M cpu → Ok (k, x) ≡ named_on M context p → IsFound M cpu context k x
unfolding named_on
found_on M cpu context k x None e z = let w : ◌≡◌ {A = ℕ} 0 1 = cc in absurd (omega arith)
found_on M cpu context k x (Some i) e z =
    let t = found_context M context k i x (look_up M context) refl z
    in record { cpu_is = present M cpu k (ap Some t.0 ∙ e); context_is = t.1 }

pub found : (M : Machine) (cpu context k x : ℕ) → Ok (k, x) ≡ named M cpu context → IsFound M cpu context k x
unfolding named
found M cpu context k x z = found_on M cpu context k x (get_percpu_block M cpu) refl z
