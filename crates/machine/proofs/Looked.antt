-- What the answer of a look_up says of the context or the CPU that was asked for. Assumes nothing.
use Rattle.std.specs.Prelude.{None, Option, Some}
use mathlib.Core.Path.{◌≡◌, sym, ap, ◌∙◌, subst}
use mathlib.Core.Bool.{true, false}
use mathlib.Core.List.{List}
use Prim.Native.Nat.{ℕ, ◌<◌}
use native.Mathlib.Omega.{arith}
use lib.ListN.{length}
use borrow.Author.Tests.{lt-leb}
use Rattle.columns.proofs.Tests.{by_test}
use Rattle.context.specs.declared.Context.{Context}
use Rattle.machine.specs.Machine.{Machine, context_at, cpu_at}
use Rattle.machine.specs.Encode.{encode}
use Rattle.machine.specs.Shape.{Fits, Image}
use Rattle.machine.specs.LookUp.{look_up, get_percpu_block}
use Rattle.machine.proofs.LookUps.{IsLive, live, IsPresent, present}

-- a lookup that finds nobody below the number of contexts
looked_gone : (M : Machine) (x : ℕ) → x < length M.contexts → None ≡ look_up M x → (context_at M.contexts x).gone ≡ true
unfolding look_up
looked_gone M x h e =
    by_test (context_at M.contexts x).gone (λ g. g)
    (λ g. let w : None ≡ Some x = rw (lt-leb (length M.contexts) x h, g) at e in let z : ◌≡◌ {A = ℕ} 0 1 = cc in absurd (omega arith))

-- a context that the code looked up; l is its answer
module _ {c n : ℕ} {m : List ℕ} (i : Image c n m) (x : ℕ) (hx : x < n) {l : Option ℕ} (f : (M : Machine) → m ≡ encode M → Fits c n M → l ≡ look_up M x) where
  pub gone_at : l ≡ None → (M : Machine) → m ≡ encode M → Fits c n M → (context_at M.contexts x).gone ≡ true
  gone_at e M q o = looked_gone M x (omega (arith, o.contexts)) (sym e ∙ f M q o)

  pub live_at : {y : ℕ} → l ≡ Some y → (M : Machine) → m ≡ encode M → Fits c n M → IsLive M x y
  live_at {y} e M q o = live M x y (sym e ∙ f M q o)

  -- the number that it gave
  pub live_below : {y : ℕ} → l ≡ Some y → y < n
  live_below {y} e = let z = live_at e i.M i.eq i.fits in subst (λ (j : ℕ). j < n) (sym z.is) hx

  pub live_gone : {y : ℕ} {q : Context} → l ≡ Some y → ((M : Machine) → m ≡ encode M → Fits c n M → q ≡ context_at M.contexts y) → q.gone ≡ false
  live_gone {y} e g =
      let z = live_at e i.M i.eq i.fits
      in ap (λ (a : Context). a.gone) (g i.M i.eq i.fits ∙ ap (context_at i.M.contexts) z.is) ∙ z.alive

  pub live_record : {y : ℕ} {q : Context} → l ≡ Some y → ((M : Machine) → m ≡ encode M → Fits c n M → q ≡ context_at M.contexts y) → (M : Machine) → m ≡ encode M → Fits c n M → q ≡ context_at M.contexts x
  live_record {y} e g M q o = g M q o ∙ ap (context_at M.contexts) (live_at e M q o).is

-- a look_up that finds no CPU below their number
looked_absent : (M : Machine) (k : ℕ) → k < length M.cpus → None ≡ get_percpu_block M k → (cpu_at M k).block.present ≡ false
unfolding get_percpu_block
looked_absent M k h e =
    by_test (cpu_at M k).block.present
    (λ g. let w : None ≡ Some k = rw (lt-leb (length M.cpus) k h, g) at e in let z : ◌≡◌ {A = ℕ} 0 1 = cc in absurd (omega arith)) (λ g. g)

-- a CPU that the code looked up; l is its answer
module _ {c n : ℕ} {m : List ℕ} (i : Image c n m) (k : ℕ) (hk : k < c) {l : Option ℕ} (f : (M : Machine) → m ≡ encode M → Fits c n M → l ≡ get_percpu_block M k) where
  pub absent_at : l ≡ None → (M : Machine) → m ≡ encode M → Fits c n M → (cpu_at M k).block.present ≡ false
  absent_at e M q o = looked_absent M k (omega (arith, o.cpus)) (sym e ∙ f M q o)

  pub present_at : {j : ℕ} → l ≡ Some j → (M : Machine) → m ≡ encode M → Fits c n M → IsPresent M k j
  present_at {j} e M q o = present M k j (sym e ∙ f M q o)

  -- the number that it gave
  pub present_is : {j : ℕ} → l ≡ Some j → j ≡ k
  present_is e = (present_at e i.M i.eq i.fits).is
