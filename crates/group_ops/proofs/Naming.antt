-- The refusal of a set of names, from the loop over its mask. Assumes nothing.
use Rattle.std.specs.Prelude.{None, Option, Some, Result}
use mathlib.Core.Path.{◌≡◌, refl, sym, ap, ◌∙◌}
use mathlib.Core.List.{List, [], ◌∷◌}
use Prim.Native.Nat.{ℕ, ◌<◌, ◌≤◌}
use native.Mathlib.Omega.{arith}
use lib.Dec.{ltb, eqb}
use lib.ListN.{length}
use borrow.Author.Tests.{eq-eqb, ne_eqb, lt-ltb, le-ltb, eqb-true, eqb-false}
use Rattle.columns.specs.Common.{fold, All}
use Rattle.columns.proofs.Tests.{by_test}
use Rattle.cpu_set.specs.Members.{members}
use Rattle.machine.specs.Machine.{Machine}
use Rattle.machine.specs.Encode.{encode}
use Rattle.machine.specs.LookUp.{look_up, get_percpu_block}
use Rattle.machine.specs.Shape.{Fits, Image}
use Rattle.machine.proofs.LookUps.{live}
use Rattle.context_ops.specs.Named.{named, named_on, named_context}
use Rattle.group_ops.specs.Group.{first_check, name_refusal, names_refusal}

abbrev pub next_name : Machine → ℕ → ℕ → ℕ → ℕ
next_name M cpu r x = first_check r (name_refusal (named M cpu x))

module _ (M : Machine) (cpu mask : ℕ) where
  -- what is left comes to the whole set's refusal
  abbrev pub Comes : (first rest : ℕ) → Type 0
  Comes first rest = fold (next_name M cpu) first (members rest) ≡ names_refusal M cpu (members mask)

  pub names_start : (rest : ℕ) → rest ≡ mask → Comes 0 rest
  unfolding names_refusal
  names_start rest e = ap (λ (y : ℕ). fold (next_name M cpu) 0 (members y)) e

  pub names_next : (first rest x first' rest' : ℕ) (who : Result (ℕ × ℕ) ℕ) → members rest ≡ x ∷ members rest' → who ≡ named M cpu x → first' ≡ first_check first (name_refusal who)
      → Comes first rest → Comes first' rest'
  names_next first rest x first' rest' who s hw hf e =
      let f : first' ≡ next_name M cpu first x = hf ∙ ap (λ (y : Result (ℕ × ℕ) ℕ). first_check first (name_refusal y)) hw
      in rw f (sym (ap (fold (next_name M cpu) first) s) ∙ e)

  pub names_end : (first rest : ℕ) → members rest ≡ [] → Comes first rest → first ≡ names_refusal M cpu (members mask)
  names_end first rest z e = sym (ap (fold (next_name M cpu) first) z) ∙ e

-- the refusal that is checked first, as the code finds it
module _ (a b : ℕ) where
  pub first_none : a ≡ 0 → b ≡ first_check a b
  unfolding first_check
  first_none e = rw (eq-eqb a 0 e)

  pub first_kept : b ≡ 0 → a ≡ first_check a b
  unfolding first_check
  first_kept f = by_test (eqb a 0) (λ t. rw t (eqb-true a 0 t ∙ sym f)) (λ t. rw (t, eq-eqb b 0 f))

  pub first_less : (a ≡ 0 → ⊥) → (b ≡ 0 → ⊥) → a < b → a ≡ first_check a b
  unfolding first_check
  first_less e f h = rw (ne_eqb a 0 e, ne_eqb b 0 f, lt-ltb a b h)

  pub first_more : (a ≡ 0 → ⊥) → (b ≡ 0 → ⊥) → b ≤ a → b ≡ first_check a b
  unfolding first_check
  first_more e f h = rw (ne_eqb a 0 e, ne_eqb b 0 f, le-ltb a b h)

-- no refusal means that neither has one
neither : (a b : ℕ) → first_check a b ≡ 0 → (a ≡ 0) × (b ≡ 0)
unfolding first_check
neither a b e =
    by_test (eqb a 0) (λ t. (eqb-true a 0 t, rw t at e))
    (λ t. by_test (eqb b 0) (λ u. (rw (t, u) at e, eqb-true b 0 u))
    (λ u. by_test (ltb a b) (λ v. absurd (eqb-false a 0 t (rw (t, u, v) at e))) (λ v. absurd (eqb-false b 0 u (rw (t, u, v) at e)))))

-- a context without refusal is one of the machine's
context_below : (M : Machine) (context k : ℕ) (l : Option ℕ) → l ≡ look_up M context → name_refusal (named_context M k l) ≡ 0 → context < length M.contexts
unfolding named_context name_refusal
context_below M context k None e z = absurd (omega arith)
context_below M context k (Some x) e z = let t = live M context x e in omega (arith, t.is, t.below)

name_below : (M : Machine) (context : ℕ) (p : Option ℕ) → name_refusal (named_on M context p) ≡ 0 → context < length M.contexts
unfolding named_on name_refusal
name_below M context None z = absurd (omega arith)
name_below M context (Some k) z = context_below M context k (look_up M context) refl z

below_all : (M : Machine) (cpu r : ℕ) (xs : List ℕ) → fold (next_name M cpu) r xs ≡ 0 → (r ≡ 0) × All (λ (x : ℕ). x < length M.contexts) xs
unfolding named
below_all M cpu r [] e = (e, tt)
below_all M cpu r (x ∷ xs) e =
    let (a, b) = below_all M cpu (next_name M cpu r x) xs e
    in let (c, d) = neither r (name_refusal (named M cpu x)) a
    in (c, (name_below M x (get_percpu_block M cpu) d, b))

pub names_below : {c n : ℕ} (M : Machine) (cpu : ℕ) (xs : List ℕ) → Fits c n M → names_refusal M cpu xs ≡ 0 → All (λ (x : ℕ). x < n) xs
unfolding names_refusal
names_below {n = n} M cpu xs o e = rw o.contexts at (below_all M cpu 0 xs e).1

pub all_below : {c n : ℕ} {m : List ℕ} (i : Image c n m) (cpu : ℕ) (xs : List ℕ) (r : ℕ) → ((M : Machine) → m ≡ encode M → Fits c n M → r ≡ names_refusal M cpu xs) → r ≡ 0 → All (λ (x : ℕ). x < n) xs
all_below i cpu xs r f z = names_below i.M cpu xs i.fits (sym (f i.M i.eq i.fits) ∙ z)
