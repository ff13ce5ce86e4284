-- Unblocking a context changes neither which CPUs and contexts there are nor any lock: a name means after it what it meant before. Assumes nothing.
use Rattle.std.specs.Prelude.{None, Option, Some}
use mathlib.Core.Path.{◌≡◌, refl, ap, ◌∙◌}
use mathlib.Core.List.{List, [], ◌∷◌}
use Prim.Native.Nat.{ℕ, zero, suc}
use lib.ListN.{length, get_or, set, length-set}
use Rattle.context.specs.declared.Context.{Context}
use Rattle.context.specs.Block.{Changed}
use Rattle.context.specs.Status.{is_runnable, is_soft_blocked}
use Rattle.context.specs.Block.{unblocked}
use Rattle.percpu.specs.Cpu.{Cpu}
use Rattle.percpu.specs.Lists.{cpu_push_local, cpu_push_ipi}
use Rattle.machine.specs.Machine.{Machine, context_at, cpu_at, set_context, set_cpu, no_context, no_cpu}
use Rattle.machine.specs.LookUp.{look_up, get_percpu_block}
use Rattle.machine.specs.Outcome.{Outcome}
use Rattle.model.proofs.Cases.{pick}
use Rattle.model_leaves.proofs.WellFormed.{Fixed, fixed}
use Rattle.context_ops.specs.Named.{named, named_on, named_context}
use Rattle.context_ops.specs.Wakeup.{push_local, push_ipi, wakeup_on, wakeup_context, other_cpu}
use Rattle.context_ops.specs.Operations.{unblock_context}

-- what `named` looks at
record SameNames (M N : Machine) : Type 0 where
  cpus : length N.cpus ≡ length M.cpus
  contexts : length N.contexts ≡ length M.contexts
  present : (k : ℕ) → (cpu_at N k).block.present ≡ (cpu_at M k).block.present
  context : (x : ℕ) → fixed (context_at N.contexts x) ≡ fixed (context_at M.contexts x)

module _ (M N : Machine) (s : SameNames M N) where
  same_cpu : (cpu : ℕ) → get_percpu_block N cpu ≡ get_percpu_block M cpu
  unfolding get_percpu_block
  same_cpu cpu = rw (s.cpus, s.present cpu)

  same_look_up : (x : ℕ) → look_up N x ≡ look_up M x
  unfolding look_up
  same_look_up x = rw (s.contexts, ap (λ (f : Fixed). f.gone) (s.context x))

  same_context : (k : ℕ) (l : Option ℕ) → named_context N k l ≡ named_context M k l
  unfolding named_context
  same_context k None = refl
  same_context k (Some x) = rw (ap (λ (f : Fixed). f.lock) (s.context x))

  same_on : (x : ℕ) (l : Option ℕ) → named_on N x l ≡ named_on M x l
  unfolding named_on
  same_on x None = refl
  same_on x (Some k) = ap (named_context N k) (same_look_up x) ∙ same_context k (look_up M x)

  same_named : (cpu x : ℕ) → named N cpu x ≡ named M cpu x
  unfolding named
  same_named cpu x = ap (named_on N x) (same_cpu cpu) ∙ same_on x (get_percpu_block M cpu)

-- what f sees of an element stays, if it sees the same of what is set
set_same : {A B : Type 0} (f : A → B) (l : List A) (i : ℕ) (a d : A) → f a ≡ f (get_or l i d) → (j : ℕ) → f (get_or (set l i a) j d) ≡ f (get_or l j d)
set_same f [] i a d e j = refl
set_same f (x ∷ xs) zero a d e zero = e
set_same f (x ∷ xs) zero a d e (suc j) = refl
set_same f (x ∷ xs) (suc i) a d e zero = refl
set_same f (x ∷ xs) (suc i) a d e (suc j) = set_same f xs i a d e j

abbrev Keeps : Machine → Machine → Type 0
Keeps M N = (cpu x : ℕ) → named N cpu x ≡ named M cpu x

set_context_keeps : (M : Machine) (x : ℕ) (q : Context) → fixed q ≡ fixed (context_at M.contexts x) → Keeps M (set_context x q M)
unfolding cpu_at
set_context_keeps M x q e =
    same_named M (set_context x q M)
    (record { cpus = refl; contexts = length-set M.contexts x q; present = λ k. refl; context = set_same fixed M.contexts x q no_context e })

set_cpu_keeps : (M : Machine) (k : ℕ) (p : Cpu) → p.block.present ≡ (cpu_at M k).block.present → Keeps M (set_cpu k p M)
unfolding cpu_at
set_cpu_keeps M k p e =
    same_named M (set_cpu k p M)
    (record { cpus = length-set M.cpus k p; contexts = refl; present = set_same (λ (y : Cpu). y.block.present) M.cpus k p no_cpu e; context = λ x. refl })

unblocked_fixed : (q : Context) → fixed (unblocked q).context ≡ fixed q
unfolding unblocked
unblocked_fixed q = pick (λ (d : Changed). fixed d.context ≡ fixed q) (is_soft_blocked q.status) (λ z. refl) (λ z. refl)

wakeup_keeps : (k x r : ℕ) (M : Machine) (l : Option ℕ) → Keeps M (wakeup_on k x r M l).machine
unfolding wakeup_on push_local push_ipi
wakeup_keeps k x r M None = set_cpu_keeps M k (cpu_push_local x (cpu_at M k)) refl
wakeup_keeps k x r M (Some t) = set_cpu_keeps M t (cpu_push_ipi x (cpu_at M t)) refl

pub unblock_keeps : (k x : ℕ) (M : Machine) → Keeps M (unblock_context k x M).machine
unfolding unblock_context wakeup_context
unblock_keeps k x M =
    let q : Context = context_at M.contexts x in
    let M₁ : Machine = set_context x (unblocked q).context M in
    let on : Machine → Option ℕ = λ (N : Machine). other_cpu k (context_at N.contexts x).cpu_id N in
    pick (λ (o : Outcome). Keeps M o.machine) (unblocked q).done
    (λ z cpu y. wakeup_keeps k x 1 M₁ (on M₁) cpu y ∙ set_context_keeps M x (unblocked q).context (unblocked_fixed q) cpu y)
    (λ z. pick (λ (o : Outcome). Keeps M o.machine) (is_runnable q.status) (λ y. wakeup_keeps k x 0 M (on M)) (λ y cpu j. refl))
