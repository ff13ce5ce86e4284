-- Refusals 5 to 8 read no lock outside the set. Assumes nothing.
use Rattle.std.specs.Prelude.{if◌then◌else◌, None, Option, Some, Err, Ok}
use mathlib.Core.Path.{◌≡◌, refl, sym, ap, ◌∙◌, subst}
use mathlib.Core.Bool.{Bool, true, not, ◌&&◌}
use mathlib.Core.List.{List}
use Prim.Native.Nat.{ℕ}
use lib.Dec.{leb, eqb}
use Rattle.context.specs.declared.Context.{Context}
use Rattle.percpu.specs.Cpu.{Cpu}
use Rattle.machine.specs.Machine.{Machine, context_at, cpu_at}
use Rattle.machine.specs.LookUp.{look_up, get_percpu_block}
use Rattle.machine.proofs.LookUps.{live}
use Rattle.admission.specs.Refusals.{is_locked, is_late, decision_refusal, direct_refusal}
use Rattle.context_ops.specs.Named.{named_context, named_on, named}
use Rattle.model_local.specs.Names.{names}
use Rattle.model_local.specs.Local.{Within}
use Rattle.model_local.proofs.Others.{others_at, others_count}
use Rattle.call_locks.specs.Locks.{Locks}
use Rattle.call_locks.proofs.Relocked.{cpus_at}
use Rattle.call_locks.proofs.Calling.{elsewhere}
use Rattle.call_locks.proofs.Operations.{block_same}

module _ (S Q : ℕ → Bool) (l : Locks) (ds : List Context) (M : Machine) where
  abbrev E : Machine
  E = elsewhere S Q l ds M

  -- x: a context of the set
  module _ (x : ℕ) (t : S x ≡ true) where
    pub found_same : look_up E x ≡ look_up M x
    unfolding look_up
    found_same = λ i. if leb (others_count S ds M.contexts i) x then None else if (others_at S ds M.contexts x t i).gone then None else Some x

    named_context_same : (k : ℕ) (y : Option ℕ) → y ≡ look_up M x → named_context E k y ≡ named_context M k y
    unfolding named_context
    named_context_same k None h = refl
    named_context_same k (Some y) h =
        let u : S y ≡ true = subst (λ (z : ℕ). S z ≡ true) (sym (live M x y h).is) t in
        ap (λ (c : Context). if eqb c.lock 0 then Ok (k, y) else Err 6) (others_at S ds M.contexts y u)

    named_on_same : (p : Option ℕ) → named_on E x p ≡ named_on M x p
    unfolding named_on
    named_on_same None = refl
    named_on_same (Some k) = ap (named_context E k) found_same ∙ named_context_same k (look_up M x) refl

    pub named_same : (cpu : ℕ) → named E cpu x ≡ named M cpu x
    unfolding named
    named_same cpu = ap (named_on E x) (block_same S Q l ds M cpu) ∙ named_on_same (get_percpu_block M cpu)

  module _ (k time : ℕ) (w : Within S (names (cpu_at M k))) (here : Q k ≡ true) where
    cpu_is : cpu_at E k ≡ cpu_at M k
    unfolding cpu_at
    cpu_is = cpus_at l Q M.cpus k here

    at_is : (f : Cpu → ℕ) → S (f (cpu_at M k)) ≡ true → context_at E.contexts (f (cpu_at E k)) ≡ context_at M.contexts (f (cpu_at M k))
    at_is f t = ap (λ (p : Cpu). context_at E.contexts (f p)) cpu_is ∙ others_at S ds M.contexts (f (cpu_at M k)) t

    locked_same : is_locked (cpu_at E k).block (context_at E.contexts (cpu_at E k).block.current_ctxt) (context_at E.contexts (cpu_at E k).block.sched_ctxt)
        (context_at E.contexts (cpu_at E k).block.idle_ctxt)
        ≡ is_locked (cpu_at M k).block (context_at M.contexts (cpu_at M k).block.current_ctxt) (context_at M.contexts (cpu_at M k).block.sched_ctxt)
        (context_at M.contexts (cpu_at M k).block.idle_ctxt)
    locked_same =
        λ i. is_locked (cpu_is i).block (at_is (λ p. p.block.current_ctxt) w.current i) (at_is (λ p. p.block.sched_ctxt) w.in_charge i) (at_is (λ p. p.block.idle_ctxt) w.idle i)

    pub decision_same : decision_refusal E k time ≡ decision_refusal M k time
    unfolding decision_refusal
    decision_same = λ i. if locked_same i then 6 else if is_late time (cpu_is i).block then 8 else 0

    pub direct_same : (x : ℕ) → S x ≡ true → direct_refusal E k time x ≡ direct_refusal M k time x
    unfolding direct_refusal
    direct_same x t =
        λ i.
        let p = (cpu_is i).block in
        let c = others_at S ds M.contexts x t i in
        if locked_same i then 6 else
        if not (eqb c.lock 0) then 6 else
        if eqb c.addr_space 2 then 6 else
        if eqb p.current_ctxt p.idle_ctxt && not (eqb x p.current_ctxt) then 7 else
        if is_late time p then 8 else 0
