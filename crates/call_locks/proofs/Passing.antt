-- An image that passes the check passes with other lock words in their ranges. Assumes nothing.
use mathlib.Core.Path.{◌≡◌, refl, sym, ap, ◌∙◌, subst}
use mathlib.Core.Bool.{Bool}
use mathlib.Core.List.{List}
use Prim.Native.Nat.{ℕ, ◌<◌}
use native.Mathlib.Omega.{arith}
use lib.ListN.{length}
use Rattle.columns.proofs.Tests.{by_test, clash}
use Rattle.columns.proofs.Tabulate.{get_d_tabulate}
use Rattle.context.specs.declared.Context.{Context}
use Rattle.percpu.specs.Cpu.{Cpu}
use Rattle.percpu.specs.Words.{block_of}
use Rattle.machine.specs.Machine.{Machine, context_at, cpu_at, no_context, no_cpu}
use Rattle.machine.specs.Encode.{decode}
use Rattle.machine.proofs.Decoded.{decode_encode}
use Rattle.image.specs.Refusal.{size_c, size_n, image_refusal}
use Rattle.image.proofs.Admitted.{Passed, passed}
use Rattle.model.proofs.Cases.{pick}
use Rattle.model_timers.specs.Timers.{Alone}
use Rattle.model_leaves.proofs.WellFormed.{ContextFormed, Stands, absent, present, WellFormed}
use Rattle.model_leaves.proofs.Lists.{SameName, stands_named}
use Rattle.model_leaves.proofs.Decoding.{well_formed}
use Rattle.model_leaves.proofs.Records.{ContextRaised}
use Rattle.model_leaves.proofs.Blocks.{CpuRaised}
use Rattle.model_leaves.proofs.Passing.{MachineRaised, machine_passes}
use Rattle.model_leaves.proofs.Raising.{decoded_raised}
use Rattle.model_local.proofs.Others.{others_at, others_out, others_count}
use Rattle.ronthuyal.proofs.Reached.{short}
use Rattle.numbers.specs.Limits.{max_number}
use Rattle.call_locks.specs.Locks.{Locks, InRange, relocked_context, relocked_cpu, relocked_contexts, relocked, relocked_image}
use Rattle.call_locks.proofs.Relocked.{cpus_count, cpus_get, cpus_read}

-- a record and a CPU with other words
module _ (l : Locks) where
  context_formed : InRange l → (c x : ℕ) (q : Context) → ContextFormed c q → ContextFormed c (relocked_context l x q)
  unfolding relocked_context
  context_formed r c x q o =
      pick (ContextFormed c) q.gone (λ t. o)
      (λ t.
      let f = o.fixed_formed t in
      record {
        id = o.id;
        gone = λ z. clash z t;
        fixed_formed = λ z. record { sched_affinity = f.sched_affinity; prio = f.prio; lock = r.lock x; addr_space = r.addr_space x };
        changing_formed = o.changing_formed;
      })

  context_raised : (top x : ℕ) (q : Context) → ContextRaised top q → ContextRaised top (relocked_context l x q)
  unfolding relocked_context
  context_raised top x q o =
      pick (ContextRaised top) q.gone (λ t. o)
      (λ t. record { active_cpu_time = o.active_cpu_time; sched_cpu_time = o.sched_cpu_time; vtime = o.vtime; vd = o.vd; key_vd = o.key_vd })

  context_named : (x : ℕ) (q : Context) → SameName q (relocked_context l x q)
  unfolding relocked_context
  context_named x q = pick (SameName q) q.gone (λ t. record { gone = refl; id = refl }) (λ t. record { gone = refl; id = refl })

  cpu_stands : (n : ℕ) (cs : List Context) (j : ℕ) (p : Cpu) → Stands n cs p → Stands n cs (relocked_cpu l j p)
  unfolding relocked_cpu no_cpu block_of
  cpu_stands n cs j p (absent e) = absent (ap (relocked_cpu l j) e)
  cpu_stands n cs j p (present f r) = pick (Stands n cs) p.block.present (λ t. present f r) (λ t. present f r)

  cpu_raised : (top j : ℕ) (p : Cpu) → CpuRaised top p.block p.queue → CpuRaised top (relocked_cpu l j p).block (relocked_cpu l j p).queue
  unfolding relocked_cpu
  cpu_raised top j p o =
      pick (λ (r : Cpu). CpuRaised top r.block r.queue) p.block.present
      (λ t. record {
        pit_ticks = o.pit_ticks;
        published_weight = o.published_weight;
        user = o.user;
        kernel = o.kernel;
        idle = o.idle;
        context_switches = o.context_switches;
        syscall_switches = o.syscall_switches;
        v = o.v;
        total_weight = o.total_weight;
        key_vd = o.key_vd;
        vtime = o.vtime;
      })
      (λ t. o)

module _ (S Q : ℕ → Bool) (l : Locks) (r : InRange l) (c n : ℕ) (M : Machine) (W : WellFormed c n M) where
  abbrev E : Machine
  E = relocked S Q l M

  -- a record and a CPU are as they were, or have other words
  context_by : (P : Context → Type 0) (x : ℕ) → x < n → P (context_at M.contexts x) → P (relocked_context l x (context_at M.contexts x)) → P (context_at E.contexts x)
  context_by P x h a b =
      let g : x < length M.contexts = rw W.contexts h in
      by_test (S x) (λ t. subst P (sym (others_at S (relocked_contexts l M.contexts) M.contexts x t)) a)
      (λ t. subst P (sym (others_out S (relocked_contexts l M.contexts) M.contexts x g t ∙ get_d_tabulate (length M.contexts) x _ no_context g)) b)

  cpu_by : (P : Cpu → Type 0) (k : ℕ) → k < c → P (cpu_at M k) → P (relocked_cpu l k (cpu_at M k)) → P (cpu_at E k)
  unfolding cpu_at
  cpu_by P k h a b = subst P (sym (cpus_get l Q M.cpus k (rw W.cpus h))) (pick P (Q k) (λ t. a) (λ t. b))

  named : (x : ℕ) → x < n → SameName (context_at M.contexts x) (context_at E.contexts x)
  named x h = let q = context_at M.contexts x in context_by (SameName q) x h (record { gone = refl; id = refl }) (context_named l x q)

  pub relocked_formed : WellFormed c n E
  unfolding cpu_at
  relocked_formed =
      record {
        bounds = W.bounds;
        cpus = cpus_count l Q M.cpus ∙ W.cpus;
        contexts = others_count S (relocked_contexts l M.contexts) M.contexts ∙ W.contexts;
        context = λ x h. context_by (ContextFormed c) x h (W.context x h) (context_formed l r c x (context_at M.contexts x) (W.context x h));
        ids_differ = λ x y h g e. W.ids_differ x y h g (sym (named x h).id ∙ e ∙ (named y g).id);
        cpu = λ k h. stands_named M.contexts E.contexts named (cpu_at E k) (cpu_by (Stands n M.contexts) k h (W.cpu k h) (cpu_stands l n M.contexts k (cpu_at M k) (W.cpu k h)));
        alone = λ k. subst Alone (sym (cpus_read l Q (λ (p : Cpu). p.timers) (λ b p. refl) M.cpus k)) (W.alone k);
      }

  pub relocked_raised : (top : ℕ) → MachineRaised top c n M → MachineRaised top c n E
  relocked_raised top o =
      record {
        context = λ x h. context_by (ContextRaised top) x h (o.context x h) (context_raised l top x (context_at M.contexts x) (o.context x h));
        cpu = λ k h. cpu_by (λ (p : Cpu). CpuRaised top p.block p.queue) k h (o.cpu k h) (cpu_raised l top k (cpu_at M k) (o.cpu k h));
      }

module _ (S Q : ℕ → Bool) (l : Locks) (r : InRange l) (m : List ℕ) (time : ℕ) (z : image_refusal time m ≡ 0) where
  W : WellFormed (size_c m) (size_n m) (decode m)
  W = well_formed m (passed time m z)

  W' : WellFormed (size_c m) (size_n m) (relocked S Q l (decode m))
  W' = relocked_formed S Q l r (size_c m) (size_n m) (decode m) W

  pub relocked_passes : image_refusal time (relocked_image S Q l m) ≡ 0
  relocked_passes =
      let p : Passed time m = passed time m z in
      machine_passes (size_c m) (size_n m) (relocked S Q l (decode m)) W' time p.words.time_most
      (relocked_raised S Q l r (size_c m) (size_n m) (decode m) W max_number (decoded_raised m p))

  pub relocked_decodes : decode (relocked_image S Q l m) ≡ relocked S Q l (decode m)
  relocked_decodes =
      let N = relocked S Q l (decode m) in decode_encode N (λ k h. short (cpu_at N k) (W'.cpu k (omega (arith, W'.cpus))))
