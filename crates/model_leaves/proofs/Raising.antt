-- Operations 4 to 7 raise no number; an image that passes has none over 2^62 - 1. Assumes nothing.
use Rattle.std.specs.Prelude.{None, Option, Some}
use mathlib.Core.Path.{◌≡◌, refl, sym, subst}
use mathlib.Core.List.{List}
use Prim.Native.Nat.{ℕ, ◌<◌, ◌≤◌}
use native.Mathlib.Omega.{arith}
use lib.ListN.{length}
use Rattle.context.specs.declared.Context.{Context}
use Rattle.context.specs.Block.{Changed}
use Rattle.context.specs.declared.Status.{Status}
use Rattle.context.specs.declared.Status.TheVariants.{Runnable}
use Rattle.context.specs.Status.{is_runnable, is_soft_blocked}
use Rattle.context.specs.Block.{blocked_as, unblocked}
use Rattle.context.specs.With.{with_status}
use Rattle.entries.specs.declared.Entry.{Entry}
use Rattle.percpu.specs.Cpu.{Cpu}
use Rattle.percpu.specs.Words.{block_of}
use Rattle.percpu.specs.Layout.{cpu_of, no_entry}
use Rattle.machine.specs.Machine.{Machine, context_at, cpu_at, set_context, set_cpu, no_context, no_cpu}
use Rattle.machine.specs.Encode.{decode}
use Rattle.machine.specs.Outcome.{Outcome}
use Rattle.machine.proofs.Steps.{get_d_set}
use Rattle.image_ranges.specs.Ranges.{block_most_to}
use Rattle.image.specs.Refusal.{size_c, size_n}
use Rattle.image.proofs.Admitted.{Passed, a_block}
use Rattle.model.proofs.Cases.{pick}
use Rattle.stages.proofs.Fitting.{all_of}
use Rattle.admission.proofs.Soundness.{cpus_are}
use Rattle.admission.proofs.Bounds.{decoded_below}
use Rattle.context_ops.specs.Wakeup.{other_cpu, push_local, push_ipi, wakeup_on, wakeup_context}
use Rattle.context_ops.specs.Operations.{unblock_context, drain_ipi_context_wakeups, block_with}
use Rattle.model_leaves.proofs.Operations.{other_present}
use Rattle.model_leaves.proofs.Records.{ContextRaised}
use Rattle.model_leaves.proofs.Blocks.{CpuRaised}
use Rattle.model_leaves.proofs.Passing.{MachineRaised}
use Rattle.numbers.specs.Limits.{max_number}

-- the machine of an image that passes
module _ {time : ℕ} (m : List ℕ) (p : Passed time m) where
  published : (k : ℕ) → k < size_c m → (cpu_at (decode m) k).block.published_weight ≤ max_number
  unfolding cpu_of block_of block_most_to
  published k h = subst (λ (q : Cpu). q.block.published_weight ≤ max_number) (sym (cpus_are m p k h)) ((a_block m p k h).scalar 10 (omega arith))

  pub decoded_raised : MachineRaised max_number (size_c m) (size_n m) (decode m)
  decoded_raised =
      let o = decoded_below m p in
      record {
        context = λ x h.
            let a = o.context x h in
            record { active_cpu_time = a.active_cpu_time; sched_cpu_time = a.sched_cpu_time; vtime = a.vtime; vd = a.vd; key_vd = a.key_vd };
        cpu = λ k h.
            let a = o.cpu k h in
            record {
              pit_ticks = a.pit_ticks;
              published_weight = published k h;
              user = a.user;
              kernel = a.kernel;
              idle = a.idle;
              context_switches = a.context_switches;
              syscall_switches = a.syscall_switches;
              v = a.v;
              total_weight = a.total_weight;
              key_vd = all_of (λ (e : Entry). e.key.vd ≤ max_number) no_entry (cpu_at (decode m) k).queue a.entry_vd;
              vtime = all_of (λ (e : Entry). e.vtime ≤ max_number) no_entry (cpu_at (decode m) k).queue a.entry_vtime;
            };
      }

-- a status changes
restated : {top : ℕ} (s : Status) (x : Context) → ContextRaised top x → ContextRaised top (with_status s x)
restated s x a = record { active_cpu_time = a.active_cpu_time; sched_cpu_time = a.sched_cpu_time; vtime = a.vtime; vd = a.vd; key_vd = a.key_vd }

blocked_raised : {top : ℕ} (s : Status) (x : Context) → ContextRaised top x → ContextRaised top (blocked_as s x).context
unfolding blocked_as
blocked_raised {top} s x a = pick (λ (d : Changed). ContextRaised top d.context) (is_runnable x.status) (λ z. restated s x a) (λ z. a)

unblocked_raised : {top : ℕ} (x : Context) → ContextRaised top x → ContextRaised top (unblocked x).context
unfolding unblocked
unblocked_raised {top} x a = pick (λ (d : Changed). ContextRaised top d.context) (is_soft_blocked x.status) (λ z. restated Runnable x a) (λ z. a)

module _ (top c n : ℕ) where
  pub set_raised : (x : ℕ) (q : Context) (M : Machine) → ContextRaised top q → MachineRaised top c n M → MachineRaised top c n (set_context x q M)
  unfolding cpu_at
  set_raised x q M a r = record { context = λ y h. get_d_set M.contexts x y q no_context (ContextRaised top) a (r.context y h); cpu = r.cpu }

  -- a CPU's lists change, its queue aside
  pub lists_raised : (k : ℕ) (p : Cpu) (M : Machine) → k < c → p.block ≡ (cpu_at M k).block → p.queue ≡ (cpu_at M k).queue → MachineRaised top c n M → MachineRaised top c n (set_cpu k p M)
  unfolding cpu_at
  lists_raised k p M h e f r =
      record {
        context = r.context;
        cpu = λ j l. get_d_set M.cpus k j p no_cpu (λ (y : Cpu). CpuRaised top y.block y.queue) (rw (e, f) (r.cpu k h)) (r.cpu j l);
      }

  pub block_raises_none : (s : Status) (x : ℕ) (M : Machine) → x < n → MachineRaised top c n M → MachineRaised top c n (block_with s x M).machine
  unfolding block_with
  block_raises_none s x M h r = set_raised x _ M (blocked_raised s (context_at M.contexts x) (r.context x h)) r

  pub drain_raises_none : (k : ℕ) (M : Machine) → k < c → MachineRaised top c n M → MachineRaised top c n (drain_ipi_context_wakeups k M).machine
  unfolding drain_ipi_context_wakeups
  drain_raises_none k M h r = lists_raised k _ M h refl refl r

  wakeup_raised : (k x r : ℕ) (M : Machine) → k < c → MachineRaised top c n M → (l : Option ℕ) → ((t : ℕ) → l ≡ Some t → t < c) → MachineRaised top c n (wakeup_on k x r M l).machine
  unfolding wakeup_on push_local push_ipi
  wakeup_raised k x r M h a None b = lists_raised k _ M h refl refl a
  wakeup_raised k x r M h a (Some t) b = lists_raised t _ M (b t refl) refl refl a

  wakeup_raises_none : (k x r : ℕ) (M : Machine) → length M.cpus ≡ c → k < c → MachineRaised top c n M → MachineRaised top c n (wakeup_context k x r M).machine
  unfolding wakeup_context
  wakeup_raises_none k x r M l h a =
      let w : ℕ = (context_at M.contexts x).cpu_id in
      wakeup_raised k x r M h a (other_cpu k w M) (λ t e. let i = other_present k w t M (sym e) in omega (arith, i.is, i.below))

  pub unblock_raises_none : (k x : ℕ) (M : Machine) → length M.cpus ≡ c → k < c → x < n → MachineRaised top c n M → MachineRaised top c n (unblock_context k x M).machine
  unfolding unblock_context
  unblock_raises_none k x M l h b a =
      let q : Context = context_at M.contexts x in
      let M₁ : Machine = set_context x (unblocked q).context M in
      pick (λ (o : Outcome). MachineRaised top c n o.machine) (unblocked q).done
      (λ z. wakeup_raises_none k x 1 M₁ l h (set_raised x (unblocked q).context M (unblocked_raised q (a.context x b)) a))
      (λ z. pick (λ (o : Outcome). MachineRaised top c n o.machine) (is_runnable q.status) (λ y. wakeup_raises_none k x 0 M l h a) (λ y. a))
