-- Operations 4 to 7 add nothing to what grows. Assumes nothing.
use Rattle.std.specs.Prelude.{None, Option, Some}
use mathlib.Core.Path.{◌≡◌, refl, sym}
use Prim.Native.Nat.{ℕ, ◌<◌, ◌≤◌}
use native.Mathlib.Omega.{arith}
use lib.ListN.{length}
use Rattle.context.specs.declared.Context.{Context}
use Rattle.context.specs.Block.{Changed}
use Rattle.context.specs.declared.Status.{Status}
use Rattle.context.specs.declared.Status.TheVariants.{Runnable}
use Rattle.context.specs.Status.{is_runnable, is_soft_blocked}
use Rattle.context.specs.Block.{blocked_as, unblocked}
use Rattle.context.specs.With.{with_status}
use Rattle.percpu.specs.Cpu.{Cpu}
use Rattle.machine.specs.Machine.{Machine, context_at, cpu_at, set_context, set_cpu, no_context, no_cpu}
use Rattle.machine.specs.Outcome.{Outcome}
use Rattle.machine.proofs.Steps.{get_d_set}
use Rattle.model.proofs.Cases.{pick}
use Rattle.stages.specs.Stage.{ContextBelow, CpuBelow}
use Rattle.context_ops.specs.Wakeup.{other_cpu, push_local, push_ipi, wakeup_on, wakeup_context}
use Rattle.context_ops.specs.Operations.{unblock_context, drain_ipi_context_wakeups, block_with}
use Rattle.model_leaves.proofs.Operations.{other_present}
use Rattle.growth.specs.declared.Bounds.{Bounds}
use Rattle.growth.specs.Growth.{Within}

-- a status changes
restated : {t b : ℕ} (s : Status) (x : Context) → ContextBelow t b x → ContextBelow t b (with_status s x)
restated s x a =
    record {
      schedule_time = a.schedule_time;
      switch_time = a.switch_time;
      active_cpu_time = a.active_cpu_time;
      sched_cpu_time = a.sched_cpu_time;
      wake = a.wake;
      vtime = a.vtime;
      vd = a.vd;
      key_vd = a.key_vd;
    }

blocked_below : {t b : ℕ} (s : Status) (x : Context) → ContextBelow t b x → ContextBelow t b (blocked_as s x).context
unfolding blocked_as
blocked_below {t} {b} s x a = pick (λ (d : Changed). ContextBelow t b d.context) (is_runnable x.status) (λ z. restated s x a) (λ z. a)

unblocked_below : {t b : ℕ} (x : Context) → ContextBelow t b x → ContextBelow t b (unblocked x).context
unfolding unblocked
unblocked_below {t} {b} x a = pick (λ (d : Changed). ContextBelow t b d.context) (is_soft_blocked x.status) (λ z. restated Runnable x a) (λ z. a)

-- a CPU's lists change, its queue and timers aside
pub record SameNumbers (p q : Cpu) : Type 0 where
  pub block : q.block ≡ p.block
  pub queue : q.queue ≡ p.queue
  pub timers : q.timers ≡ p.timers

lists_below : {t b : ℕ} (p q : Cpu) → SameNumbers p q → CpuBelow t b p → CpuBelow t b q
lists_below p q e a =
    let f = e.block in
    let g = e.queue in
    let h = e.timers in
    record {
      schedule_time = rw f a.schedule_time;
      pit_ticks = rw f a.pit_ticks;
      user = rw f a.user;
      kernel = rw f a.kernel;
      idle = rw f a.idle;
      context_switches = rw f a.context_switches;
      syscall_switches = rw f a.syscall_switches;
      v = rw f a.v;
      total_weight = rw f a.total_weight;
      entry_vtime = rw g a.entry_vtime;
      entry_vd = rw g a.entry_vd;
      timer_wake = rw h a.timer_wake;
    }

module _ (c n : ℕ) (b : Bounds) where
  abbrev In : Machine → Type 0
  In M = Within c n b M

  set_within : (x : ℕ) (q : Context) (M : Machine) → ContextBelow b.times b.virtual_times q → In M → In (set_context x q M)
  unfolding cpu_at
  set_within x q M a r =
      record {
        below = record { context = λ y h. get_d_set M.contexts x y q no_context (ContextBelow b.times b.virtual_times) a (r.below.context y h); cpu = r.below.cpu };
        published = r.published;
      }

  lists_within : (k : ℕ) (p : Cpu) (M : Machine) → k < c → SameNumbers (cpu_at M k) p → In M → In (set_cpu k p M)
  unfolding cpu_at
  lists_within k p M h e r =
      record {
        below = record {
          context = r.below.context;
          cpu = λ j l. get_d_set M.cpus k j p no_cpu (CpuBelow b.times b.virtual_times) (lists_below _ p e (r.below.cpu k h)) (r.below.cpu j l);
        };
        published = λ j l. get_d_set M.cpus k j p no_cpu (λ (y : Cpu). y.block.published_weight ≤ b.virtual_times) (rw e.block (r.published k h)) (r.published j l);
      }

  pub block_within : (s : Status) (x : ℕ) (M : Machine) → x < n → In M → In (block_with s x M).machine
  unfolding block_with
  block_within s x M h r = set_within x _ M (blocked_below s (context_at M.contexts x) (r.below.context x h)) r

  pub drain_within : (k : ℕ) (M : Machine) → k < c → In M → In (drain_ipi_context_wakeups k M).machine
  unfolding drain_ipi_context_wakeups
  drain_within k M h r = lists_within k _ M h (record { block = refl; queue = refl; timers = refl }) r

  wakeup_by : (k x r : ℕ) (M : Machine) → k < c → In M → (l : Option ℕ) → ((t : ℕ) → l ≡ Some t → t < c) → In (wakeup_on k x r M l).machine
  unfolding wakeup_on push_local push_ipi
  wakeup_by k x r M h a None f = lists_within k _ M h (record { block = refl; queue = refl; timers = refl }) a
  wakeup_by k x r M h a (Some t) f = lists_within t _ M (f t refl) (record { block = refl; queue = refl; timers = refl }) a

  wakeup_within : (k x r : ℕ) (M : Machine) → length M.cpus ≡ c → k < c → In M → In (wakeup_context k x r M).machine
  unfolding wakeup_context
  wakeup_within k x r M l h a =
      let w : ℕ = (context_at M.contexts x).cpu_id in
      wakeup_by k x r M h a (other_cpu k w M) (λ t e. let i = other_present k w t M (sym e) in omega (arith, i.is, i.below))

  pub unblock_within : (k x : ℕ) (M : Machine) → length M.cpus ≡ c → k < c → x < n → In M → In (unblock_context k x M).machine
  unfolding unblock_context
  unblock_within k x M l h i a =
      let q : Context = context_at M.contexts x in
      let M₁ : Machine = set_context x (unblocked q).context M in
      pick (λ (o : Outcome). In o.machine) (unblocked q).done
      (λ z. wakeup_within k x 1 M₁ l h (set_within x (unblocked q).context M (unblocked_below q (a.below.context x i)) a))
      (λ z. pick (λ (o : Outcome). In o.machine) (is_runnable q.status) (λ y. wakeup_within k x 0 M l h a) (λ y. a))
