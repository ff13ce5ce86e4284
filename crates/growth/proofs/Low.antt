-- What the stages of a decision add to what grows, by the time and the ticks of the turn. Assumes nothing.
use Rattle.std.specs.Prelude.{if◌then◌else◌}
use mathlib.Core.Path.{sym, subst}
use Prim.Native.Nat.{ℕ, ◌+◌, ◌-◌, ◌/◌, ◌<◌, ◌≤◌, ◌^◌}
use native.Mathlib.Omega.{arith}
use Rattle.context.specs.declared.Context.{Context}
use Rattle.context.specs.Status.{is_runnable}
use Rattle.context.specs.Key.{queue_key, with_new_key, entry_of}
use Rattle.cpu_stats.specs.declared.CpuState.{CpuState}
use Rattle.cpu_stats.specs.declared.CpuState.TheVariants.{Idle, Kernel, User}
use Rattle.cpu_stats.specs.declared.CpuStats.{CpuStats}
use Rattle.cpu_stats.specs.Counted.{time_to, time_added}
use Rattle.ticks.specs.declared.Spent.{Spent}
use Rattle.weights.specs.Weights.{weight, full_slice}
use Rattle.charging.specs.Charge.{charged, stopped}
use Rattle.charging.proofs.Bounds.{charged_frame, charged_vtime, charged_vd}
use Rattle.percpu.specs.Cpu.{Cpu}
use Rattle.percpu.specs.With.{cpu_total_weight}
use Rattle.model.specs.State.{State, put_context, on_cpu, insert_entry, remove_key, holder, is_idle}
use Rattle.model.specs.Turn.{elapsed, times, inactive, holder_stopped, charge_holder}
use Rattle.model.specs.Handover.{requeue}
use Rattle.model.proofs.Cases.{pick}
use Rattle.stages.specs.Stage.{ContextBelow, StateBelow}
use Rattle.stages.proofs.Kept.{context_more, cpu_more, state_more, context_kept, newest_kept, entry_kept, removal_kept}
use Rattle.numbers.specs.Limits.{nanos_per_millisecond}

-- a state of a decision: what grows, and the weight that the CPU publishes
pub record Low (n t b : ℕ) (s : State) : Type 0 where
  pub below : StateBelow n t b s
  pub published : s.cpu.block.published_weight ≤ b

pub low_more : {n t b t' b' : ℕ} {s : State} → t ≤ t' → b ≤ b' → Low n t b s → Low n t' b' s
low_more h g o = record { below = state_more h g o.below; published = omega (arith, o.published) }

record Counted (t : ℕ) (c : CpuStats) : Type 0 where
  user : c.user ≤ t
  kernel : c.kernel ≤ t
  idle : c.idle ≤ t
  switches : c.context_switches ≤ t
  syscalls : c.syscall_switches ≤ t

time_counted : (t ms : ℕ) (c : CpuStats) (a : CpuState) → Counted t c → Counted (t + ms) (time_to a ms c)
time_counted t ms c Idle o = record { user = omega (arith, o.user); kernel = omega (arith, o.kernel); idle = omega (arith, o.idle); switches = omega (arith, o.switches); syscalls = omega (arith, o.syscalls) }
time_counted t ms c Kernel o = record { user = omega (arith, o.user); kernel = omega (arith, o.kernel); idle = omega (arith, o.idle); switches = omega (arith, o.switches); syscalls = omega (arith, o.syscalls) }
time_counted t ms c User o = record { user = omega (arith, o.user); kernel = omega (arith, o.kernel); idle = omega (arith, o.idle); switches = omega (arith, o.switches); syscalls = omega (arith, o.syscalls) }

-- the milliseconds of a turn are no more than its end
pub times_low : {n t b : ℕ} (time : ℕ) (s : State) → Low n t b s → Low n (t + time) b (on_cpu (times time) s)
unfolding times time_added
times_low {n} {t} {b} time s l =
    let o = l.below in
    let h : t ≤ t + time = omega arith in
    let g : b ≤ b = omega arith in
    let u = cpu_more h g o.cpu in
    let ms = elapsed time s.cpu / nanos_per_millisecond in
    let m : ms ≤ time = omega arith in
    let w = time_counted t ms s.cpu.block.stats s.cpu.block.stats.state (record { user = o.cpu.user; kernel = o.cpu.kernel; idle = o.cpu.idle; switches = o.cpu.context_switches; syscalls = o.cpu.syscall_switches }) in
    record {
      below = record {
        context = λ x i. context_more h g (o.context x i);
        cpu = record {
          schedule_time = omega arith;
          pit_ticks = u.pit_ticks;
          user = omega (arith, w.user);
          kernel = omega (arith, w.kernel);
          idle = omega (arith, w.idle);
          context_switches = omega (arith, w.switches);
          syscall_switches = omega (arith, w.syscalls);
          v = u.v;
          total_weight = u.total_weight;
          entry_vtime = u.entry_vtime;
          entry_vd = u.entry_vd;
          timer_wake = u.timer_wake;
        };
      };
      published = l.published;
    }

-- more than a full slice and a whole one
abbrev pub slice_charge : ℕ
slice_charge = 2 ^ 34

charged_low : {t b : ℕ} (v : ℕ) (e : Spent) (q : Context) → q.prio ≤ 39 → q.rem_slice ≤ full_slice → v ≤ b → ContextBelow t b q → ContextBelow t (b + e.ticks + slice_charge) (charged v e q)
charged_low {t} {b} v e q p r h o =
    let x = charged_vtime v e q in
    subst (ContextBelow t (b + e.ticks + slice_charge)) (sym (charged_frame v e q))
    (record {
      schedule_time = o.schedule_time;
      switch_time = o.switch_time;
      active_cpu_time = o.active_cpu_time;
      sched_cpu_time = o.sched_cpu_time;
      wake = o.wake;
      vtime = omega (arith, x, o.vtime);
      vd = omega (arith, x, charged_vd v e q (omega arith), o.vtime, o.vd);
      key_vd = omega (arith, o.key_vd);
    })

module _ {n t b : ℕ} (s : State) (f : s.cpu.block.sched_ctxt < n) (l : Low n t b s) where
  abbrev x : ℕ
  x = s.cpu.block.sched_ctxt

  held : ContextBelow t b (holder s)
  held = l.below.context x f

  stopped_below : ContextBelow t b (stopped (holder s))
  stopped_below =
      record {
        schedule_time = held.schedule_time;
        switch_time = held.switch_time;
        active_cpu_time = held.active_cpu_time;
        sched_cpu_time = held.sched_cpu_time;
        wake = held.wake;
        vtime = held.vtime;
        vd = held.vd;
        key_vd = held.key_vd;
      }

  inactive_below : StateBelow n t b (inactive s)
  inactive_below =
      let o = l.below in
      context_kept (on_cpu (λ (p : Cpu). cpu_total_weight (if (holder s).is_active then p.block.total_weight - weight (holder s).prio else p.block.total_weight) p) s)
      (record {
        context = o.context;
        cpu = record {
          schedule_time = o.cpu.schedule_time;
          pit_ticks = o.cpu.pit_ticks;
          user = o.cpu.user;
          kernel = o.cpu.kernel;
          idle = o.cpu.idle;
          context_switches = o.cpu.context_switches;
          syscall_switches = o.cpu.syscall_switches;
          v = o.cpu.v;
          total_weight = pick (λ (y : ℕ). y ≤ b) (holder s).is_active (λ e. omega (arith, o.cpu.total_weight)) (λ e. o.cpu.total_weight);
          entry_vtime = o.cpu.entry_vtime;
          entry_vd = o.cpu.entry_vd;
          timer_wake = o.cpu.timer_wake;
        };
      })
      x (stopped (holder s)) stopped_below

  stop_low : Low n t b (holder_stopped s)
  unfolding holder_stopped
  stop_low =
      pick (Low n t b) (holder s).has_wake
      (λ e. record { below = newest_kept (inactive s) inactive_below _ held.wake; published = l.published }) (λ e. record { below = inactive_below; published = l.published })

  pub charge_low : (holder s).prio ≤ 39 → (holder s).rem_slice ≤ full_slice → (e : Spent) → Low n t (b + e.ticks + slice_charge) (charge_holder e s)
  unfolding charge_holder
  charge_low p r e =
      let m : Low n t (b + e.ticks + slice_charge) s = low_more (omega arith) (omega arith) l in
      pick (Low n t (b + e.ticks + slice_charge)) (is_idle s) (λ z. m)
      (λ z. pick (Low n t (b + e.ticks + slice_charge)) (is_runnable (holder s).status)
      (λ y. record {
        below = context_kept s m.below x (charged s.cpu.block.v e (holder s)) (charged_low s.cpu.block.v e (holder s) p r l.below.cpu.v held);
        published = m.published;
      })
      (λ y. low_more (omega arith) (omega arith) stop_low))

  keyed_below : ContextBelow t b (with_new_key (holder s))
  keyed_below =
      record {
        schedule_time = held.schedule_time;
        switch_time = held.switch_time;
        active_cpu_time = held.active_cpu_time;
        sched_cpu_time = held.sched_cpu_time;
        wake = held.wake;
        vtime = held.vtime;
        vd = held.vd;
        key_vd = held.vd;
      }

  queued_low : (u : State) → Low n t b u → Low n t b (insert_entry (entry_of x (weight (holder s).prio) (holder s)) (put_context x (with_new_key (holder s)) u))
  queued_low u o =
      record {
        below = entry_kept (put_context x (with_new_key (holder s)) u) (context_kept u o.below x (with_new_key (holder s)) keyed_below) (entry_of x (weight (holder s).prio) (holder s)) held.vtime held.vd;
        published = o.published;
      }

  pub requeue_low : Low n t b (requeue s)
  unfolding requeue
  requeue_low =
      pick (λ (u : State). Low n t b (insert_entry (entry_of x (weight (holder s).prio) (holder s)) (put_context x (with_new_key (holder s)) u))) (holder s).has_queue_key
      (λ e. queued_low (remove_key (queue_key (holder s)) s) (record { below = removal_kept s l.below (queue_key (holder s)); published = l.published })) (λ e. queued_low s l)
