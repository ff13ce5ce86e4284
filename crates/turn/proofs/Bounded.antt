-- What counting, times and the holder's charge add to what grows. Assumes nothing.
use Rattle.std.specs.Prelude.{if◌then◌else◌}
use mathlib.Core.Path.{◌≡◌, refl, sym, ap, ◌∙◌, subst}
use mathlib.Core.Bool.{Bool, true, false}
use Prim.Native.Nat.{ℕ, ◌+◌, ◌-◌, ◌*◌, ◌/◌, ◌<◌, ◌≤◌, max, ◌^◌}
use native.Mathlib.Omega.{arith}
use native.Mathlib.Nat.{div-le_of_le-mul}
use lib.Dec.{ltb, eqb}
use Rattle.columns.specs.Common.{mark}
use Rattle.columns.proofs.Tests.{by_test}
use Rattle.context.specs.declared.Context.{Context}
use Rattle.context.specs.Status.{is_runnable}
use Rattle.cpu_stats.specs.declared.CpuState.{CpuState}
use Rattle.cpu_stats.specs.declared.CpuState.TheVariants.{Idle, Kernel, User}
use Rattle.cpu_stats.specs.declared.CpuStats.{CpuStats}
use Rattle.ticks.specs.declared.Spent.{Spent}
use Rattle.ticks.specs.Ticks.{max_ticks}
use Rattle.weights.specs.Weights.{weight, full_slice, min_weight}
use Rattle.weights.proofs.Table.{weight_low}
use Rattle.charging.specs.Charge.{charged, stopped, yield_bound}
use Rattle.charging.proofs.Bounds.{charged_frame, charged_vd}
use Rattle.percpu.specs.Cpu.{Cpu}
use Rattle.percpu.specs.With.{cpu_total_weight}
use Rattle.machine.specs.Shape.{ContextFits, CpuFits}
use Rattle.model.specs.State.{State, at, on_cpu, holder, is_idle}
use Rattle.model.specs.Turn.{count_switch, elapsed, times, inactive, holder_stopped, charge_holder}
use Rattle.model.proofs.Cases.{pick}
use Rattle.stages.specs.Stage.{ContextBelow, CpuBelow, StateBelow}
use Rattle.stages.proofs.Kept.{context_more, cpu_more, state_more, context_kept, newest_kept}
use Rattle.numbers.specs.Limits.{max_elapsed, nanos_per_millisecond}
use Rattle.cpu_stats.specs.Counted.{time_to, time_added}

mark_small : (b : Bool) → mark b ≤ 1
mark_small true = omega arith
mark_small false = omega arith

pub count_below : {n t b : ℕ} (s : State) → StateBelow n t b s → StateBelow n (t + 1) b (on_cpu count_switch s)
count_below {n} {t} {b} s o =
    let h : t ≤ t + 1 = omega arith
    in let g : b ≤ b = omega arith
    in let u = cpu_more h g o.cpu
    in record {
      context = λ x l. context_more h g (o.context x l);
      cpu = record {
        schedule_time = u.schedule_time;
        pit_ticks = omega arith;
        user = u.user;
        kernel = u.kernel;
        idle = u.idle;
        context_switches = omega (arith, o.cpu.context_switches);
        syscall_switches = omega (arith, o.cpu.syscall_switches, mark_small s.cpu.block.inside_syscall);
        v = u.v;
        total_weight = u.total_weight;
        entry_vtime = u.entry_vtime;
        entry_vd = u.entry_vd;
        timer_wake = u.timer_wake;
      };
    }

record Counted (t : ℕ) (c : CpuStats) : Type 0 where
  user : c.user ≤ t
  kernel : c.kernel ≤ t
  idle : c.idle ≤ t
  switches : c.context_switches ≤ t
  syscalls : c.syscall_switches ≤ t

time_counted : (t ms : ℕ) (c : CpuStats) (a : CpuState) → Counted t c → Counted (t + ms) (time_to a ms c)
time_counted t ms c Idle o = record { user = omega (arith, o.user); kernel = omega (arith, o.kernel); idle = omega (arith, o.idle); switches = omega (arith, o.switches); syscalls = omega (arith, o.syscalls) }
time_counted t ms c Kernel o = record { user = omega (arith, o.user); kernel = omega (arith, o.kernel); idle = omega (arith, o.idle); switches = omega (arith, o.switches); syscalls = omega (arith, o.syscalls) }
time_counted t ms c User o = record { user = omega (arith, o.user); kernel = omega (arith, o.kernel); idle = omega (arith, o.idle); switches = omega (arith, o.switches); syscalls = omega (arith, o.syscalls) }

pub times_below : {n t b : ℕ} (time : ℕ) (s : State) → time ≤ t → elapsed time s.cpu ≤ max_elapsed → StateBelow n t b s → StateBelow n (t + 2 ^ 33) b (on_cpu (times time) s)
unfolding times time_added
times_below {n} {t} {b} time s l e o =
    let h : t ≤ t + 2 ^ 33 = omega arith
    in let g : b ≤ b = omega arith
    in let u = cpu_more h g o.cpu
    in let ms = elapsed time s.cpu / nanos_per_millisecond
    in let m : ms ≤ 4503599627 = omega arith
    in let w = time_counted t ms s.cpu.block.stats s.cpu.block.stats.state (record { user = o.cpu.user; kernel = o.cpu.kernel; idle = o.cpu.idle; switches = o.cpu.context_switches; syscalls = o.cpu.syscall_switches })
    in record {
      context = λ x i. context_more h g (o.context x i);
      cpu = record {
        schedule_time = omega arith;
        pit_ticks = u.pit_ticks;
        user = omega (arith, w.user);
        kernel = omega (arith, w.kernel);
        idle = omega (arith, w.idle);
        context_switches = omega (arith, w.switches);
        syscall_switches = omega (arith, w.syscalls);
        v = u.v;
        total_weight = u.total_weight;
        entry_vtime = u.entry_vtime;
        entry_vd = u.entry_vd;
        timer_wake = u.timer_wake;
      };
    }

-- a charge is divided by a weight of at least 15
module _ (v : ℕ) (e : Spent) (q : Context) (l : e.ticks ≤ max_ticks) (p : q.prio ≤ 39) (r : q.rem_slice ≤ full_slice) where
  heavy : min_weight ≤ weight q.prio
  heavy = weight_low q.prio (omega arith)

  turn_small : e.ticks / weight q.prio ≤ 143280097139511575
  turn_small =
      let w : min_weight ≤ weight q.prio = heavy
      in div-le_of_le-mul (weight q.prio) (omega arith)

  slice_small : (q.rem_slice - e.ticks) / weight q.prio ≤ 644245095
  slice_small = let w : min_weight ≤ weight q.prio = heavy in div-le_of_le-mul (weight q.prio) (omega arith)

  vtime_small : (charged v e q).vtime ≤ max q.vtime v + 143280097783756670
  unfolding charged
  vtime_small =
      by_test (ltb e.elapsed yield_bound) (λ y. rw y (omega (arith, turn_small, slice_small)))
      (λ n. rw n (by_test (eqb (q.rem_slice - e.ticks) 0) (λ s. rw s (omega (arith, turn_small))) (λ s. rw s (omega (arith, turn_small)))))

  charged_below : {t b : ℕ} → v ≤ b → ContextBelow t b q → ContextBelow t (b + 288230376151711744) (charged v e q)
  charged_below {t} {b} h o =
      subst (ContextBelow t (b + 288230376151711744)) (sym (charged_frame v e q))
      (record {
        schedule_time = o.schedule_time;
        switch_time = o.switch_time;
        active_cpu_time = o.active_cpu_time;
        sched_cpu_time = o.sched_cpu_time;
        wake = o.wake;
        vtime = omega (arith, vtime_small, o.vtime);
        vd = omega (arith, vtime_small, charged_vd v e q (omega arith), o.vtime, o.vd);
        key_vd = omega (arith, o.key_vd);
      })

-- of a state in its ranges
module _ {c n t b : ℕ} (s : State) (f : CpuFits n s.cpu) (g : (x : ℕ) → x < n → ContextFits c (at s x)) (o : StateBelow n t b s) where
  held : ContextBelow t b (holder s)
  held = o.context s.cpu.block.sched_ctxt f.sched

  stopped_below : ContextBelow t b (stopped (holder s))
  stopped_below =
      record {
        schedule_time = held.schedule_time;
        switch_time = held.switch_time;
        active_cpu_time = held.active_cpu_time;
        sched_cpu_time = held.sched_cpu_time;
        wake = held.wake;
        vtime = held.vtime;
        vd = held.vd;
        key_vd = held.key_vd;
      }

  weight_below : (if (holder s).is_active then s.cpu.block.total_weight - weight (holder s).prio else s.cpu.block.total_weight) ≤ b
  weight_below = pick (λ (x : ℕ). x ≤ b) (holder s).is_active (λ e. omega (arith, o.cpu.total_weight)) (λ e. o.cpu.total_weight)

  inactive_below : StateBelow n t b (inactive s)
  inactive_below =
      context_kept (on_cpu (λ (p : Cpu). cpu_total_weight (if (holder s).is_active then p.block.total_weight - weight (holder s).prio else p.block.total_weight) p) s)
      (record {
        context = o.context;
        cpu = record {
          schedule_time = o.cpu.schedule_time;
          pit_ticks = o.cpu.pit_ticks;
          user = o.cpu.user;
          kernel = o.cpu.kernel;
          idle = o.cpu.idle;
          context_switches = o.cpu.context_switches;
          syscall_switches = o.cpu.syscall_switches;
          v = o.cpu.v;
          total_weight = weight_below;
          entry_vtime = o.cpu.entry_vtime;
          entry_vd = o.cpu.entry_vd;
          timer_wake = o.cpu.timer_wake;
        };
      })
      s.cpu.block.sched_ctxt (stopped (holder s)) stopped_below

  stop_below : StateBelow n t b (holder_stopped s)
  unfolding holder_stopped
  stop_below = pick (StateBelow n t b) (holder s).has_wake (λ e. newest_kept (inactive s) inactive_below _ held.wake) (λ e. inactive_below)

  pub charge_below : (e : Spent) → e.ticks ≤ max_ticks → StateBelow n t (b + 288230376151711744) (charge_holder e s)
  unfolding charge_holder
  charge_below e l =
      let h : t ≤ t = omega arith
      in let w : b ≤ b + 288230376151711744 = omega arith
      in let k = g s.cpu.block.sched_ctxt f.sched
      in
      pick (StateBelow n t (b + 288230376151711744)) (is_idle s) (λ z. state_more h w o)
      (λ z. pick (StateBelow n t (b + 288230376151711744)) (is_runnable (holder s).status)
      (λ y. context_kept s (state_more h w o) s.cpu.block.sched_ctxt (charged s.cpu.block.v e (holder s)) (charged_below s.cpu.block.v e (holder s) l k.prio k.rem_slice o.cpu.v held))
      (λ y. state_more h w stop_below))
