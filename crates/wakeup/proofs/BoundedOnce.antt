-- What one wake-up adds: u bounds virtual times and the total weight of the whole stage. Assumes nothing.
use Rattle.std.specs.Prelude.{if◌then◌else◌, None, Option, Some}
use mathlib.Core.Bool.{Bool, true, false}
use mathlib.Core.List.{List}
use Prim.Native.Nat.{ℕ, ◌+◌, ◌<◌, ◌≤◌}
use native.Mathlib.Omega.{arith}
use Rattle.columns.specs.Common.{All}
use Rattle.columns.proofs.Tests.{by_test}
use Rattle.context.specs.declared.Context.{Context}
use Rattle.weights.specs.Weights.{weight, whole_slice, max_weight, max_whole_slice}
use Rattle.entries.specs.declared.Entry.{Entry}
use Rattle.entries.specs.declared.Timer.{Timer}
use Rattle.entries.specs.Order.{entry_before, sooner}
use Rattle.entries.specs.Queue.{queue_insert, queue_remove, timer_insert, keyed}
use Rattle.percpu.specs.Cpu.{Cpu}
use Rattle.percpu.specs.With.{cpu_timers}
use Rattle.percpu.specs.Layout.{no_entry, no_timer}
use Rattle.machine.specs.Machine.{no_context}
use Rattle.machine.proofs.Steps.{get_d_set}
use Rattle.model.specs.State.{State, at, put_context}
use Rattle.model.specs.Wakeup.{Wakeup, waits_for, woken_by, without_old_key, entering, put_back, enter, wake_as, serve_wakeup}
use Rattle.model.proofs.WakeupCases.{wakeup_cases}
use Rattle.model.proofs.Sorted.{all_insert, all_remove}
use Rattle.stages.specs.Stage.{ContextBelow, CpuBelow, StateBelow}
use Rattle.stages.proofs.Fitting.{all_of, of_all}
use Rattle.wakeup.specs.Paced.{Slow}
use Rattle.wakeup.proofs.Pacing.{weight_at_most, slice_at_most, max_at_most, woken_vtime}
use Rattle.wakeup.proofs.Listed.{WakeBelow}
use Rattle.context.specs.Key.{queue_key, entry_of}

-- other timers
timers_below : {t b : ℕ} (l : List Timer) (p : Cpu) → CpuBelow t b p → All (λ (x : Timer). x.wake ≤ t) l → CpuBelow t b (cpu_timers l p)
timers_below {t} l p o a =
    record {
      schedule_time = o.schedule_time;
      pit_ticks = o.pit_ticks;
      user = o.user;
      kernel = o.kernel;
      idle = o.idle;
      context_switches = o.context_switches;
      syscall_switches = o.syscall_switches;
      v = o.v;
      total_weight = o.total_weight;
      entry_vtime = o.entry_vtime;
      entry_vd = o.entry_vd;
      timer_wake = of_all (λ (x : Timer). x.wake ≤ t) no_timer l a;
    }

pub wakes_of : {t b : ℕ} (p : Cpu) → CpuBelow t b p → All (λ (x : Timer). x.wake ≤ t) p.timers
wakes_of {t} p o = all_of (λ (x : Timer). x.wake ≤ t) no_timer p.timers o.timer_wake

woken_below : {t b : ℕ} (o : Option ℕ) (c : Context) → ContextBelow t b c → ContextBelow t b (woken_by o c)
woken_below None c f = f
woken_below (Some w) c f =
    by_test (waits_for w c)
    (λ e. rw e
    (record {
      schedule_time = f.schedule_time;
      switch_time = f.switch_time;
      active_cpu_time = f.active_cpu_time;
      sched_cpu_time = f.sched_cpu_time;
      wake = omega arith;
      vtime = f.vtime;
      vd = f.vd;
      key_vd = f.key_vd;
    }))
    (λ e. rw e f)

-- one wake-up; u is the bound of the whole stage
module _ {n t b w u : ℕ} (s : State) (o : Slow n b w s) (f : StateBelow n t u s) (hw : w + max_weight ≤ u) (hb : b + max_whole_slice ≤ u) where
  back_below : (k : Option ℕ) (x : ℕ) → WakeBelow t k → StateBelow n t u (put_back k x s)
  back_below None x h =
      record {
        context = f.context;
        cpu = record {
          schedule_time = f.cpu.schedule_time;
          pit_ticks = f.cpu.pit_ticks;
          user = f.cpu.user;
          kernel = f.cpu.kernel;
          idle = f.cpu.idle;
          context_switches = f.cpu.context_switches;
          syscall_switches = f.cpu.syscall_switches;
          v = f.cpu.v;
          total_weight = f.cpu.total_weight;
          entry_vtime = f.cpu.entry_vtime;
          entry_vd = f.cpu.entry_vd;
          timer_wake = f.cpu.timer_wake;
        };
      }
  back_below (Some k) x h =
      record {
        context = f.context;
        cpu = timers_below (timer_insert (record { wake = k; context_ref = x }) s.cpu.timers) s.cpu f.cpu
            (all_insert sooner (λ (y : Timer). y.wake ≤ t) (record { wake = k; context_ref = x }) s.cpu.timers h (wakes_of s.cpu f.cpu));
      }

  put_below : (x : ℕ) (q : Context) → ContextBelow t u q → StateBelow n t u (put_context x q s)
  put_below x q g = record { context = λ y h. get_d_set s.contexts x y q no_context (ContextBelow t u) g (f.context y h); cpu = f.cpu }

  module _ (x : ℕ) (q : Context) (g : ContextBelow t u q) (h : q.vtime ≤ b) where
    abbrev e : Context
    e = entering s.cpu.block.v q

    later : e.vtime ≤ b
    later = max_at_most q.vtime s.cpu.block.v b h o.v

    deadline : e.vd ≤ u
    deadline = let z : e.vtime ≤ b = later in let y : whole_slice q.prio ≤ max_whole_slice = slice_at_most q.prio in omega arith

    entered_below : ContextBelow t u e
    entered_below =
        record {
          schedule_time = g.schedule_time;
          switch_time = g.switch_time;
          active_cpu_time = g.active_cpu_time;
          sched_cpu_time = g.sched_cpu_time;
          wake = g.wake;
          vtime = (let z : e.vtime ≤ b = later in omega arith);
          vd = deadline;
          key_vd = deadline;
        }

    -- what holds of the entries and of the new one
    entries : (P : Entry → Type 0) → All P s.cpu.queue → P (entry_of x (weight q.prio) e) → All P (queue_insert (entry_of x (weight q.prio) e) (without_old_key q s.cpu.queue))
    entries P a p = all_insert entry_before P (entry_of x (weight q.prio) e) (without_old_key q s.cpu.queue) p (rest q.has_queue_key)
      where
        rest : (k : Bool) → All P (if k then queue_remove (queue_key q) s.cpu.queue else s.cpu.queue)
        rest true = all_remove entry_before P (keyed (queue_key q)) s.cpu.queue a
        rest false = a

    enter_below : StateBelow n t u (enter x q s)
    unfolding enter
    enter_below =
        let Q : List Entry = queue_insert (entry_of x (weight q.prio) e) (without_old_key q s.cpu.queue)
        in record {
          context = λ y z. get_d_set s.contexts x y e no_context (ContextBelow t u) entered_below (f.context y z);
          cpu = record {
            schedule_time = f.cpu.schedule_time;
            pit_ticks = f.cpu.pit_ticks;
            user = f.cpu.user;
            kernel = f.cpu.kernel;
            idle = f.cpu.idle;
            context_switches = f.cpu.context_switches;
            syscall_switches = f.cpu.syscall_switches;
            v = f.cpu.v;
            total_weight = total q.is_active;
            entry_vtime = of_all (λ (y : Entry). y.vtime ≤ u) no_entry Q
                (entries (λ (y : Entry). y.vtime ≤ u) (all_of (λ (y : Entry). y.vtime ≤ u) no_entry s.cpu.queue f.cpu.entry_vtime) (let z : e.vtime ≤ b = later in omega arith));
            entry_vd = of_all (λ (y : Entry). y.key.vd ≤ u) no_entry Q
                (entries (λ (y : Entry). y.key.vd ≤ u) (all_of (λ (y : Entry). y.key.vd ≤ u) no_entry s.cpu.queue f.cpu.entry_vd) deadline);
            timer_wake = f.cpu.timer_wake;
          };
        }
      where
        total : (a : Bool) → (if a then s.cpu.block.total_weight else s.cpu.block.total_weight + weight q.prio) ≤ u
        total true = f.cpu.total_weight
        total false = omega (arith, o.total_weight, weight_at_most q.prio)

  pub serve_below : (k : Wakeup) → k.context_ref < n → WakeBelow t k.wake → StateBelow n t u (serve_wakeup s k)
  unfolding serve_wakeup wake_as
  serve_below k h g =
      let x : ℕ = k.context_ref
      in let q : Context = woken_by k.wake (at s k.context_ref)
      in let a : ContextBelow t u (woken_by k.wake (at s k.context_ref)) = woken_below k.wake (at s k.context_ref) (f.context k.context_ref h)
      in let l : (woken_by k.wake (at s k.context_ref)).vtime ≤ b = rw (woken_vtime k.wake (at s k.context_ref)) (o.vtime k.context_ref h)
      in wakeup_cases s k (λ r. StateBelow n t u (wake_as s k r))
      f
      (λ y. back_below k.wake k.context_ref g)
      (λ y z v. enter_below k.context_ref (woken_by k.wake (at s k.context_ref)) a l)
      (λ y z. put_below k.context_ref (woken_by k.wake (at s k.context_ref)) a)
