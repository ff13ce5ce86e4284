-- What the advance, the holder's way back and the hand-over add to what grows. Assumes nothing.
use Rattle.std.specs.Prelude.{if◌then◌else◌, Option, is_some}
use mathlib.Core.Path.{◌≡◌, refl, sym, ap, ◌∙◌, subst}
use mathlib.Core.Bool.{Bool, true, false, not, ◌&&◌, ◌||◌}
use Prim.Native.Nat.{ℕ, ◌+◌, ◌-◌, ◌*◌, ◌/◌, ◌<◌, ◌≤◌}
use native.Mathlib.Omega.{arith}
use native.Mathlib.Nat.{div-le_self}
use lib.Dec.{eqb}
use Rattle.context.specs.declared.Context.{Context}
use Rattle.weights.specs.Weights.{weight}
use Rattle.percpu.specs.Cpu.{Cpu}
use Rattle.percpu.specs.With.{cpu_sched_ctxt}
use Rattle.machine.specs.Shape.{CpuFits}
use Rattle.model.specs.State.{State, at, put_context, on_cpu, remove_key, holder}
use Rattle.model.specs.Steal.{mark_stealable}
use Rattle.model.proofs.Cases.{pick}
use Rattle.stages.specs.Stage.{ContextBelow, CpuBelow, StateBelow}
use Rattle.stages.proofs.Kept.{context_more, cpu_more, state_more, context_kept, entry_kept, removal_kept}
use Rattle.handover.specs.Handed.{given_up, taken}
use Rattle.numbers.specs.Limits.{max_number}
use Rattle.stages.specs.Bounds.{t_counted, max_gain}
use Rattle.context.specs.Key.{queue_key, with_new_key, entry_of}
use Rattle.model.specs.Handover.{advance, requeue, hand_over}

pub advance_below : {n t b : ℕ} (runs : Bool) (w : Option ℕ) (ticks : ℕ) (s : State) → ticks ≤ max_gain → StateBelow n t b s → StateBelow n t (b + max_gain) (advance runs w ticks s)
unfolding advance
advance_below {n} {t} {b} runs w ticks s l o =
    let h : t ≤ t = omega arith
    in let g : b ≤ b + max_gain = omega arith
    in let u = cpu_more h g o.cpu
    in
    pick (StateBelow n t (b + max_gain)) ((is_some w || runs) && not (eqb s.cpu.block.total_weight 0))
    (λ e.
    record {
      context = λ x i. context_more h g (o.context x i);
      cpu = record {
        schedule_time = u.schedule_time;
        pit_ticks = u.pit_ticks;
        user = u.user;
        kernel = u.kernel;
        idle = u.idle;
        context_switches = u.context_switches;
        syscall_switches = u.syscall_switches;
        v = omega (arith, o.cpu.v, div-le_self ticks s.cpu.block.total_weight);
        total_weight = u.total_weight;
        entry_vtime = u.entry_vtime;
        entry_vd = u.entry_vd;
        timer_wake = u.timer_wake;
      };
    })
    (λ e. state_more h g o)

-- the CPU with other names and marks
same_numbers : {t b : ℕ} (p : Cpu) → CpuBelow t b p → CpuBelow t b (mark_stealable p)
same_numbers p o =
    record {
      schedule_time = o.schedule_time;
      pit_ticks = o.pit_ticks;
      user = o.user;
      kernel = o.kernel;
      idle = o.idle;
      context_switches = o.context_switches;
      syscall_switches = o.syscall_switches;
      v = o.v;
      total_weight = o.total_weight;
      entry_vtime = o.entry_vtime;
      entry_vd = o.entry_vd;
      timer_wake = o.timer_wake;
    }

pub stealable_below : {n t b : ℕ} (s : State) → StateBelow n t b s → StateBelow n t b (on_cpu mark_stealable s)
stealable_below s o = record { context = o.context; cpu = same_numbers s.cpu o.cpu }

module _ {n t b : ℕ} (s : State) (f : CpuFits n s.cpu) (o : StateBelow n t b s) where
  held : ContextBelow t b (holder s)
  held = o.context s.cpu.block.sched_ctxt f.sched

  keyed_below : ContextBelow t b (with_new_key (holder s))
  keyed_below =
      record {
        schedule_time = held.schedule_time;
        switch_time = held.switch_time;
        active_cpu_time = held.active_cpu_time;
        sched_cpu_time = held.sched_cpu_time;
        wake = held.wake;
        vtime = held.vtime;
        vd = held.vd;
        key_vd = held.vd;
      }

  abbrev without : State
  without = if (holder s).has_queue_key then remove_key (queue_key (holder s)) s else s

  without_below : StateBelow n t b without
  without_below = pick (StateBelow n t b) (holder s).has_queue_key (λ e. removal_kept s o (queue_key (holder s))) (λ e. o)

  pub requeue_below : StateBelow n t b (requeue s)
  unfolding requeue
  requeue_below =
      let x = s.cpu.block.sched_ctxt
      in
      entry_kept (put_context x (with_new_key (holder s)) without) (context_kept without without_below x (with_new_key (holder s)) keyed_below)
      (entry_of x (weight (holder s).prio) (holder s)) held.vtime held.vd

  module _ (time : ℕ) (was_idle : Bool) (l : time ≤ max_number) where
    abbrev later : ℕ
    later = t + t_counted

    given_below : ContextBelow later b (given_up time was_idle (holder s))
    given_below =
        let u : ContextBelow later b (holder s) = context_more (omega arith) (omega arith) held
        in record {
          schedule_time = u.schedule_time;
          switch_time = u.switch_time;
          active_cpu_time = u.active_cpu_time;
          sched_cpu_time = pick (λ (y : ℕ). y ≤ later) was_idle (λ e. u.sched_cpu_time) (λ e. omega (arith, held.sched_cpu_time));
          wake = u.wake;
          vtime = u.vtime;
          vd = u.vd;
          key_vd = u.key_vd;
        }

    taken_below : (q : Context) → ContextBelow later b q → ContextBelow later b (taken time q)
    taken_below q u =
        record {
          schedule_time = omega arith;
          switch_time = u.switch_time;
          active_cpu_time = u.active_cpu_time;
          sched_cpu_time = u.sched_cpu_time;
          wake = u.wake;
          vtime = u.vtime;
          vd = u.vd;
          key_vd = u.key_vd;
        }

    pub hand_over_below : (x : ℕ) → x < n → StateBelow n later b (hand_over time was_idle x s)
    unfolding hand_over
    hand_over_below x i =
        let s' : State = put_context s.cpu.block.sched_ctxt (given_up time was_idle (holder s)) s
        in let u : StateBelow n later b s' = context_kept s (state_more (omega arith) (omega arith) o) s.cpu.block.sched_ctxt (given_up time was_idle (holder s)) given_below
        in let w : StateBelow n later b (put_context x (taken time (at s' x)) s') = context_kept s' u x (taken time (at s' x)) (taken_below (at s' x) (u.context x i))
        in record {
          context = w.context;
          cpu = record {
            schedule_time = u.cpu.schedule_time;
            pit_ticks = u.cpu.pit_ticks;
            user = u.cpu.user;
            kernel = u.cpu.kernel;
            idle = u.cpu.idle;
            context_switches = u.cpu.context_switches;
            syscall_switches = u.cpu.syscall_switches;
            v = u.cpu.v;
            total_weight = u.cpu.total_weight;
            entry_vtime = u.cpu.entry_vtime;
            entry_vd = u.cpu.entry_vd;
            timer_wake = u.cpu.timer_wake;
          };
        }
