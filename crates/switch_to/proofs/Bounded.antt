-- What a switch adds to what grows. Assumes nothing.
use Rattle.std.specs.Prelude.{if◌then◌else◌, None, Option, Some}
use mathlib.Core.Path.{◌≡◌, refl, sym, ap, ◌∙◌, subst}
use mathlib.Core.Bool.{Bool, true, false, not, ◌&&◌}
use Prim.Native.Nat.{ℕ, ◌+◌, ◌-◌, ◌<◌, ◌≤◌}
use native.Mathlib.Omega.{arith}
use lib.Dec.{eqb}
use Rattle.context.specs.declared.Context.{Context}
use Rattle.runnable.specs.declared.UpdateResult.{UpdateResult}
use Rattle.runnable.specs.declared.UpdateResult.TheVariants.{CanSwitch, Skip, Blocked}
use Rattle.runnable.specs.Runnable.{update_runnable}
use Rattle.percpu.specs.declared.PercpuBlock.{PercpuBlock}
use Rattle.percpu.specs.Cpu.{Cpu}
use Rattle.percpu.specs.With.{cpu_block}
use Rattle.machine.specs.Shape.{ContextFits, CpuFits}
use Rattle.model.specs.State.{State, at, put_context, on_cpu, push_local}
use Rattle.model.specs.SwitchTo.{comes, switch_to, direct_switch_by, try_direct_switch_back}
use Rattle.model.proofs.Cases.{pick}
use Rattle.stages.specs.Stage.{ContextBelow, CpuBelow, StateBelow}
use Rattle.stages.proofs.Kept.{context_more, cpu_more, state_more, context_kept, name_kept}
use Rattle.switch_to.specs.Switched.{is_lost, saved_by, left_by, current_by, entered, switched_by}
use Rattle.switch_to.specs.Direct.{or_same}
use Rattle.switch_to.proofs.Switching.{at_values}
use Rattle.switch_to.proofs.Directly.{Good, update_good}
use Rattle.numbers.specs.Limits.{max_number}
use Rattle.stages.specs.Bounds.{t_counted}

-- the block of p, with other names and marks, on a CPU with the same bounds
current_below : {t b : ℕ} (x : ℕ) (q : Context) (p p' : Cpu) → CpuBelow t b p → CpuBelow t b p' → CpuBelow t b (cpu_block (current_by x q p.block) p')
current_below x q p p' o u =
    record {
      schedule_time = o.schedule_time;
      pit_ticks = o.pit_ticks;
      user = o.user;
      kernel = o.kernel;
      idle = o.idle;
      context_switches = o.context_switches;
      syscall_switches = o.syscall_switches;
      v = o.v;
      total_weight = o.total_weight;
      entry_vtime = u.entry_vtime;
      entry_vd = u.entry_vd;
      timer_wake = u.timer_wake;
    }

module _ (k time : ℕ) (l : time ≤ max_number) where
  left_below : {t b : ℕ} (a : PercpuBlock) (q : Context) → ContextBelow t b q → ContextBelow (t + t_counted) b (left_by time a q)
  left_below {t} {b} a q o =
      let u : ContextBelow (t + t_counted) b q = context_more (omega arith) (omega arith) o
      in record {
        schedule_time = u.schedule_time;
        switch_time = u.switch_time;
        active_cpu_time = pick (λ (y : ℕ). y ≤ t + t_counted) (eqb a.current_ctxt a.idle_ctxt) (λ e. u.active_cpu_time) (λ e. omega (arith, o.active_cpu_time));
        sched_cpu_time = u.sched_cpu_time;
        wake = u.wake;
        vtime = u.vtime;
        vd = u.vd;
        key_vd = u.key_vd;
      }

  comes_below : {t b : ℕ} (q : Context) → time ≤ t → ContextBelow t b q → ContextBelow t b (comes k time q)
  comes_below q h o =
      record {
        schedule_time = o.schedule_time;
        switch_time = h;
        active_cpu_time = o.active_cpu_time;
        sched_cpu_time = o.sched_cpu_time;
        wake = o.wake;
        vtime = o.vtime;
        vd = o.vd;
        key_vd = o.key_vd;
      }

  module _ {n t b : ℕ} (x : ℕ) (i : x < n) (s : State) (f : CpuFits n s.cpu) (o : StateBelow n t b s) where
    abbrev y : ℕ
    y = s.cpu.block.current_ctxt

    saved_below : StateBelow n t b (saved_by y s.cpu.block (at s y) s)
    saved_below = pick (StateBelow n t b) (is_lost s.cpu.block (at s y)) (λ e. name_kept s o y) (λ e. o)

    pub switch_to_below : StateBelow n (t + t_counted) b (switch_to k time x s)
    unfolding switched_by entered
    switch_to_below = subst (StateBelow n (t + t_counted) b) (at_values k time x s) by_read
      where
        after : State
        after = put_context y (left_by time s.cpu.block (at s y)) (saved_by y s.cpu.block (at s y) s)

        after_below : StateBelow n (t + t_counted) b after
        after_below =
            context_kept (saved_by y s.cpu.block (at s y) s) (state_more (omega arith) (omega arith) saved_below) y (left_by time s.cpu.block (at s y))
            (left_below s.cpu.block (at s y) (o.context y f.current))

        by_read : StateBelow n (t + t_counted) b (switched_by k time x y s.cpu.block (at s y) s)
        by_read =
            let w = context_kept after after_below x (comes k time (at after x)) (comes_below (at after x) (omega arith) (after_below.context x i))
            in record {
              context = w.context;
              cpu = current_below x (comes k time (at after x)) s.cpu after.cpu (cpu_more (omega arith) (omega arith) o.cpu) after_below.cpu;
            }

  -- a direct switch, if one is made
  module _ {c n t b : ℕ} (x : ℕ) (i : x < n) (s : State) (f : CpuFits n s.cpu) (g : ContextFits c (at s x)) (o : StateBelow n t b s) where
    by_result : (v : UpdateResult) → Good c t b v → StateBelow n (t + t_counted) b (or_same s (direct_switch_by k time x s v))
    unfolding direct_switch_by
    by_result (CanSwitch r) u = switch_to_below x i (put_context x r s) f (context_kept s o x r u.1)
    by_result Skip u = state_more (omega arith) (omega arith) o
    by_result Blocked u = state_more (omega arith) (omega arith) o

    pub direct_below : (own current : Bool) → StateBelow n (t + t_counted) b (or_same s (direct_switch_by k time x s (update_runnable k time own current (at s x))))
    direct_below own current = by_result _ (update_good c t b k time own current (at s x) g (o.context x i))

  pub switch_back_below : {c n t b : ℕ} (s : State) (f : CpuFits n s.cpu) → ((x : ℕ) → x < n → ContextFits c (at s x)) → StateBelow n t b s
      → StateBelow n (t + t_counted) b (or_same s (try_direct_switch_back k time s))
  unfolding try_direct_switch_back
  switch_back_below {n = n} {t = t} {b = b} s f g o =
      let x = s.cpu.block.sched_ctxt
      in
      pick (λ (r : Option State). StateBelow n (t + t_counted) b (or_same s r)) (eqb s.cpu.block.current_ctxt x) (λ e. state_more (omega arith) (omega arith) o)
      (λ e. direct_below x f.sched s f (g x f.sched) o true false)
