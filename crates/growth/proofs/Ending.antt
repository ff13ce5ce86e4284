-- What the end of a decision adds to what grows: the slice changes hands, the CPU switches. Assumes nothing.
use Rattle.std.specs.Prelude.{None, Option, Some}
use mathlib.Core.Path.{subst}
use mathlib.Core.Bool.{Bool, true, false}
use Prim.Native.Nat.{ℕ, ◌+◌, ◌<◌, ◌≤◌}
use native.Mathlib.Omega.{arith}
use lib.Dec.{eqb}
use Rattle.context.specs.declared.Context.{Context}
use Rattle.runnable.specs.declared.UpdateResult.{UpdateResult}
use Rattle.runnable.specs.declared.UpdateResult.TheVariants.{CanSwitch, Skip, Blocked}
use Rattle.runnable.specs.Runnable.{update_runnable}
use Rattle.percpu.specs.declared.PercpuBlock.{PercpuBlock}
use Rattle.percpu.specs.Cpu.{Cpu}
use Rattle.percpu.specs.With.{cpu_block}
use Rattle.machine.specs.Shape.{ContextFits}
use Rattle.model.specs.State.{State, at, put_context, holder}
use Rattle.model.specs.SwitchTo.{comes, switch_to, direct_switch_by, try_direct_switch_back}
use Rattle.model.specs.Handover.{hand_over}
use Rattle.model.proofs.Cases.{pick}
use Rattle.stages.specs.Stage.{ContextBelow, CpuBelow, StateBelow}
use Rattle.stages.proofs.Kept.{context_more, cpu_more, state_more, context_kept, name_kept}
use Rattle.handover.specs.Handed.{given_up, taken}
use Rattle.switch_to.specs.Switched.{is_lost, saved_by, left_by, current_by, entered, switched_by}
use Rattle.switch_to.proofs.Switching.{at_values}
use Rattle.switch_to.proofs.Directly.{Good, update_good}
use Rattle.growth.proofs.Low.{Low, low_more}

module _ (n t b time : ℕ) where
  taken_below : (q : Context) → ContextBelow (t + time) b q → ContextBelow (t + time) b (taken time q)
  taken_below q u =
      record {
        schedule_time = omega arith;
        switch_time = u.switch_time;
        active_cpu_time = u.active_cpu_time;
        sched_cpu_time = u.sched_cpu_time;
        wake = u.wake;
        vtime = u.vtime;
        vd = u.vd;
        key_vd = u.key_vd;
      }

  given_below : (was_idle : Bool) (q : Context) → ContextBelow t b q → ContextBelow (t + time) b (given_up time was_idle q)
  given_below was_idle q o =
      let u : ContextBelow (t + time) b q = context_more (omega arith) (omega arith) o in
      record {
        schedule_time = u.schedule_time;
        switch_time = u.switch_time;
        active_cpu_time = u.active_cpu_time;
        sched_cpu_time = pick (λ (y : ℕ). y ≤ (t + time)) was_idle (λ e. u.sched_cpu_time) (λ e. omega (arith, o.sched_cpu_time));
        wake = u.wake;
        vtime = u.vtime;
        vd = u.vd;
        key_vd = u.key_vd;
      }

  pub hand_over_low : (was_idle : Bool) (x : ℕ) (s : State) → s.cpu.block.sched_ctxt < n → x < n → Low n t b s → Low n (t + time) b (hand_over time was_idle x s)
  unfolding hand_over
  hand_over_low was_idle x s f i l =
      let y : ℕ = s.cpu.block.sched_ctxt in
      let q : Context = given_up time was_idle (holder s) in
      let s' : State = put_context y q s in
      let m : Low n (t + time) b s = low_more (omega arith) (omega arith) l in
      let u : StateBelow n (t + time) b s' = context_kept s m.below y q (given_below was_idle (holder s) (l.below.context y f)) in
      let w : StateBelow n (t + time) b (put_context x (taken time (at s' x)) s') = context_kept s' u x (taken time (at s' x)) (taken_below (at s' x) (u.context x i)) in
      record {
        below = record {
          context = w.context;
          cpu = record {
            schedule_time = u.cpu.schedule_time;
            pit_ticks = u.cpu.pit_ticks;
            user = u.cpu.user;
            kernel = u.cpu.kernel;
            idle = u.cpu.idle;
            context_switches = u.cpu.context_switches;
            syscall_switches = u.cpu.syscall_switches;
            v = u.cpu.v;
            total_weight = u.cpu.total_weight;
            entry_vtime = u.cpu.entry_vtime;
            entry_vd = u.cpu.entry_vd;
            timer_wake = u.cpu.timer_wake;
          };
        };
        published = m.published;
      }

  left_below : (a : PercpuBlock) (q : Context) → ContextBelow t b q → ContextBelow (t + time) b (left_by time a q)
  left_below a q o =
      let u : ContextBelow (t + time) b q = context_more (omega arith) (omega arith) o in
      record {
        schedule_time = u.schedule_time;
        switch_time = u.switch_time;
        active_cpu_time = pick (λ (y : ℕ). y ≤ (t + time)) (eqb a.current_ctxt a.idle_ctxt) (λ e. u.active_cpu_time) (λ e. omega (arith, o.active_cpu_time));
        sched_cpu_time = u.sched_cpu_time;
        wake = u.wake;
        vtime = u.vtime;
        vd = u.vd;
        key_vd = u.key_vd;
      }

  comes_below : (k : ℕ) (q : Context) → ContextBelow (t + time) b q → ContextBelow (t + time) b (comes k time q)
  comes_below k q o =
      record {
        schedule_time = o.schedule_time;
        switch_time = omega arith;
        active_cpu_time = o.active_cpu_time;
        sched_cpu_time = o.sched_cpu_time;
        wake = o.wake;
        vtime = o.vtime;
        vd = o.vd;
        key_vd = o.key_vd;
      }

  -- the block of p, with other names and marks, on a CPU with the same bounds
  current_below : (x : ℕ) (q : Context) (p p' : Cpu) → CpuBelow (t + time) b p → CpuBelow (t + time) b p' → CpuBelow (t + time) b (cpu_block (current_by x q p.block) p')
  current_below x q p p' o u =
      record {
        schedule_time = o.schedule_time;
        pit_ticks = o.pit_ticks;
        user = o.user;
        kernel = o.kernel;
        idle = o.idle;
        context_switches = o.context_switches;
        syscall_switches = o.syscall_switches;
        v = o.v;
        total_weight = o.total_weight;
        entry_vtime = u.entry_vtime;
        entry_vd = u.entry_vd;
        timer_wake = u.timer_wake;
      }

  pub switch_to_low : (k x : ℕ) (s : State) → s.cpu.block.current_ctxt < n → x < n → Low n t b s → Low n (t + time) b (switch_to k time x s)
  unfolding switched_by entered
  switch_to_low k x s f i l = subst (Low n (t + time) b) (at_values k time x s) by_read
    where
      y : ℕ
      y = s.cpu.block.current_ctxt

      a : PercpuBlock
      a = s.cpu.block

      saved : StateBelow n t b (saved_by y a (at s y) s)
      saved = pick (StateBelow n t b) (is_lost a (at s y)) (λ e. name_kept s l.below y) (λ e. l.below)

      after : State
      after = put_context y (left_by time a (at s y)) (saved_by y a (at s y) s)

      after_below : StateBelow n (t + time) b after
      after_below = context_kept (saved_by y a (at s y) s) (state_more (omega arith) (omega arith) saved) y (left_by time a (at s y)) (left_below a (at s y) (l.below.context y f))

      by_read : Low n (t + time) b (switched_by k time x y a (at s y) s)
      by_read =
          let w = context_kept after after_below x (comes k time (at after x)) (comes_below k (at after x) (after_below.context x i)) in
          record {
            below = record {
              context = w.context;
              cpu = current_below x (comes k time (at after x)) s.cpu after.cpu (cpu_more (omega arith) (omega arith) l.below.cpu) after_below.cpu;
            };
            published = l.published;
          }

  -- a direct switch, if one is made
  abbrev pub MaybeLow : Option State → Type 0
  MaybeLow None = Unit {0}
  MaybeLow (Some s) = Low n (t + time) b s

  module _ {c : ℕ} (k x : ℕ) (s : State) (f : s.cpu.block.current_ctxt < n) (i : x < n) (g : ContextFits c (at s x)) (l : Low n t b s) where
    by_result : (v : UpdateResult) → Good c t b v → MaybeLow (direct_switch_by k time x s v)
    unfolding direct_switch_by
    by_result (CanSwitch r) u = switch_to_low k x (put_context x r s) f i (record { below = context_kept s l.below x r u.1; published = l.published })
    by_result Skip u = tt
    by_result Blocked u = tt

    pub direct_low : (own current : Bool) → MaybeLow (direct_switch_by k time x s (update_runnable k time own current (at s x)))
    direct_low own current = by_result _ (update_good c t b k time own current (at s x) g (l.below.context x i))

  pub back_low : {c : ℕ} (k : ℕ) (s : State) → s.cpu.block.current_ctxt < n → s.cpu.block.sched_ctxt < n → ContextFits c (at s s.cpu.block.sched_ctxt) → Low n t b s
      → MaybeLow (try_direct_switch_back k time s)
  unfolding try_direct_switch_back
  back_low {c} k s f h g l =
      let x = s.cpu.block.sched_ctxt in
      pick MaybeLow (eqb s.cpu.block.current_ctxt x) (λ e. tt) (λ e. direct_low k x s f h g l true false)
