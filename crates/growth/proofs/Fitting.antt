-- A state that a stage of a decision left, put back into the machine, fits. Assumes nothing.
use mathlib.Core.Path.{◌≡◌, sym, ap, ◌∙◌, subst}
use mathlib.Core.Bool.{false}
use mathlib.Core.List.{List}
use Prim.Native.Nat.{ℕ, ◌<◌}
use native.Mathlib.Omega.{arith}
use lib.ListN.{length-set}
use Rattle.columns.proofs.Tests.{by_test}
use Rattle.context.specs.declared.Context.{Context}
use Rattle.percpu.specs.Cpu.{Cpu}
use Rattle.percpu.specs.Layout.{no_entry, no_timer}
use Rattle.machine.specs.Machine.{Machine, context_at, cpu_at, no_cpu}
use Rattle.machine.specs.Shape.{ContextFits, CpuFits, Fits}
use Rattle.machine.proofs.Steps.{get_d_set}
use Rattle.model.specs.State.{State, at}
use Rattle.stages.specs.Stage.{put_state}
use Rattle.stages.proofs.Fitting.{of_all}
use Rattle.model_leaves.proofs.WellFormed.{Fixed, EntryFormed, TimerFormed, view, CpuFormed, Room, WellFormed}
use Rattle.model_leaves.proofs.Kept.{KeptState}

cpu_fits : (n : ℕ) (cs : List Context) (p : Cpu) → CpuFormed n cs (view p) → Room (view p).lists → CpuFits n p
cpu_fits n cs p f r =
    let l = f.lists in
    record {
      current = f.scalars.current.below;
      sched = f.scalars.sched.below;
      idle = f.scalars.idle.below;
      queue = r.queue;
      timers = r.timers;
      local = r.local;
      ipi = r.ipi;
      entry = λ i h. let e = of_all (EntryFormed n cs) no_entry p.queue l.queue.each i h in record { name = e.name; light = e.light; heavy = e.heavy };
      timer = λ i h. (of_all (TimerFormed n) no_timer p.timers l.timers.each i h).name;
      local_name = of_all (λ (x : ℕ). x < n) 0 p.local_wakeup_list l.local;
      ipi_name = of_all (λ (x : ℕ). x < n) 0 p.ipi_context_wakeup_list l.ipi;
      keys_rise = l.queue.rise;
      timers_rise = l.timers.rise;
      remainder = f.scalars.remainder;
    }

module _ (c n : ℕ) (M : Machine) (W : WellFormed c n M) (F : Fits c n M) where
  -- a context of the state; a gone one is as it was
  pub context_fits : (s : State) → KeptState c n M.contexts s → (x : ℕ) → x < n → ContextFits c (at s x)
  context_fits s o x h =
      let a = o.context x h in
      by_test (context_at M.contexts x).gone (λ g. subst (ContextFits c) (sym (a.gone g)) (F.context x h))
      (λ g.
      let l = a.live g in
      record {
        cpu_id = l.cpu_id;
        prio = let e = ap (λ (y : Fixed). y.prio) a.same in omega (arith, (F.context x h).prio);
        rem_slice = l.rem_slice;
      })

  pub state_fits : (k : ℕ) (s : State) → KeptState c n M.contexts s → s.no_room ≡ false → Fits c n (put_state k s M)
  unfolding cpu_at
  state_fits k s o z =
      record {
        bounds = F.bounds;
        cpus = length-set M.cpus k s.cpu ∙ F.cpus;
        contexts = o.count;
        context = context_fits s o;
        cpu = λ j h. get_d_set M.cpus k j s.cpu no_cpu (CpuFits n) (cpu_fits n M.contexts s.cpu o.cpu (o.room z)) (F.cpu j h);
      }
