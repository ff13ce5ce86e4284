-- Bounds for what grows, through the parts of a stage and through a stage. Assumes nothing.
use mathlib.Core.Path.{◌≡◌, refl, sym, ap, ◌∙◌, subst}
use mathlib.Core.Bool.{Bool, true, false, not}
use Prim.Native.Nat.{ℕ, zero, suc, ◌+◌, ◌<◌, ◌≤◌}
use native.Mathlib.Omega.{arith}
use mathlib.Core.List.{List, [], ◌∷◌, ◌++◌}
use lib.ListN.{length, get_or, set}
use Rattle.columns.specs.Common.{All}
use Rattle.columns.proofs.Keep.{all_keep}
use Rattle.context.specs.declared.Context.{Context}
use Rattle.entries.specs.declared.Entry.{Entry}
use Rattle.entries.specs.declared.Key.{Key}
use Rattle.entries.specs.declared.Timer.{Timer}
use Rattle.entries.specs.Order.{entry_before, sooner, superseded}
use Rattle.entries.specs.Queue.{queue_insert, queue_remove, timer_insert, without_superseded, keyed}
use Rattle.percpu.specs.declared.PercpuBlock.{PercpuBlock}
use Rattle.percpu.specs.Cpu.{Cpu}
use Rattle.percpu.specs.With.{cpu_block, cpu_queue, cpu_queue_len, cpu_timers}
use Rattle.percpu.specs.Layout.{no_entry, no_timer}
use Rattle.machine.specs.Machine.{Machine, context_at, cpu_at, no_context, no_cpu}
use Rattle.machine.specs.Encode.{encode}
use Rattle.machine.specs.Shape.{Fits}
use Rattle.machine.proofs.Steps.{get_d_set}
use Rattle.model.specs.State.{State, state_of, put_context, insert_entry, insert_timer, insert_newest_timer, push_local, remove_key}
use Rattle.model.proofs.Sorted.{all_insert, all_remove}
use Rattle.stages.specs.Stage.{put_state, Stage, ContextBelow, CpuBelow, StateBelow, Below, Ranged}
use Rattle.stages.proofs.Fitting.{all_of, of_all}

-- larger bounds
module _ {t b t' b' : ℕ} (h : t ≤ t') (g : b ≤ b') where
  pub context_more : {x : Context} → ContextBelow t b x → ContextBelow t' b' x
  context_more o =
      record {
        schedule_time = omega (arith, o.schedule_time);
        switch_time = omega (arith, o.switch_time);
        active_cpu_time = omega (arith, o.active_cpu_time);
        sched_cpu_time = omega (arith, o.sched_cpu_time);
        wake = omega (arith, o.wake);
        vtime = omega (arith, o.vtime);
        vd = omega (arith, o.vd);
        key_vd = omega (arith, o.key_vd);
      }

  pub cpu_more : {p : Cpu} → CpuBelow t b p → CpuBelow t' b' p
  cpu_more o =
      record {
        schedule_time = omega (arith, o.schedule_time);
        pit_ticks = omega (arith, o.pit_ticks);
        user = omega (arith, o.user);
        kernel = omega (arith, o.kernel);
        idle = omega (arith, o.idle);
        context_switches = omega (arith, o.context_switches);
        syscall_switches = omega (arith, o.syscall_switches);
        v = omega (arith, o.v);
        total_weight = omega (arith, o.total_weight);
        entry_vtime = λ i l. omega (arith, o.entry_vtime i l);
        entry_vd = λ i l. omega (arith, o.entry_vd i l);
        timer_wake = λ i l. omega (arith, o.timer_wake i l);
      }

  pub state_more : {n : ℕ} {s : State} → StateBelow n t b s → StateBelow n t' b' s
  state_more o = record { context = λ x l. context_more (o.context x l); cpu = cpu_more o.cpu }

  pub ranged_more : {c n : ℕ} {m : List ℕ} → Ranged c n t b m → Ranged c n t' b' m
  ranged_more r =
      record {
        M = r.M;
        eq = r.eq;
        fits = r.fits;
        below = record { context = λ x l. context_more (r.below.context x l); cpu = λ k l. cpu_more (r.below.cpu k l) };
      }

  put_below : {c n : ℕ} (k : ℕ) (s : State) (M : Machine) → StateBelow n t' b' s → Below c n t b M → Below c n t' b' (put_state k s M)
  unfolding cpu_at
  put_below k s M a o =
      record {
        context = a.context;
        cpu = λ j l. get_d_set M.cpus k j s.cpu no_cpu (CpuBelow t' b') a.cpu (cpu_more (o.cpu j l));
      }

  -- through a stage that had room, by what its definition adds
  pub ranged_stage : {R : Type 0} {c n k : ℕ} {m m' : List ℕ} {r : R} {f : State → State} {q : State → R} → k < c → Stage c n k m m' false r f q
      → ((M : Machine) → Fits c n M → StateBelow n t b (state_of k M) → StateBelow n t' b' (f (state_of k M))) → Ranged c n t b m → Ranged c n t' b' m'
  ranged_stage {k = k} {f = f} l u a r =
      let z = u.stage r.M r.eq r.fits
      in record {
        M = put_state k (f (state_of k r.M)) r.M;
        eq = z.after refl;
        fits = z.fits refl;
        below = put_below k (f (state_of k r.M)) r.M (a r.M r.fits (record { context = r.below.context; cpu = r.below.cpu k l })) r.below;
      }

-- the parts of a stage
module _ {n t b : ℕ} (s : State) (o : StateBelow n t b s) where
  pub context_kept : (x : ℕ) (q : Context) → ContextBelow t b q → StateBelow n t b (put_context x q s)
  context_kept x q f = record { context = λ y l. get_d_set s.contexts x y q no_context (ContextBelow t b) f (o.context y l); cpu = o.cpu }

  queue_kept : (q : List Entry) (len : ℕ) → All (λ (e : Entry). e.vtime ≤ b) q → All (λ (e : Entry). e.key.vd ≤ b) q → CpuBelow t b (cpu_queue_len len (cpu_queue q s.cpu))
  queue_kept q len u w =
      record {
        schedule_time = o.cpu.schedule_time;
        pit_ticks = o.cpu.pit_ticks;
        user = o.cpu.user;
        kernel = o.cpu.kernel;
        idle = o.cpu.idle;
        context_switches = o.cpu.context_switches;
        syscall_switches = o.cpu.syscall_switches;
        v = o.cpu.v;
        total_weight = o.cpu.total_weight;
        entry_vtime = of_all (λ (e : Entry). e.vtime ≤ b) no_entry q u;
        entry_vd = of_all (λ (e : Entry). e.key.vd ≤ b) no_entry q w;
        timer_wake = o.cpu.timer_wake;
      }

  vtimes : All (λ (e : Entry). e.vtime ≤ b) s.cpu.queue
  vtimes = all_of (λ (e : Entry). e.vtime ≤ b) no_entry s.cpu.queue o.cpu.entry_vtime

  deadlines : All (λ (e : Entry). e.key.vd ≤ b) s.cpu.queue
  deadlines = all_of (λ (e : Entry). e.key.vd ≤ b) no_entry s.cpu.queue o.cpu.entry_vd

  pub entry_kept : (e : Entry) → e.vtime ≤ b → e.key.vd ≤ b → StateBelow n t b (insert_entry e s)
  entry_kept e u w =
      record {
        context = o.context;
        cpu = queue_kept (queue_insert e s.cpu.queue) _ (all_insert entry_before (λ (e : Entry). e.vtime ≤ b) e s.cpu.queue u vtimes) (all_insert entry_before (λ (e : Entry). e.key.vd ≤ b) e s.cpu.queue w deadlines);
      }

  pub removal_kept : (k : Key) → StateBelow n t b (remove_key k s)
  removal_kept k =
      record {
        context = o.context;
        cpu = queue_kept (queue_remove k s.cpu.queue) _ (all_remove entry_before (λ (e : Entry). e.vtime ≤ b) (keyed k) s.cpu.queue vtimes) (all_remove entry_before (λ (e : Entry). e.key.vd ≤ b) (keyed k) s.cpu.queue deadlines);
      }

  timers_kept : (l : List Timer) → All (λ (y : Timer). y.wake ≤ t) l → CpuBelow t b (cpu_timers l s.cpu)
  timers_kept l w =
      record {
        schedule_time = o.cpu.schedule_time;
        pit_ticks = o.cpu.pit_ticks;
        user = o.cpu.user;
        kernel = o.cpu.kernel;
        idle = o.cpu.idle;
        context_switches = o.cpu.context_switches;
        syscall_switches = o.cpu.syscall_switches;
        v = o.cpu.v;
        total_weight = o.cpu.total_weight;
        entry_vtime = o.cpu.entry_vtime;
        entry_vd = o.cpu.entry_vd;
        timer_wake = of_all (λ (y : Timer). y.wake ≤ t) no_timer l w;
      }

  wakes : All (λ (y : Timer). y.wake ≤ t) s.cpu.timers
  wakes = all_of (λ (y : Timer). y.wake ≤ t) no_timer s.cpu.timers o.cpu.timer_wake

  pub timer_kept : (x : Timer) → x.wake ≤ t → StateBelow n t b (insert_timer x s)
  timer_kept x u =
      record { context = o.context; cpu = timers_kept (timer_insert x s.cpu.timers) (all_insert sooner (λ (y : Timer). y.wake ≤ t) x s.cpu.timers u wakes) }

  pub newest_kept : (x : Timer) → x.wake ≤ t → StateBelow n t b (insert_newest_timer x s)
  newest_kept x u =
      let l : List Timer = without_superseded x s.cpu.timers
      in record {
        context = o.context;
        cpu = timers_kept (timer_insert x l) (all_insert sooner (λ (y : Timer). y.wake ≤ t) x l u (all_keep (λ (y : Timer). not (superseded x y)) (λ (y : Timer). y.wake ≤ t) s.cpu.timers wakes));
      }

  pub name_kept : (x : ℕ) → StateBelow n t b (push_local x s)
  name_kept x =
      record {
        context = o.context;
        cpu = record {
          schedule_time = o.cpu.schedule_time;
          pit_ticks = o.cpu.pit_ticks;
          user = o.cpu.user;
          kernel = o.cpu.kernel;
          idle = o.cpu.idle;
          context_switches = o.cpu.context_switches;
          syscall_switches = o.cpu.syscall_switches;
          v = o.cpu.v;
          total_weight = o.cpu.total_weight;
          entry_vtime = o.cpu.entry_vtime;
          entry_vd = o.cpu.entry_vd;
          timer_wake = o.cpu.timer_wake;
        };
      }
