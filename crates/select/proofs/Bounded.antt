-- The scan, the clean-up and the choice keep the bounds of what grows. Assumes nothing.
use Rattle.std.specs.Prelude.{None, Option, Some}
use mathlib.Core.Bool.{◌&&◌, ◌||◌}
use mathlib.Core.List.{List}
use Prim.Native.Nat.{ℕ, ◌-◌, ◌<◌, ◌≤◌}
use native.Mathlib.Omega.{arith}
use lib.Dec.{leb}
use Rattle.columns.specs.Common.{All}
use Rattle.entries.specs.declared.Key.{Key}
use Rattle.entries.specs.declared.Entry.{Entry}
use Rattle.entries.specs.Order.{entry_before}
use Rattle.entries.specs.Queue.{keyed, queue_remove}
use Rattle.percpu.specs.Cpu.{Cpu}
use Rattle.percpu.specs.Layout.{no_entry}
use Rattle.percpu.specs.With.{cpu_queue, cpu_queue_len, cpu_total_weight, cpu_published_weight, cpu_v}
use Rattle.machine.specs.Machine.{context_at}
use Rattle.model.specs.State.{State, at, on_cpu, holder, prev_runnable}
use Rattle.model.specs.Scan.{Scan}
use Rattle.model.specs.Choice.{Choice, without_keys, cleaned_up, goes_before, prev_is_eligible, ineligible_holder, nobody, choice_by, choice, taken_out, chosen}
use Rattle.model.specs.Schedule.{scanned}
use Rattle.model.proofs.Lists.{fold_keeps}
use Rattle.model.proofs.Sorted.{all_remove}
use Rattle.stages.specs.Stage.{CpuBelow, StateBelow}
use Rattle.stages.proofs.Fitting.{all_of, of_all}
use Rattle.select.proofs.ScanBounded.{pick, Kept, set_kept, unkeyed, LateBelow, below_scan}
use Rattle.context.specs.Key.{queue_key, without_key}

module _ (n t b : ℕ) where
  -- V after the choice
  module _ (s : State) (f : Scan) (o : StateBelow n t b s) (l : s.cpu.block.sched_ctxt < n) (g : LateBelow n t b f.ineligible_best) where
    abbrev v_below : Choice → Type 0
    v_below w = w.v ≤ b

    here : (holder s).vtime ≤ b
    here = (o.context s.cpu.block.sched_ctxt l).vtime

    below_nobody : (late : Option Entry) → LateBelow n t b late → v_below (nobody s late)
    below_nobody None z = pick (λ (x : ℕ). x ≤ b) (prev_runnable s) here o.cpu.v
    below_nobody (Some e) z =
        pick v_below (prev_runnable s && (leb (holder s).vtime e.vtime || leb (holder s).vd e.key.vd)) z z

    below_by_best : (best : Option Entry) → v_below (choice_by s f best)
    below_by_best None = pick v_below (prev_is_eligible s) o.cpu.v (below_nobody f.ineligible_best g)
    below_by_best (Some e) = pick v_below (prev_is_eligible s && goes_before (holder s) (context_at f.contexts e.context_ref)) o.cpu.v o.cpu.v

    below_choice : v_below (choice s f)
    unfolding choice
    below_choice = below_by_best f.eligible_best

  -- entries leave the queue
  abbrev EntryBelow : Entry → Type 0
  EntryBelow e = (e.vtime ≤ b) × (e.key.vd ≤ b)

  entries : (p : Cpu) → CpuBelow t b p → All EntryBelow p.queue
  entries p o = all_of EntryBelow no_entry p.queue (λ i h. (o.entry_vtime i h, o.entry_vd i h))

  removed : (k : Key) (q : List Entry) → All EntryBelow q → All EntryBelow (queue_remove k q)
  removed k q a = all_remove entry_before EntryBelow (keyed k) q a

  below_queue : (len : ℕ) (q : List Entry) (p : Cpu) → All EntryBelow q → CpuBelow t b p → CpuBelow t b (cpu_queue_len len (cpu_queue q p))
  below_queue len q p a o =
      record {
        schedule_time = o.schedule_time;
        pit_ticks = o.pit_ticks;
        user = o.user;
        kernel = o.kernel;
        idle = o.idle;
        context_switches = o.context_switches;
        syscall_switches = o.syscall_switches;
        v = o.v;
        total_weight = o.total_weight;
        entry_vtime = λ i h. (of_all EntryBelow no_entry q a i h).0;
        entry_vd = λ i h. (of_all EntryBelow no_entry q a i h).1;
        timer_wake = o.timer_wake;
      }

  below_cleaned : (f : Scan) (v : ℕ) (s : State) → v ≤ b → Kept n t b f.contexts → StateBelow n t b s → StateBelow n t b (on_cpu (cpu_v v) (cleaned_up f s))
  unfolding cleaned_up
  below_cleaned f v s l c o =
      record {
        context = c;
        cpu =
            below_queue _ (without_keys s.cpu.queue f.contexts_to_remove) (cpu_v v (cpu_total_weight left (cpu_published_weight left s.cpu)))
            (fold_keeps (All EntryBelow) (λ (q : List Entry) (k : Key). queue_remove k q) (λ q k a. removed k q a) s.cpu.queue f.contexts_to_remove (entries s.cpu o.cpu))
            (record {
              schedule_time = o.cpu.schedule_time;
              pit_ticks = o.cpu.pit_ticks;
              user = o.cpu.user;
              kernel = o.cpu.kernel;
              idle = o.cpu.idle;
              context_switches = o.cpu.context_switches;
              syscall_switches = o.cpu.syscall_switches;
              v = l;
              total_weight = omega (arith, o.cpu.total_weight);
              entry_vtime = o.cpu.entry_vtime;
              entry_vd = o.cpu.entry_vd;
              timer_wake = o.cpu.timer_wake;
            });
      }
    where
      left : ℕ
      left = s.cpu.block.total_weight - f.weight_change

  below_taken : (x : Option ℕ) (s : State) → StateBelow n t b s → StateBelow n t b (taken_out x s)
  below_taken None s o = o
  below_taken (Some x) s o =
      pick (StateBelow n t b) (at s x).has_queue_key
      (record {
        context = set_kept n t b s.contexts x (without_key (at s x)) (λ l. unkeyed n t b (at s x) (o.context x l)) o.context;
        cpu = below_queue _ (queue_remove (queue_key (at s x)) s.cpu.queue) s.cpu (removed (queue_key (at s x)) s.cpu.queue (entries s.cpu o.cpu)) o.cpu;
      })
      o

  -- the whole stage, at any bounds
  pub below_chosen : (k time : ℕ) (s : State) → s.cpu.block.sched_ctxt < n → StateBelow n t b s → StateBelow n t b (chosen (choice s (scanned k time s)) (scanned k time s) s)
  unfolding chosen
  below_chosen k time s l o =
      let f = scanned k time s
      in let a = below_scan n t b k time s.cpu (ineligible_holder s) s.contexts s.cpu.queue o.context (all_of (λ (e : Entry). e.vtime ≤ b) no_entry s.cpu.queue o.cpu.entry_vtime)
      in below_taken (choice s f).winner _ (below_cleaned f (choice s f).v s (below_choice s f o l a.1) a.0 o)
