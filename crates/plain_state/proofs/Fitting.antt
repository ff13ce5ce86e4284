-- A state that fits goes on fitting through each step; placed, it is within the bounds of the kernel's. Assumes nothing.
use mathlib.Core.Path.{◌∙◌}
use mathlib.Core.Bool.{Bool, not}
use mathlib.Core.List.{[], ◌∷◌, ◌++◌}
use Prim.Native.Nat.{ℕ, ◌<◌, ◌≤◌}
use lib.ListN.{length, length-set, length-map}
use Rattle.columns.specs.Common.{keep}
use Rattle.columns.proofs.Keep.{all_keep}
use Rattle.context.specs.declared.Context.{Context}
use Rattle.entries.specs.declared.Key.{Key}
use Rattle.entries.specs.declared.Entry.{Entry}
use Rattle.entries.specs.declared.Timer.{Timer}
use Rattle.entries.specs.Order.{entry_before, sooner, superseded}
use Rattle.entries.specs.Queue.{keyed, without_superseded}
use Rattle.entries.proofs.Ordered.{entries_ordered, timers_ordered}
use Rattle.percpu.specs.declared.PercpuBlock.{PercpuBlock}
use Rattle.percpu.specs.Cpu.{Cpu}
use Rattle.percpu.specs.With.{cpu_block, cpu_timers}
use Rattle.percpu.specs.Layout.{no_entry, no_timer}
use Rattle.machine.specs.Machine.{no_context}
use Rattle.machine.specs.Shape.{ContextFits, EntryFits, CpuFits}
use Rattle.machine.proofs.Steps.{get_d_set}
use Rattle.model.specs.State.{State, put_context, on_cpu, push_local}
use Rattle.stages.specs.Read.{BlockFits}
use Rattle.stages.proofs.Fitting.{of_all}
use Rattle.plain_model.specs.Rank.{by_rank, put_in}
use Rattle.plain_model.specs.State.{insert_entry, insert_timer, insert_newest_timer, queue_without, remove_key, placed_cpu}
use Rattle.plain_model.proofs.Ranked.{by_rank_sorted, keep_differs, length_by_rank}
use Rattle.plain_model.proofs.Placing.{put_in_differs, leave_out_differs}
use Rattle.plain_lists.specs.Lists.{entries_of}
use Rattle.plain_lists.proofs.Listing.{length_items}
use Rattle.plain_state.specs.States.{Names}
use Rattle.plain_state.specs.declared.State as code
use Rattle.plain_state.specs.States.{list_of, timer_of, state_in, NamesSized, Sound}
use Rattle.plain_state.specs.Fits.{CpuFitsInAnyOrder, StateFits}
pub use Rattle.plain_state.proofs.Parts.{all_behind, all_left, all_put, all_placed, queue_fits, timers_fit, local_fits, block_fits, remainder_fits}

-- the steps of a decision
module _ {n : ℕ} (s : State) (f : StateFits n s) where
  pub cpu_changed : (g : Cpu → Cpu) → CpuFitsInAnyOrder n (g s.cpu) → StateFits n (on_cpu g s)
  cpu_changed g o = record { contexts = f.contexts; context = f.context; cpu = o }

  -- a block whose names are in their range
  pub block_changed : (b : PercpuBlock) → BlockFits n b → StateFits n (on_cpu (cpu_block b) s)
  block_changed b o = cpu_changed (cpu_block b) (block_fits s.cpu f.cpu b o)

  pub context_put : (x : ℕ) (q : Context) → ContextFits 4 q → StateFits n (put_context x q s)
  context_put x q o =
      record {
        contexts = length-set s.contexts x q ∙ f.contexts;
        context = λ y h. get_d_set s.contexts x y q no_context (ContextFits 4) o (f.context y h);
        cpu = f.cpu;
      }

  pub entry_inserted : (e : Entry) → EntryFits n e → StateFits n (insert_entry e s)
  entry_inserted e o =
      record {
        contexts = f.contexts;
        context = f.context;
        cpu = queue_fits s.cpu f.cpu _ (put_in entry_before e s.cpu.queue) (all_put (EntryFits n) entry_before e s.cpu.queue o f.cpu.entries)
            (put_in_differs entries_ordered e s.cpu.queue f.cpu.differ.queue);
      }

  pub key_removed : (k : Key) → StateFits n (remove_key k s)
  key_removed k =
      record {
        contexts = f.contexts;
        context = f.context;
        cpu = queue_fits s.cpu f.cpu _ (queue_without k s.cpu.queue) (all_left (EntryFits n) entry_before (keyed k) s.cpu.queue f.cpu.entries)
            (leave_out_differs entries_ordered (keyed k) s.cpu.queue f.cpu.differ.queue);
      }

  pub timer_inserted : (t : Timer) → t.context_ref < n → StateFits n (insert_timer t s)
  timer_inserted t h =
      record {
        contexts = f.contexts;
        context = f.context;
        cpu = timers_fit s.cpu f.cpu (put_in sooner t s.cpu.timers) (all_put (λ (u : Timer). u.context_ref < n) sooner t s.cpu.timers h f.cpu.timers)
            (put_in_differs timers_ordered t s.cpu.timers f.cpu.differ.timers);
      }

  pub timers_kept : (g : Timer → Bool) → StateFits n (on_cpu (λ (p : Cpu). cpu_timers (keep g p.timers) p) s)
  timers_kept g =
      cpu_changed (λ (p : Cpu). cpu_timers (keep g p.timers) p)
      (timers_fit s.cpu f.cpu (keep g s.cpu.timers) (all_keep g (λ (u : Timer). u.context_ref < n) s.cpu.timers f.cpu.timers)
      (keep_differs timers_ordered g s.cpu.timers f.cpu.differ.timers))

  pub name_pushed : (x : ℕ) → x < n → StateFits n (push_local x s)
  name_pushed x h =
      record {
        contexts = f.contexts;
        context = f.context;
        cpu = local_fits s.cpu f.cpu (s.cpu.local_wakeup_list ++ (x ∷ [])) (all_behind (λ (y : ℕ). y < n) s.cpu.local_wakeup_list x f.cpu.local h);
      }

pub newest_inserted : {n : ℕ} (s : State) → StateFits n s → (t : Timer) → t.context_ref < n → StateFits n (insert_newest_timer t s)
newest_inserted s f t h =
    timer_inserted (on_cpu (λ (p : Cpu). cpu_timers (without_superseded t p.timers) p) s) (timers_kept s f (λ (u : Timer). not (superseded t u))) t h

-- placed, with lists that are not too long
module _ {n : ℕ} (p : Cpu) (o : CpuFitsInAnyOrder n p) where
  pub placed_fits : length p.queue ≤ 64 → length p.timers ≤ 64 → length p.local_wakeup_list ≤ 64 → length p.ipi_context_wakeup_list ≤ 64 → CpuFits n (placed_cpu p)
  placed_fits q t l i =
      record {
        current = o.current;
        sched = o.sched;
        idle = o.idle;
        queue = rw (length_by_rank entries_ordered p.queue) q;
        timers = rw (length_by_rank timers_ordered p.timers) t;
        local = l;
        ipi = i;
        entry = of_all (EntryFits n) no_entry (by_rank entry_before p.queue) (all_placed (EntryFits n) entries_ordered p.queue o.entries);
        timer = of_all (λ (u : Timer). u.context_ref < n) no_timer (by_rank sooner p.timers) (all_placed (λ (u : Timer). u.context_ref < n) timers_ordered p.timers o.timers);
        local_name = of_all (λ (x : ℕ). x < n) 0 p.local_wakeup_list o.local;
        ipi_name = of_all (λ (x : ℕ). x < n) 0 p.ipi_context_wakeup_list o.ipi;
        keys_rise = by_rank_sorted entries_ordered p.queue o.differ.queue;
        timers_rise = by_rank_sorted timers_ordered p.timers o.differ.timers;
        remainder = o.remainder;
      }

names_few : (l : Names) → NamesSized l → length (list_of l) ≤ 64
names_few l s = let u : l.len ≤ 64 = s.used in rw (length_items l s) u

-- the state of the code
pub sound_fits : {n : ℕ} (s : code.State) → Sound n s → StateFits n (state_in n s) → CpuFits n (placed_cpu (state_in n s).cpu)
sound_fits {n} s o f =
    let q : s.cpu.queue.len ≤ 64 = o.queue.used in
    let t : s.cpu.timers.len ≤ 64 = o.timers.used in
    placed_fits (state_in n s).cpu f.cpu (rw (length_items s.cpu.queue o.queue) q)
    (rw (length-map (entries_of s.cpu.timers) timer_of, length_items s.cpu.timers o.timers) t) (names_few s.cpu.local o.local) (names_few s.cpu.ipi o.ipi)
