-- What keeps a CPU in its ranges. Assumes nothing.
use mathlib.Core.Path.{◌≡◌, ◌∙◌}
use mathlib.Core.Bool.{Bool, false, ◌&&◌, ◌||◌}
use Prim.Native.Nat.{ℕ, zero, suc, ◌+◌, ◌<◌, ◌≤◌}
use native.Mathlib.Omega.{arith}
use mathlib.Core.List.{List, [], ◌∷◌, ◌++◌}
use lib.Dec.{ltb}
use lib.ListN.{length, get_or}
use borrow.Author.Tests.{ltb-false}
use Rattle.columns.specs.Common.{All, keep}
use Rattle.columns.proofs.Keep.{length_keep, all_keep}
use Rattle.columns.proofs.Tests.{by_test}
use Rattle.entries.specs.declared.Entry.{Entry}
use Rattle.entries.specs.declared.Key.{Key}
use Rattle.entries.specs.declared.Timer.{Timer}
use Rattle.entries.specs.Order.{entry_before, sooner}
use Rattle.entries.specs.Queue.{remove, queue_insert, queue_remove, timer_insert, keyed}
use Rattle.entries.specs.Sorted.{Sorted}
use Rattle.percpu.specs.declared.PercpuBlock.{PercpuBlock}
use Rattle.percpu.specs.Cpu.{Cpu}
use Rattle.percpu.specs.With.{cpu_block, cpu_queue, cpu_queue_len, cpu_timers, cpu_local_wakeup_list, cpu_remainder}
use Rattle.ticks.specs.Ticks.{max_remainder}
use Rattle.percpu.specs.Layout.{no_entry, no_timer}
use Rattle.machine.specs.Shape.{EntryFits, CpuFits}
use Rattle.model.proofs.Sorted.{all_insert, all_remove, insert_sorted, remove_sorted}
use Rattle.entries.proofs.Ordered.{entries_ordered, timers_ordered, sorted_keep}
use Rattle.stages.specs.Read.{BlockFits}

module _ {A : Type 0} (P : A → Type 0) (d : A) where
  pub all_of : (l : List A) → ((i : ℕ) → i < length l → P (get_or l i d)) → All P l
  all_of [] h = tt
  all_of (x ∷ xs) h = (h 0 (omega arith), all_of xs (λ i b. h (suc i) (omega arith)))

  pub of_all : (l : List A) → All P l → (i : ℕ) → i < length l → P (get_or l i d)
  of_all [] h i b = absurd (omega arith)
  of_all (x ∷ xs) h zero b = h.0
  of_all (x ∷ xs) h (suc i) b = of_all xs h.1 i (omega arith)

-- another queue, and a length published
pub fits_queue : (n len : ℕ) (q : List Entry) (p : Cpu) → CpuFits n p → length q ≤ 64 → All (EntryFits n) q → Sorted entry_before q → CpuFits n (cpu_queue_len len (cpu_queue q p))
fits_queue n len q p o l a s =
    record {
      current = o.current;
      sched = o.sched;
      idle = o.idle;
      queue = l;
      timers = o.timers;
      local = o.local;
      ipi = o.ipi;
      entry = of_all (EntryFits n) no_entry q a;
      timer = o.timer;
      local_name = o.local_name;
      ipi_name = o.ipi_name;
      keys_rise = s;
      timers_rise = o.timers_rise;
      remainder = o.remainder;
    }

entries_fit : (n : ℕ) (p : Cpu) → CpuFits n p → All (EntryFits n) p.queue
entries_fit n p o = all_of (EntryFits n) no_entry p.queue o.entry

pub fits_inserted : (n len : ℕ) (e : Entry) (p : Cpu) → EntryFits n e → CpuFits n p → ltb 64 (length (queue_insert e p.queue)) ≡ false
    → CpuFits n (cpu_queue_len len (cpu_queue (queue_insert e p.queue) p))
fits_inserted n len e p f o t =
    fits_queue n len (queue_insert e p.queue) p o (ltb-false 64 _ t) (all_insert entry_before (EntryFits n) e p.queue f (entries_fit n p o))
    (insert_sorted entries_ordered e p.queue o.keys_rise)

length_remove : {A : Type 0} (lt : A → A → Bool) (a : A) (l : List A) → length (remove lt a l) ≤ length l
unfolding remove
length_remove lt a [] = omega arith
length_remove lt a (x ∷ xs) =
    by_test (lt a x) (λ e. rw e (omega arith))
    (λ e. rw e (by_test (lt x a) (λ f. rw f (let h : length (remove lt a xs) ≤ length xs = length_remove lt a xs in omega arith)) (λ f. rw f (omega arith))))

pub fits_removed : (n len : ℕ) (k : Key) (p : Cpu) → CpuFits n p → CpuFits n (cpu_queue_len len (cpu_queue (queue_remove k p.queue) p))
fits_removed n len k p o =
    let l : length (queue_remove k p.queue) ≤ length p.queue = length_remove entry_before (keyed k) p.queue
    in fits_queue n len (queue_remove k p.queue) p o (omega (arith, o.queue)) (all_remove entry_before (EntryFits n) (keyed k) p.queue (entries_fit n p o))
    (remove_sorted entries_ordered (keyed k) p.queue o.keys_rise)

pub fits_block : (n : ℕ) (b : PercpuBlock) (p : Cpu) → BlockFits n b → CpuFits n p → CpuFits n (cpu_block b p)
fits_block n b p f o =
    record {
      current = f.current;
      sched = f.sched;
      idle = f.idle;
      queue = o.queue;
      timers = o.timers;
      local = o.local;
      ipi = o.ipi;
      entry = o.entry;
      timer = o.timer;
      local_name = o.local_name;
      ipi_name = o.ipi_name;
      keys_rise = o.keys_rise;
      timers_rise = o.timers_rise;
      remainder = o.remainder;
    }

pub fits_remainder : (n x : ℕ) (p : Cpu) → x ≤ max_remainder → CpuFits n p → CpuFits n (cpu_remainder x p)
fits_remainder n x p h o =
    record {
      current = o.current;
      sched = o.sched;
      idle = o.idle;
      queue = o.queue;
      timers = o.timers;
      local = o.local;
      ipi = o.ipi;
      entry = o.entry;
      timer = o.timer;
      local_name = o.local_name;
      ipi_name = o.ipi_name;
      keys_rise = o.keys_rise;
      timers_rise = o.timers_rise;
      remainder = h;
    }

pub fits_timers : (n : ℕ) (l : List Timer) (p : Cpu) → CpuFits n p → length l ≤ 64 → All (λ (t : Timer). t.context_ref < n) l → Sorted sooner l → CpuFits n (cpu_timers l p)
fits_timers n l p o b a s =
    record {
      current = o.current;
      sched = o.sched;
      idle = o.idle;
      queue = o.queue;
      timers = b;
      local = o.local;
      ipi = o.ipi;
      entry = o.entry;
      timer = of_all (λ (t : Timer). t.context_ref < n) no_timer l a;
      local_name = o.local_name;
      ipi_name = o.ipi_name;
      keys_rise = o.keys_rise;
      timers_rise = s;
      remainder = o.remainder;
    }

timer_names : (n : ℕ) (p : Cpu) → CpuFits n p → All (λ (t : Timer). t.context_ref < n) p.timers
timer_names n p o = all_of (λ (t : Timer). t.context_ref < n) no_timer p.timers o.timer

pub fits_timers_left : (n : ℕ) (f : Timer → Bool) (p : Cpu) → CpuFits n p → CpuFits n (cpu_timers (keep f p.timers) p)
fits_timers_left n f p o =
    fits_timers n (keep f p.timers) p o (omega (arith, o.timers, length_keep f p.timers))
    (all_keep f (λ (t : Timer). t.context_ref < n) p.timers (timer_names n p o)) (sorted_keep f sooner p.timers o.timers_rise)

pub fits_timer_inserted : (n : ℕ) (t : Timer) (p : Cpu) → t.context_ref < n → CpuFits n p → ltb 64 (length (timer_insert t p.timers)) ≡ false
    → CpuFits n (cpu_timers (timer_insert t p.timers) p)
fits_timer_inserted n t p f o z =
    fits_timers n (timer_insert t p.timers) p o (ltb-false 64 _ z)
    (all_insert sooner (λ (t : Timer). t.context_ref < n) t p.timers f (timer_names n p o))
    (insert_sorted timers_ordered t p.timers o.timers_rise)

pub fits_local : (n x : ℕ) (p : Cpu) → x < n → ltb 64 (length (p.local_wakeup_list ++ (x ∷ []))) ≡ false → CpuFits n p
    → CpuFits n (cpu_local_wakeup_list (p.local_wakeup_list ++ (x ∷ [])) p)
fits_local n x p h t o =
    record {
      current = o.current;
      sched = o.sched;
      idle = o.idle;
      queue = o.queue;
      timers = o.timers;
      local = ltb-false 64 _ t;
      ipi = o.ipi;
      entry = o.entry;
      timer = o.timer;
      local_name = of_all (λ (y : ℕ). y < n) 0 (p.local_wakeup_list ++ (x ∷ [])) (all_more p.local_wakeup_list (all_of (λ (y : ℕ). y < n) 0 p.local_wakeup_list o.local_name));
      ipi_name = o.ipi_name;
      keys_rise = o.keys_rise;
      timers_rise = o.timers_rise;
      remainder = o.remainder;
    }
  where
    all_more : (l : List ℕ) → All (λ (y : ℕ). y < n) l → All (λ (y : ℕ). y < n) (l ++ (x ∷ []))
    all_more [] a = (h, tt)
    all_more (y ∷ ys) a = (a.0, all_more ys a.1)
