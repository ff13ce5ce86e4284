-- A CPU that fits, with another queue, other timers or names, another block or remainder. Assumes nothing.
use mathlib.Core.Bool.{Bool}
use mathlib.Core.List.{List, [], ◌∷◌, ◌++◌}
use Prim.Native.Nat.{ℕ, ◌<◌, ◌≤◌}
use Rattle.columns.specs.Common.{All}
use Rattle.columns.proofs.Keep.{all_keep}
use Rattle.entries.specs.declared.Entry.{Entry}
use Rattle.entries.specs.declared.Timer.{Timer}
use Rattle.entries.specs.Order.{entry_before, sooner}
use Rattle.entries.proofs.Ordered.{IsOrder}
use Rattle.ticks.specs.Ticks.{max_remainder}
use Rattle.percpu.specs.declared.PercpuBlock.{PercpuBlock}
use Rattle.percpu.specs.Cpu.{Cpu}
use Rattle.percpu.specs.With.{cpu_block, cpu_queue, cpu_queue_len, cpu_timers, cpu_local_wakeup_list, cpu_remainder}
use Rattle.machine.specs.Shape.{EntryFits}
use Rattle.model.proofs.Lists.{all_at, all_in}
use Rattle.stages.specs.Read.{BlockFits}
use Rattle.plain_model.specs.Rank.{by_rank, other_key, leave_out, put_in, Differ}
use Rattle.plain_model.proofs.Ranked.{in_by_rank}
use Rattle.plain_state.specs.Fits.{CpuFitsInAnyOrder}

-- what holds of all items holds of them in any order, with one more, and with some left out
module _ {A : Type 0} (P : A → Type 0) where
  pub all_behind : (l : List A) (a : A) → All P l → P a → All P (l ++ (a ∷ []))
  all_behind [] a h p = (p, tt)
  all_behind (x ∷ l) a h p = (h.0, all_behind l a h.1 p)

  module _ (lt : A → A → Bool) where
    pub all_left : (a : A) (l : List A) → All P l → All P (leave_out lt a l)
    unfolding leave_out
    all_left a l h = all_keep (other_key lt a) P l h

    pub all_put : (a : A) (l : List A) → P a → All P l → All P (put_in lt a l)
    unfolding put_in
    all_put a l p h = all_behind (leave_out lt a l) a (all_left a l h) p

  module _ {lt : A → A → Bool} (o : IsOrder lt) where
    pub all_placed : (l : List A) → All P l → All P (by_rank lt l)
    all_placed l h = all_in P (by_rank lt l) (λ a i. all_at P l h a (in_by_rank o l a i))

-- a CPU with another part
module _ {n : ℕ} (p : Cpu) (o : CpuFitsInAnyOrder n p) where
  pub queue_fits : (len : ℕ) (q : List Entry) → All (EntryFits n) q → Differ entry_before q → CpuFitsInAnyOrder n (cpu_queue_len len (cpu_queue q p))
  queue_fits len q a d =
      record {
        current = o.current;
        sched = o.sched;
        idle = o.idle;
        entries = a;
        timers = o.timers;
        local = o.local;
        ipi = o.ipi;
        remainder = o.remainder;
        differ = record { queue = d; timers = o.differ.timers };
      }

  pub timers_fit : (l : List Timer) → All (λ (t : Timer). t.context_ref < n) l → Differ sooner l → CpuFitsInAnyOrder n (cpu_timers l p)
  timers_fit l a d =
      record {
        current = o.current;
        sched = o.sched;
        idle = o.idle;
        entries = o.entries;
        timers = a;
        local = o.local;
        ipi = o.ipi;
        remainder = o.remainder;
        differ = record { queue = o.differ.queue; timers = d };
      }

  pub local_fits : (l : List ℕ) → All (λ (x : ℕ). x < n) l → CpuFitsInAnyOrder n (cpu_local_wakeup_list l p)
  local_fits l a =
      record {
        current = o.current;
        sched = o.sched;
        idle = o.idle;
        entries = o.entries;
        timers = o.timers;
        local = a;
        ipi = o.ipi;
        remainder = o.remainder;
        differ = record { queue = o.differ.queue; timers = o.differ.timers };
      }

  pub block_fits : (b : PercpuBlock) → BlockFits n b → CpuFitsInAnyOrder n (cpu_block b p)
  block_fits b f =
      record {
        current = f.current;
        sched = f.sched;
        idle = f.idle;
        entries = o.entries;
        timers = o.timers;
        local = o.local;
        ipi = o.ipi;
        remainder = o.remainder;
        differ = record { queue = o.differ.queue; timers = o.differ.timers };
      }

  pub remainder_fits : (x : ℕ) → x ≤ max_remainder → CpuFitsInAnyOrder n (cpu_remainder x p)
  remainder_fits x h =
      record {
        current = o.current;
        sched = o.sched;
        idle = o.idle;
        entries = o.entries;
        timers = o.timers;
        local = o.local;
        ipi = o.ipi;
        remainder = h;
        differ = record { queue = o.differ.queue; timers = o.differ.timers };
      }
