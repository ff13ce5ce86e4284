-- How far a CPU and a record can go by one move. Assumes nothing.
use mathlib.Core.Path.{◌≡◌, refl, subst}
use mathlib.Core.List.{List}
use Prim.Native.Nat.{ℕ, ◌+◌, ◌-◌, ◌*◌, ◌/◌, ◌<◌, ◌≤◌}
use native.Mathlib.Omega.{arith}
use native.Mathlib.Nat.{div-mul-le_self, mul-le-mul_left}
use lib.ListN.{length, get_or}
use Rattle.context.specs.declared.Context.{Context}
use Rattle.cpu_stats.specs.declared.CpuStats.{CpuStats}
use Rattle.entries.specs.declared.Entry.{Entry}
use Rattle.entries.specs.declared.Timer.{Timer}
use Rattle.entries.specs.Order.{entry_before}
use Rattle.entries.specs.Queue.{queue_insert, queue_remove, keyed}
use Rattle.percpu.specs.Cpu.{Cpu}
use Rattle.percpu.specs.Layout.{no_entry, no_timer}
use Rattle.percpu.specs.With.{cpu_queue, cpu_queue_len, cpu_total_weight}
use Rattle.model.specs.Steal.{give_up, published, mark_stealable, count_steal, moved}
use Rattle.model.proofs.Sorted.{all_insert, all_remove}
use Rattle.stages.specs.Stage.{ContextBelow, CpuBelow}
use Rattle.stages.proofs.Fitting.{all_of, of_all}
use Rattle.weights.specs.Weights.{full_slice, min_weight, max_whole_slice}
use Rattle.stages.specs.Bounds.{slice_bound}
use Rattle.context.specs.Key.{with_new_key}

-- what stealing leaves alone of the numbers of a CPU that are bounded
record Times : Type 0 where
  schedule_time : ℕ
  pit_ticks : ℕ
  stats : CpuStats
  timers : List Timer

abbrev times : Cpu → Times
times p = record { schedule_time = p.block.schedule_time; pit_ticks = p.block.pit_ticks; stats = p.block.stats; timers = p.timers }

module _ {t b : ℕ} (b' : ℕ) {p : Cpu} (o : CpuBelow t b p) (p' : Cpu) (same : times p ≡ times p') where
  kept : (P : Times → Type 0) → P (times p) → P (times p')
  kept P = subst P same

  pub below_as : p'.block.v ≤ b' → p'.block.total_weight ≤ b' → ((i : ℕ) → i < length p'.queue → (get_or p'.queue i no_entry).vtime ≤ b')
      → ((i : ℕ) → i < length p'.queue → (get_or p'.queue i no_entry).key.vd ≤ b') → CpuBelow t b' p'
  below_as v w f g =
      record {
        schedule_time = kept (λ x. x.schedule_time ≤ t) o.schedule_time;
        pit_ticks = kept (λ x. x.pit_ticks ≤ t) o.pit_ticks;
        user = kept (λ x. x.stats.user ≤ t) o.user;
        kernel = kept (λ x. x.stats.kernel ≤ t) o.kernel;
        idle = kept (λ x. x.stats.idle ≤ t) o.idle;
        context_switches = kept (λ x. x.stats.context_switches ≤ t) o.context_switches;
        syscall_switches = kept (λ x. x.stats.syscall_switches ≤ t) o.syscall_switches;
        v = v;
        total_weight = w;
        entry_vtime = f;
        entry_vd = g;
        timer_wake = kept (λ x. (i : ℕ) → i < length x.timers → (get_or x.timers i no_timer).wake ≤ t) o.timer_wake;
      }

pub cpu_weaker : {t : ℕ} (b b' : ℕ) (p : Cpu) → b ≤ b' → CpuBelow t b p → CpuBelow t b' p
cpu_weaker b b' p h o = below_as b' o p refl (omega (arith, o.v)) (omega (arith, o.total_weight)) (λ i l. omega (arith, o.entry_vtime i l)) (λ i l. omega (arith, o.entry_vd i l))

pub context_weaker : {t : ℕ} (b b' : ℕ) (q : Context) → b ≤ b' → ContextBelow t b q → ContextBelow t b' q
context_weaker b b' q h o =
    record {
      schedule_time = o.schedule_time;
      switch_time = o.switch_time;
      active_cpu_time = o.active_cpu_time;
      sched_cpu_time = o.sched_cpu_time;
      wake = o.wake;
      vtime = omega (arith, o.vtime);
      vd = omega (arith, o.vd);
      key_vd = omega (arith, o.key_vd);
    }

pub below_weight : {t b : ℕ} (w : ℕ) (p : Cpu) → w ≤ b → CpuBelow t b p → CpuBelow t b (cpu_total_weight w p)
below_weight {b = b} w p h o = below_as b o _ refl o.v h o.entry_vtime o.entry_vd

pub below_published : {t b : ℕ} (p : Cpu) → CpuBelow t b p → CpuBelow t b (published p)
below_published {b = b} p o = below_as b o _ refl o.v o.total_weight o.entry_vtime o.entry_vd

pub below_marked : {t b : ℕ} (p : Cpu) → CpuBelow t b p → CpuBelow t b (mark_stealable (published p))
below_marked {b = b} p o = below_as b o _ refl o.v o.total_weight o.entry_vtime o.entry_vd

pub below_counted : {t b : ℕ} (p : Cpu) → CpuBelow t b p → CpuBelow t b (count_steal p)
below_counted {b = b} p o = below_as b o _ refl o.v o.total_weight o.entry_vtime o.entry_vd

pub below_inserted : {t : ℕ} (b len : ℕ) (e : Entry) (p : Cpu) → e.vtime ≤ b → e.key.vd ≤ b → CpuBelow t b p → CpuBelow t b (cpu_queue_len len (cpu_queue (queue_insert e p.queue) p))
below_inserted b len e p h g o =
    below_as b o _ refl o.v o.total_weight (each (λ (f : Entry). f.vtime ≤ b) h o.entry_vtime) (each (λ (f : Entry). f.key.vd ≤ b) g o.entry_vd)
  where
    each : (P : Entry → Type 0) → P e → ((i : ℕ) → i < length p.queue → P (get_or p.queue i no_entry)) → (i : ℕ) → i < length (queue_insert e p.queue) → P (get_or (queue_insert e p.queue) i no_entry)
    each P h a = of_all P no_entry (queue_insert e p.queue) (all_insert entry_before P e p.queue h (all_of P no_entry p.queue a))

pub below_given_up : {t : ℕ} (b : ℕ) (e : Entry) (p : Cpu) → CpuBelow t b p → CpuBelow t b (give_up e p)
below_given_up b e p o =
    below_as b o _ refl o.v (omega (arith, o.total_weight)) (each (λ (f : Entry). f.vtime ≤ b) o.entry_vtime) (each (λ (f : Entry). f.key.vd ≤ b) o.entry_vd)
  where
    each : (P : Entry → Type 0) → ((i : ℕ) → i < length p.queue → P (get_or p.queue i no_entry)) → (i : ℕ) → i < length (queue_remove e.key p.queue) → P (get_or (queue_remove e.key p.queue) i no_entry)
    each P a = of_all P no_entry (queue_remove e.key p.queue) (all_remove entry_before P (keyed e.key) p.queue (all_of P no_entry p.queue a))

-- a slice over a weight
slice_small : (s w : ℕ) → s ≤ full_slice → min_weight ≤ w → s / w ≤ max_whole_slice
slice_small s w h g =
    let a : s / w * w ≤ s = div-mul-le_self s w in
    let d : s / w * min_weight ≤ s / w * w = mul-le-mul_left (s / w) g in
    small (s / w) (s / w * w) d (omega arith)
  where
    small : (x y : ℕ) → x * min_weight ≤ y → y ≤ full_slice → x ≤ max_whole_slice
    small x y a d = omega arith

-- the record that is moved, and the same with its key
module _ {t : ℕ} (b here there weight : ℕ) (q : Context) (o : ContextBelow t (2 * b + slice_bound) q) (h : here ≤ b) (g : q.vtime ≤ b) (s : q.rem_slice ≤ full_slice) (w : min_weight ≤ weight) where
  its_vtime : here + q.vtime - there ≤ 2 * b
  its_vtime = omega arith

  its_vd : here + q.vtime - there + q.rem_slice / weight ≤ 2 * b + slice_bound
  its_vd = omega (arith, its_vtime, slice_small q.rem_slice weight s w)

  pub below_moved : ContextBelow t (2 * b + slice_bound) (moved here there weight q)
  below_moved =
      record {
        schedule_time = o.schedule_time;
        switch_time = o.switch_time;
        active_cpu_time = o.active_cpu_time;
        sched_cpu_time = o.sched_cpu_time;
        wake = o.wake;
        vtime = omega (arith, its_vtime);
        vd = its_vd;
        key_vd = omega arith;
      }

  pub below_keyed : ContextBelow t (2 * b + slice_bound) (with_new_key (moved here there weight q))
  below_keyed =
      record {
        schedule_time = o.schedule_time;
        switch_time = o.switch_time;
        active_cpu_time = o.active_cpu_time;
        sched_cpu_time = o.sched_cpu_time;
        wake = o.wake;
        vtime = omega (arith, its_vtime);
        vd = its_vd;
        key_vd = its_vd;
      }
