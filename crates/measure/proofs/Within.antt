-- The machine of an image that passes is within what was measured. Assumes nothing.
use mathlib.Core.Path.{◌≡◌, sym, subst}
use mathlib.Core.List.{List}
use Prim.Native.Nat.{ℕ, ◌+◌, ◌<◌, ◌≤◌}
use native.Mathlib.Omega.{arith}
use lib.ListN.{length, get_or}
use Rattle.columns.specs.Common.{tabulate}
use Rattle.columns.specs.Blocks.{part}
use Rattle.columns.proofs.Tabulate.{part_get, length_tabulate, get_d_tabulate}
use Rattle.cpu_stats.specs.Words.{stats_of}
use Rattle.context.specs.Words.{context_of, record_size}
use Rattle.entries.specs.declared.Entry.{Entry}
use Rattle.entries.specs.declared.Timer.{Timer}
use Rattle.percpu.specs.Cpu.{Cpu}
use Rattle.percpu.specs.Words.{block_of}
use Rattle.percpu.specs.Places.{block_size, queue_count, timers_count}
use Rattle.percpu.specs.Layout.{cpu_of, entry_at, timer_at, no_entry, no_timer}
use Rattle.machine.specs.Encode.{decode, context_place, cpu_place}
use Rattle.machine.specs.Shape.{CpuFits}
use Rattle.image.specs.Refusal.{size_c, size_n}
use Rattle.image.proofs.Admitted.{Passed, decoded_fits}
use Rattle.stages.specs.Stage.{ContextBelow, CpuBelow}
use Rattle.admission.proofs.Soundness.{contexts_are, cpus_are}
use Rattle.growth.specs.declared.Bounds.{Bounds}
use Rattle.growth.specs.Growth.{Within}
use Rattle.measure.specs.Measured.{NoneOver, RecordWithin, BlockWithin, Measured}

-- word i of the part that begins at `at`
word : (m : List ℕ) (at size from to top i : ℕ) → i < size → from ≤ i → i < to → NoneOver m (at + from) (at + to) top → get_or (part m at size) i 0 ≤ top
word m at size from to top i h a b o = rw (part_get m at size i h) (o.each (at + i) (omega arith) (omega arith))

record_below : (m : List ℕ) (at : ℕ) (b : Bounds) → RecordWithin m at b → ContextBelow b.times b.virtual_times (context_of (part m at record_size))
unfolding context_of
record_below m at b o =
    let t = b.times in
    let v = b.virtual_times in
    record {
      schedule_time = word m at record_size 6 10 t 6 (omega arith) (omega arith) (omega arith) o.clock;
      switch_time = word m at record_size 6 10 t 7 (omega arith) (omega arith) (omega arith) o.clock;
      active_cpu_time = word m at record_size 6 10 t 8 (omega arith) (omega arith) (omega arith) o.clock;
      sched_cpu_time = word m at record_size 6 10 t 9 (omega arith) (omega arith) (omega arith) o.clock;
      wake = word m at record_size 13 14 t 13 (omega arith) (omega arith) (omega arith) o.wake;
      vtime = word m at record_size 17 23 v 17 (omega arith) (omega arith) (omega arith) o.virtual_times;
      vd = word m at record_size 17 23 v 18 (omega arith) (omega arith) (omega arith) o.virtual_times;
      key_vd = word m at record_size 17 23 v 22 (omega arith) (omega arith) (omega arith) o.virtual_times;
    }

-- item i of a list that is found item by item
found : {A : Type 0} (P : A → Type 0) (k i : ℕ) (f : ℕ → A) (d : A) → (i < k → P (f i)) → i < length (tabulate k f) → P (get_or (tabulate k f) i d)
found P k i f d p h = let g : i < k = rw (length_tabulate k f) at h in subst P (sym (get_d_tabulate k i f d g)) (p g)

module _ (m : List ℕ) (at : ℕ) (b : Bounds) (o : BlockWithin m at b) where
  abbrev w : List ℕ
  w = part m at block_size

  -- a word of the statistics
  stat : (j : ℕ) → j < 5 → get_or (part w 12 6) (1 + j) 0 ≤ b.times
  stat j h = rw (part_get w 12 6 (1 + j) (omega arith)) (word m at block_size 13 18 b.times (12 + (1 + j)) (omega arith) (omega arith) (omega arith) o.times.counted)

  block_below : get_or w queue_count 0 ≤ 64 → get_or w timers_count 0 ≤ 64 → CpuBelow b.times b.virtual_times (cpu_of w)
  unfolding cpu_of block_of stats_of entry_at timer_at
  block_below q r =
      let t = b.times in
      let v = b.virtual_times in
      record {
        schedule_time = word m at block_size 4 6 t 4 (omega arith) (omega arith) (omega arith) o.times.clock;
        pit_ticks = word m at block_size 4 6 t 5 (omega arith) (omega arith) (omega arith) o.times.clock;
        user = stat 0 (omega arith);
        kernel = stat 1 (omega arith);
        idle = stat 2 (omega arith);
        context_switches = stat 3 (omega arith);
        syscall_switches = stat 4 (omega arith);
        v = word m at block_size 19 21 v 19 (omega arith) (omega arith) (omega arith) o.virtual_times.v;
        total_weight = word m at block_size 19 21 v 20 (omega arith) (omega arith) (omega arith) o.virtual_times.v;
        entry_vtime = λ i. found (λ (e : Entry). e.vtime ≤ v) (get_or w queue_count 0) i (entry_at w) no_entry
            (λ g. word m at block_size 217 281 v (217 + i) (omega arith) (omega arith) (omega arith) o.virtual_times.vtime);
        entry_vd = λ i. found (λ (e : Entry). e.key.vd ≤ v) (get_or w queue_count 0) i (entry_at w) no_entry
            (λ g. word m at block_size 25 89 v (25 + i) (omega arith) (omega arith) (omega arith) o.virtual_times.vd);
        timer_wake = λ i. found (λ (u : Timer). u.wake ≤ t) (get_or w timers_count 0) i (timer_at w) no_timer
            (λ g. word m at block_size 409 473 t (409 + i) (omega arith) (omega arith) (omega arith) o.times.wake);
      }

  block_published : (cpu_of w).block.published_weight ≤ b.virtual_times
  unfolding cpu_of block_of
  block_published = word m at block_size 10 11 b.virtual_times 10 (omega arith) (omega arith) (omega arith) o.virtual_times.published

-- the counts of a block's lists
counts : (w : List ℕ) → (length (cpu_of w).queue ≡ get_or w queue_count 0) × (length (cpu_of w).timers ≡ get_or w timers_count 0)
unfolding cpu_of
counts w = (length_tabulate (get_or w queue_count 0) (entry_at w), length_tabulate (get_or w timers_count 0) (timer_at w))

pub measured_within : {time : ℕ} (m : List ℕ) (b : Bounds) → Passed time m → Measured m (size_c m) (size_n m) b → Within (size_c m) (size_n m) b (decode m)
measured_within m b p o =
    record {
      below = record {
        context = λ x h. subst (ContextBelow b.times b.virtual_times) (sym (contexts_are m p x h)) (record_below m (context_place x) b (o.records x h));
        cpu = λ k h. subst (CpuBelow b.times b.virtual_times) (sym (cpus_are m p k h)) (block k h);
      };
      published = λ k h. subst (λ (q : Cpu). q.block.published_weight ≤ b.virtual_times) (sym (cpus_are m p k h)) (block_published m (cpu_place (size_n m) k) b (o.blocks k h));
    }
  where
    block : (k : ℕ) → k < size_c m → CpuBelow b.times b.virtual_times (cpu_of (part m (cpu_place (size_n m) k) block_size))
    block k h =
        let f : CpuFits (size_n m) (cpu_of (part m (cpu_place (size_n m) k) block_size)) = subst (CpuFits (size_n m)) (cpus_are m p k h) ((decoded_fits m p).cpu k h) in
        let e = counts (part m (cpu_place (size_n m) k) block_size) in
        block_below m (cpu_place (size_n m) k) b (o.blocks k h) (omega (arith, e.0, f.queue)) (omega (arith, e.1, f.timers))
