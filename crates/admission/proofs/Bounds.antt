-- The machine of an image that passes the check is below 2^62 in all that grows. Assumes nothing.
use mathlib.Core.Path.{◌≡◌, refl, sym, ap, ◌∙◌, subst}
use mathlib.Core.Bool.{Bool, true, false}
use Prim.Native.Nat.{ℕ, ◌+◌, ◌*◌, ◌<◌, ◌≤◌}
use native.Mathlib.Omega.{arith}
use mathlib.Core.List.{List}
use lib.ListN.{length, get_or}
use Rattle.columns.specs.Common.{tabulate}
use Rattle.columns.specs.Blocks.{part}
use Rattle.columns.proofs.Tabulate.{part_get, length_tabulate, get_d_tabulate}
use Rattle.cpu_stats.specs.Words.{stats_of}
use Rattle.context.specs.declared.Context.{Context}
use Rattle.context.specs.Words.{context_of}
use Rattle.entries.specs.declared.Entry.{Entry}
use Rattle.entries.specs.declared.Timer.{Timer}
use Rattle.percpu.specs.Cpu.{Cpu}
use Rattle.percpu.specs.Words.{block_of}
use Rattle.percpu.specs.Layout.{cpu_of, entry_at, timer_at, counter, no_entry, no_timer}
use Rattle.machine.specs.Machine.{Machine, context_at, cpu_at}
use Rattle.machine.specs.Encode.{decode, encode, context_place, cpu_place}
use Rattle.machine.specs.Shape.{Fits}
use Rattle.image_ranges.specs.Ranges.{context_in_range, context_most, block_most, array_most, array_most_to, block_most_to, context_most_to}
use Rattle.image.specs.Refusal.{size_c, size_n}
use Rattle.image_ranges.proofs.InRange.{BlockInRange, context_at_most}
use Rattle.image.proofs.Admitted.{Passed, a_context, a_block, decoded, decoded_fits}
use Rattle.stages.specs.Stage.{ContextBelow, CpuBelow, Below, Ranged}
use Rattle.admission.proofs.Soundness.{contexts_are, cpus_are}
use Rattle.numbers.specs.Limits.{max_number}

context_below : (c : ℕ) (w : List ℕ) → context_in_range c w ≡ true → ContextBelow max_number max_number (context_of w)
unfolding context_most_to context_of
context_below c w e =
    let at = context_at_most c w e
    in record {
      schedule_time = at 6 (omega arith);
      switch_time = at 7 (omega arith);
      active_cpu_time = at 8 (omega arith);
      sched_cpu_time = at 9 (omega arith);
      wake = at 13 (omega arith);
      vtime = at 17 (omega arith);
      vd = at 18 (omega arith);
      key_vd = at 22 (omega arith);
    }

-- item i of a list that is found item by item
found : {A : Type 0} (P : A → Type 0) (k i : ℕ) (f : ℕ → A) (d : A) → (i < k → P (f i)) → i < length (tabulate k f) → P (get_or (tabulate k f) i d)
found P k i f d p h = let g : i < k = rw (length_tabulate k f) at h in subst P (sym (get_d_tabulate k i f d g)) (p g)

-- a word of the statistics
stats_word : (b : List ℕ) (j : ℕ) → j < 6 → get_or b (12 + j) 0 ≤ max_number → get_or (part b 12 6) j 0 ≤ max_number
stats_word b j h e = rw (part_get b 12 6 j h) e

cpu_below : (n : ℕ) (b : List ℕ) → BlockInRange n b → CpuBelow max_number max_number (cpu_of b)
unfolding cpu_of block_of stats_of block_most_to array_most_to counter entry_at timer_at
cpu_below n b k =
    let at = k.scalar
    in record {
      schedule_time = at 4 (omega arith);
      pit_ticks = at 5 (omega arith);
      user = stats_word b 1 (omega arith) (at 13 (omega arith));
      kernel = stats_word b 2 (omega arith) (at 14 (omega arith));
      idle = stats_word b 3 (omega arith) (at 15 (omega arith));
      context_switches = stats_word b 4 (omega arith) (at 16 (omega arith));
      syscall_switches = stats_word b 5 (omega arith) (at 17 (omega arith));
      v = at 19 (omega arith);
      total_weight = at 20 (omega arith);
      entry_vtime = λ i. found (λ (e : Entry). e.vtime ≤ max_number) (get_or b 21 0) i (entry_at b) no_entry (λ g. k.high 3 i (omega arith) g);
      entry_vd = λ i. found (λ (e : Entry). e.key.vd ≤ max_number) (get_or b 21 0) i (entry_at b) no_entry (λ g. k.high 0 i (omega arith) g);
      timer_wake = λ i. found (λ (t : Timer). t.wake ≤ max_number) (get_or b 22 0) i (timer_at b) no_timer (λ g. k.high 6 i (omega arith) g);
    }

module _ {time : ℕ} (m : List ℕ) (p : Passed time m) where
  pub decoded_below : Below (size_c m) (size_n m) max_number max_number (decode m)
  decoded_below =
      record {
        context = λ x h. subst (ContextBelow max_number max_number) (sym (contexts_are m p x h)) (context_below (size_c m) _ (a_context m p x h));
        cpu = λ k h. subst (CpuBelow max_number max_number) (sym (cpus_are m p k h)) (cpu_below (size_n m) _ (a_block m p k h));
      }

  pub ranged : Ranged (size_c m) (size_n m) max_number max_number m
  ranged = record { M = decode m; eq = decoded m p; fits = decoded_fits m p; below = decoded_below }
