-- What stealing changes in a block, as words and as a stage. Assumes nothing.
use mathlib.Core.Path.{◌≡◌, refl, sym, subst}
use mathlib.Core.Bool.{not}
use Prim.Native.Nat.{ℕ, ◌+◌, ◌-◌, ◌%◌, ◌<◌}
use native.Mathlib.Omega.{arith}
use mathlib.Core.List.{List, [], ◌∷◌}
use lib.Dec.{eqb}
use lib.ListN.{length, get_or, set}
use borrow.Author.Tests.{ne_eqb}
use Rattle.columns.specs.Common.{mark, is_empty}
use Rattle.cpu_stats.specs.Words.{stats_words}
use Rattle.entries.specs.declared.Entry.{Entry}
use Rattle.entries.specs.Queue.{queue_remove}
use Rattle.percpu.specs.Cpu.{Cpu}
use Rattle.percpu.specs.Words.{block_words}
use Rattle.percpu.specs.With.{cpu_queue, cpu_total_weight}
use Rattle.percpu.specs.Layout.{cpu_words, counts, columns}
use Rattle.machine.specs.Machine.{Machine, cpu_at}
use Rattle.machine.specs.Encode.{encode, cpu_place}
use Rattle.machine.specs.Shape.{CpuFits, Fits}
use Rattle.machine.proofs.LookUps.{block_word}
use Rattle.stages.proofs.Fitting.{fits_removed}
use Rattle.model.specs.Steal.{give_up, published, mark_stealable, count_steal}
use Rattle.numbers.specs.Limits.{word_range}

gave : (e : Entry) (p : Cpu) → set (cpu_words (cpu_queue (queue_remove e.key p.queue) p)) 20 (p.block.total_weight - e.weight) ≡ cpu_words (give_up e p)
unfolding cpu_words block_words stats_words counts columns
gave e p = refl

weight_word : (p : Cpu) → get_or (cpu_words p) 20 0 ≡ p.block.total_weight
unfolding cpu_words block_words stats_words counts columns
weight_word p = refl

pub given_up : (b : List ℕ) (e : Entry) (p : Cpu) {w : ℕ} → b ≡ cpu_words (cpu_queue (queue_remove e.key p.queue) p) → w ≡ get_or b 20 0 - e.weight
    → set b 20 w ≡ cpu_words (give_up e p)
given_up b e p z h = rw (h, z, weight_word (cpu_queue (queue_remove e.key p.queue) p)) (gave e p)

added : (w : ℕ) (p : Cpu) → set (cpu_words p) 20 (get_or (cpu_words p) 20 0 + w) ≡ cpu_words (cpu_total_weight (p.block.total_weight + w) p)
unfolding cpu_words block_words stats_words counts columns
added w p = refl

pub weight_added : (b : List ℕ) (w : ℕ) (p : Cpu) → b ≡ cpu_words p → set b 20 (get_or b 20 0 + w) ≡ cpu_words (cpu_total_weight (p.block.total_weight + w) p)
weight_added b w p z = rw z (added w p)

shown : (p : Cpu) → set (set (cpu_words p) 10 (get_or (cpu_words p) 20 0)) 9 (get_or (set (cpu_words p) 10 (get_or (cpu_words p) 20 0)) 21 0) ≡ cpu_words (published p)
unfolding cpu_words block_words stats_words counts columns
shown p = refl

pub published_is : (b : List ℕ) (p : Cpu) → b ≡ cpu_words p → set (set b 10 (get_or b 20 0)) 9 (get_or (set b 10 (get_or b 20 0)) 21 0) ≡ cpu_words (published p)
published_is b p z = rw z (shown p)

none_is_empty : (q : List Entry) → eqb (length q) 0 ≡ is_empty q
none_is_empty [] = refl
none_is_empty (x ∷ xs) = ne_eqb (length (x ∷ xs)) 0 (λ z. omega arith)

count_word : (p : Cpu) → get_or (cpu_words p) 21 0 ≡ length p.queue
unfolding cpu_words block_words stats_words counts columns
count_word p = refl

marked : (p : Cpu) → set (cpu_words p) 8 (mark (not (is_empty p.queue))) ≡ cpu_words (mark_stealable p)
unfolding cpu_words block_words stats_words counts columns
marked p = refl

pub marked_is : (b : List ℕ) (p : Cpu) {w : ℕ} → b ≡ cpu_words p → w ≡ mark (not (eqb (get_or b 21 0) 0)) → set b 8 w ≡ cpu_words (mark_stealable p)
marked_is b p z h = rw (h, z, count_word p, none_is_empty p.queue) (marked p)

-- a CPU whose scalars change but not its names
same_fits : (n : ℕ) (p p' : Cpu) → p'.block.current_ctxt ≡ p.block.current_ctxt → p'.block.sched_ctxt ≡ p.block.sched_ctxt → p'.block.idle_ctxt ≡ p.block.idle_ctxt
    → p' ≡ record { block = p'.block; queue = p.queue; timers = p.timers; local_wakeup_list = p.local_wakeup_list; ipi_context_wakeup_list = p.ipi_context_wakeup_list; remainder = p.remainder }
    → CpuFits n p → CpuFits n p'
same_fits n p p' a b d e o =
    subst (CpuFits n) (sym e)
    (record {
      current = rw a o.current;
      sched = rw b o.sched;
      idle = rw d o.idle;
      queue = o.queue;
      timers = o.timers;
      local = o.local;
      ipi = o.ipi;
      entry = o.entry;
      timer = o.timer;
      local_name = o.local_name;
      ipi_name = o.ipi_name;
      keys_rise = o.keys_rise;
      timers_rise = o.timers_rise;
      remainder = o.remainder;
    })

pub fits_weight : (n w : ℕ) (p : Cpu) → CpuFits n p → CpuFits n (cpu_total_weight w p)
fits_weight n w p o = same_fits n p (cpu_total_weight w p) refl refl refl refl o

pub fits_published : (n : ℕ) (p : Cpu) → CpuFits n p → CpuFits n (published p)
fits_published n p o = same_fits n p (published p) refl refl refl refl o

pub fits_marked : (n : ℕ) (p : Cpu) → CpuFits n p → CpuFits n (mark_stealable (published p))
fits_marked n p o = same_fits n p (mark_stealable (published p)) refl refl refl refl o

pub fits_given_up : (n : ℕ) (e : Entry) (p : Cpu) → CpuFits n p → CpuFits n (give_up e p)
fits_given_up n e p o = same_fits n _ (give_up e p) refl refl refl refl (fits_removed n p.block.queue_len e.key p o)

pub weight_of : {c n : ℕ} (m : List ℕ) (k : ℕ) → k < c → (M : Machine) → m ≡ encode M → Fits c n M → get_or m (cpu_place n k + 20) 0 ≡ (cpu_at M k).block.total_weight
unfolding cpu_words block_words stats_words counts
weight_of m k h M e o = block_word m k M e o 20 h (omega arith)

counted : (p : Cpu) → set (cpu_words p) 11 ((get_or (cpu_words p) 11 0 + 1) % word_range) ≡ cpu_words (count_steal p)
unfolding cpu_words block_words stats_words counts columns
counted p = refl

pub counted_is : (b : List ℕ) (p : Cpu) {w : ℕ} → b ≡ cpu_words p → w ≡ (get_or b 11 0 + 1) % word_range → set b 11 w ≡ cpu_words (count_steal p)
counted_is b p z h = rw (h, z) (counted p)

pub fits_counted : (n : ℕ) (p : Cpu) → CpuFits n p → CpuFits n (count_steal p)
fits_counted n p o = same_fits n p (count_steal p) refl refl refl refl o
