-- The first 21 words of a CPU's block, and the scalars of the words. Written by tools/records.py.
use Rattle.std.specs.Prelude.{ℕ, Bool, true, false, ◌≡◌, refl, List, [], ◌∷◌, ◌++◌, eqb, length, get_or}
use Rattle.percpu.specs.declared.PercpuBlock.{PercpuBlock}
use Rattle.columns.specs.Common.{mark, mark_back}
use Rattle.percpu.specs.Places.{scalars_size}
use Rattle.columns.specs.Blocks.{part}
use Rattle.cpu_stats.specs.declared.CpuStats.{CpuStats}
use Rattle.cpu_stats.specs.Words.{stats_words, stats_of, stats_of_words}

unfoldable pub block_words : PercpuBlock → List ℕ
block_words c =
    (mark c.present ∷ c.current_ctxt ∷ c.sched_ctxt ∷ c.idle_ctxt ∷ c.schedule_time ∷ c.pit_ticks ∷ mark c.being_sigkilled ∷ mark c.inside_syscall ∷ mark c.stealable ∷ c.queue_len ∷ c.published_weight ∷ c.steal_counter ∷ [])
    ++ (stats_words c.stats
    ++ (mark c.queue_locked ∷ c.v ∷ c.total_weight ∷ []))

unfoldable pub block_of : List ℕ → PercpuBlock
block_of w =
    record {
      present = eqb (get_or w 0 0) 1;
      current_ctxt = get_or w 1 0;
      sched_ctxt = get_or w 2 0;
      idle_ctxt = get_or w 3 0;
      schedule_time = get_or w 4 0;
      pit_ticks = get_or w 5 0;
      being_sigkilled = eqb (get_or w 6 0) 1;
      inside_syscall = eqb (get_or w 7 0) 1;
      stealable = eqb (get_or w 8 0) 1;
      queue_len = get_or w 9 0;
      published_weight = get_or w 10 0;
      steal_counter = get_or w 11 0;
      stats = stats_of (part w 12 6);
      queue_locked = eqb (get_or w 18 0) 1;
      v = get_or w 19 0;
      total_weight = get_or w 20 0;
    }

pub block_of_words : (c : PercpuBlock) → block_of (block_words c) ≡ c
unfolding block_words block_of stats_words part
block_of_words c = λ j.
    record {
      present = mark_back c.present j;
      current_ctxt = c.current_ctxt;
      sched_ctxt = c.sched_ctxt;
      idle_ctxt = c.idle_ctxt;
      schedule_time = c.schedule_time;
      pit_ticks = c.pit_ticks;
      being_sigkilled = mark_back c.being_sigkilled j;
      inside_syscall = mark_back c.inside_syscall j;
      stealable = mark_back c.stealable j;
      queue_len = c.queue_len;
      published_weight = c.published_weight;
      steal_counter = c.steal_counter;
      stats = stats_of_words c.stats j;
      queue_locked = mark_back c.queue_locked j;
      v = c.v;
      total_weight = c.total_weight;
    }

pub length_block_words : (c : PercpuBlock) → length (block_words c) ≡ scalars_size
unfolding block_words stats_words
length_block_words c = refl
