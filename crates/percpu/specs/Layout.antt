-- The words of a CPU's block: its scalars, four counts, ten columns of 64, and the remainder. Assumes nothing.
use Rattle.std.specs.Prelude.{◌≡◌, ℕ, ◌+◌, List, [], ◌∷◌, ◌++◌, map, length, get_or}
use Rattle.std.proofs.Common.{length-append}
use Rattle.columns.specs.Common.{tabulate}
use Rattle.columns.specs.Blocks.{flat, length_flat}
use Rattle.entries.specs.declared.Entry.{Entry}
use Rattle.entries.specs.declared.Timer.{Timer}
use Rattle.percpu.specs.Cpu.{Cpu}
use Rattle.percpu.specs.Words.{block_words, block_of, length_block_words}
use Rattle.percpu.specs.Places.{queue_count, timers_count, local_count, ipi_count, front_size, key_vd_column, key_rem_slice_column, key_ctxt_id_column, entry_vtime_column, entry_weight_column, entry_context_ref_column, timer_wake_column, timer_context_ref_column, local_wakeup_list_column, ipi_context_wakeup_list_column, remainder_place, block_size}

unfoldable pub counts : Cpu → List ℕ
counts c =
    length c.queue ∷ length c.timers ∷ length c.local_wakeup_list ∷ length c.ipi_context_wakeup_list ∷ []

unfoldable pub columns : Cpu → List (List ℕ)
columns c =
    map (λ (e : Entry). e.key.vd) c.queue
    ∷ map (λ (e : Entry). e.key.rem_slice) c.queue
    ∷ map (λ (e : Entry). e.key.ctxt_id) c.queue
    ∷ map (λ (e : Entry). e.vtime) c.queue
    ∷ map (λ (e : Entry). e.weight) c.queue
    ∷ map (λ (e : Entry). e.context_ref) c.queue
    ∷ map (λ (t : Timer). t.wake) c.timers
    ∷ map (λ (t : Timer). t.context_ref) c.timers
    ∷ c.local_wakeup_list
    ∷ c.ipi_context_wakeup_list
    ∷ []

-- what stands behind the columns
abbrev pub last_words : Cpu → List ℕ
last_words c = c.remainder ∷ []

-- `flat` fills each array up to 64 words with 0
unfoldable pub cpu_words : Cpu → List ℕ
cpu_words c = (block_words c.block ++ counts c) ++ (flat (columns c) ++ last_words c)

-- entry i of a block's queue, and timer i
unfoldable pub entry_at : List ℕ → ℕ → Entry
entry_at b i =
    record {
      key = record { vd = get_or b (key_vd_column + i) 0; rem_slice = get_or b (key_rem_slice_column + i) 0; ctxt_id = get_or b (key_ctxt_id_column + i) 0 };
      vtime = get_or b (entry_vtime_column + i) 0;
      weight = get_or b (entry_weight_column + i) 0;
      context_ref = get_or b (entry_context_ref_column + i) 0;
    }

unfoldable pub timer_at : List ℕ → ℕ → Timer
timer_at b i = record { wake = get_or b (timer_wake_column + i) 0; context_ref = get_or b (timer_context_ref_column + i) 0 }

-- what a list gives past its end
unfoldable pub no_entry : Entry
no_entry = entry_at [] 0

unfoldable pub no_timer : Timer
no_timer = timer_at [] 0

unfoldable pub cpu_of : List ℕ → Cpu
cpu_of b =
    record {
      block = block_of b;
      queue = tabulate (get_or b queue_count 0) (entry_at b);
      timers = tabulate (get_or b timers_count 0) (timer_at b);
      local_wakeup_list = tabulate (get_or b local_count 0) (λ (i : ℕ). get_or b (local_wakeup_list_column + i) 0);
      ipi_context_wakeup_list = tabulate (get_or b ipi_count 0) (λ (i : ℕ). get_or b (ipi_context_wakeup_list_column + i) 0);
      remainder = get_or b remainder_place 0;
    }

pub front_length : (c : Cpu) → length (block_words c.block ++ counts c) ≡ front_size
unfolding counts
front_length c = rw (length-append, length_block_words)

pub length_cpu_words : (c : Cpu) → length (cpu_words c) ≡ block_size
unfolding cpu_words columns
length_cpu_words c = rw (length-append, front_length, length-append, length_flat)

-- which word of the block counts array j
unfoldable pub counter : List ℕ
counter =
    queue_count ∷ queue_count ∷ queue_count ∷ queue_count ∷ queue_count ∷ queue_count ∷ timers_count ∷ timers_count ∷ local_count ∷ ipi_count ∷ []
