-- The run queue as a table of its CPU's block. Assumes nothing.
use mathlib.Core.Path.{refl}
use mathlib.Core.List.{[], ◌∷◌, map}
use Rattle.entries.specs.declared.Entry.{Entry}
use Rattle.entries.specs.declared.Timer.{Timer}
use Rattle.cpu_stats.specs.Words.{stats_words}
use Rattle.percpu.specs.Cpu.{Cpu}
use Rattle.percpu.specs.Words.{block_words}
use Rattle.percpu.specs.With.{cpu_queue}
use Rattle.percpu.specs.Layout.{counts, columns, cpu_words, entry_at, no_entry}
use Rattle.percpu.proofs.Read.{entry_is}
use Rattle.table.proofs.Tables.{fields}
use Rattle.table.proofs.InBlock.{Table, Lies, entry_fields}

abbrev pub queue_table : Table Entry
queue_table =
    record {
      fs = entry_fields;
      get = λ (c : Cpu). c.queue;
      put = cpu_queue;
      before = λ (c : Cpu). [];
      after = λ (c : Cpu). map (λ (t : Timer). t.wake) c.timers ∷ map (λ (t : Timer). t.context_ref) c.timers ∷ c.local_wakeup_list ∷ c.ipi_context_wakeup_list ∷ [];
      start = 25;
      count = 21;
      item = entry_at;
      none = no_entry;
    }

pub queue_lies : Lies queue_table
unfolding fields columns block_words stats_words counts cpu_words
queue_lies =
    record {
      same = λ c. refl;
      here = λ c q. refl;
      starts = λ c. refl;
      item_is = entry_is;
      counts_old = λ c l. refl;
      counts_new = λ c q. refl;
    }
