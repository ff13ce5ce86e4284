-- A CPU with one field of its block, one list, or the last word changed. Written by tools/records.py.
use Rattle.std.specs.Prelude.{ℕ, Bool, true, false, ◌≡◌, refl, List, [], ◌∷◌, ◌++◌, eqb, length, get_or}
use Rattle.percpu.specs.declared.PercpuBlock.{PercpuBlock}
use Rattle.percpu.specs.Cpu.{Cpu}
use Rattle.cpu_stats.specs.declared.CpuStats.{CpuStats}
use Rattle.entries.specs.declared.Entry.{Entry}
use Rattle.entries.specs.declared.Timer.{Timer}

abbrev pub block_present : Bool → PercpuBlock → PercpuBlock
block_present x c =
    record {
      present = x;
      current_ctxt = c.current_ctxt;
      sched_ctxt = c.sched_ctxt;
      idle_ctxt = c.idle_ctxt;
      schedule_time = c.schedule_time;
      pit_ticks = c.pit_ticks;
      being_sigkilled = c.being_sigkilled;
      inside_syscall = c.inside_syscall;
      stealable = c.stealable;
      queue_len = c.queue_len;
      published_weight = c.published_weight;
      steal_counter = c.steal_counter;
      stats = c.stats;
      queue_locked = c.queue_locked;
      v = c.v;
      total_weight = c.total_weight;
    }

abbrev pub block_current_ctxt : ℕ → PercpuBlock → PercpuBlock
block_current_ctxt x c =
    record {
      present = c.present;
      current_ctxt = x;
      sched_ctxt = c.sched_ctxt;
      idle_ctxt = c.idle_ctxt;
      schedule_time = c.schedule_time;
      pit_ticks = c.pit_ticks;
      being_sigkilled = c.being_sigkilled;
      inside_syscall = c.inside_syscall;
      stealable = c.stealable;
      queue_len = c.queue_len;
      published_weight = c.published_weight;
      steal_counter = c.steal_counter;
      stats = c.stats;
      queue_locked = c.queue_locked;
      v = c.v;
      total_weight = c.total_weight;
    }

abbrev pub block_sched_ctxt : ℕ → PercpuBlock → PercpuBlock
block_sched_ctxt x c =
    record {
      present = c.present;
      current_ctxt = c.current_ctxt;
      sched_ctxt = x;
      idle_ctxt = c.idle_ctxt;
      schedule_time = c.schedule_time;
      pit_ticks = c.pit_ticks;
      being_sigkilled = c.being_sigkilled;
      inside_syscall = c.inside_syscall;
      stealable = c.stealable;
      queue_len = c.queue_len;
      published_weight = c.published_weight;
      steal_counter = c.steal_counter;
      stats = c.stats;
      queue_locked = c.queue_locked;
      v = c.v;
      total_weight = c.total_weight;
    }

abbrev pub block_idle_ctxt : ℕ → PercpuBlock → PercpuBlock
block_idle_ctxt x c =
    record {
      present = c.present;
      current_ctxt = c.current_ctxt;
      sched_ctxt = c.sched_ctxt;
      idle_ctxt = x;
      schedule_time = c.schedule_time;
      pit_ticks = c.pit_ticks;
      being_sigkilled = c.being_sigkilled;
      inside_syscall = c.inside_syscall;
      stealable = c.stealable;
      queue_len = c.queue_len;
      published_weight = c.published_weight;
      steal_counter = c.steal_counter;
      stats = c.stats;
      queue_locked = c.queue_locked;
      v = c.v;
      total_weight = c.total_weight;
    }

abbrev pub block_schedule_time : ℕ → PercpuBlock → PercpuBlock
block_schedule_time x c =
    record {
      present = c.present;
      current_ctxt = c.current_ctxt;
      sched_ctxt = c.sched_ctxt;
      idle_ctxt = c.idle_ctxt;
      schedule_time = x;
      pit_ticks = c.pit_ticks;
      being_sigkilled = c.being_sigkilled;
      inside_syscall = c.inside_syscall;
      stealable = c.stealable;
      queue_len = c.queue_len;
      published_weight = c.published_weight;
      steal_counter = c.steal_counter;
      stats = c.stats;
      queue_locked = c.queue_locked;
      v = c.v;
      total_weight = c.total_weight;
    }

abbrev pub block_pit_ticks : ℕ → PercpuBlock → PercpuBlock
block_pit_ticks x c =
    record {
      present = c.present;
      current_ctxt = c.current_ctxt;
      sched_ctxt = c.sched_ctxt;
      idle_ctxt = c.idle_ctxt;
      schedule_time = c.schedule_time;
      pit_ticks = x;
      being_sigkilled = c.being_sigkilled;
      inside_syscall = c.inside_syscall;
      stealable = c.stealable;
      queue_len = c.queue_len;
      published_weight = c.published_weight;
      steal_counter = c.steal_counter;
      stats = c.stats;
      queue_locked = c.queue_locked;
      v = c.v;
      total_weight = c.total_weight;
    }

abbrev pub block_being_sigkilled : Bool → PercpuBlock → PercpuBlock
block_being_sigkilled x c =
    record {
      present = c.present;
      current_ctxt = c.current_ctxt;
      sched_ctxt = c.sched_ctxt;
      idle_ctxt = c.idle_ctxt;
      schedule_time = c.schedule_time;
      pit_ticks = c.pit_ticks;
      being_sigkilled = x;
      inside_syscall = c.inside_syscall;
      stealable = c.stealable;
      queue_len = c.queue_len;
      published_weight = c.published_weight;
      steal_counter = c.steal_counter;
      stats = c.stats;
      queue_locked = c.queue_locked;
      v = c.v;
      total_weight = c.total_weight;
    }

abbrev pub block_inside_syscall : Bool → PercpuBlock → PercpuBlock
block_inside_syscall x c =
    record {
      present = c.present;
      current_ctxt = c.current_ctxt;
      sched_ctxt = c.sched_ctxt;
      idle_ctxt = c.idle_ctxt;
      schedule_time = c.schedule_time;
      pit_ticks = c.pit_ticks;
      being_sigkilled = c.being_sigkilled;
      inside_syscall = x;
      stealable = c.stealable;
      queue_len = c.queue_len;
      published_weight = c.published_weight;
      steal_counter = c.steal_counter;
      stats = c.stats;
      queue_locked = c.queue_locked;
      v = c.v;
      total_weight = c.total_weight;
    }

abbrev pub block_stealable : Bool → PercpuBlock → PercpuBlock
block_stealable x c =
    record {
      present = c.present;
      current_ctxt = c.current_ctxt;
      sched_ctxt = c.sched_ctxt;
      idle_ctxt = c.idle_ctxt;
      schedule_time = c.schedule_time;
      pit_ticks = c.pit_ticks;
      being_sigkilled = c.being_sigkilled;
      inside_syscall = c.inside_syscall;
      stealable = x;
      queue_len = c.queue_len;
      published_weight = c.published_weight;
      steal_counter = c.steal_counter;
      stats = c.stats;
      queue_locked = c.queue_locked;
      v = c.v;
      total_weight = c.total_weight;
    }

abbrev pub block_queue_len : ℕ → PercpuBlock → PercpuBlock
block_queue_len x c =
    record {
      present = c.present;
      current_ctxt = c.current_ctxt;
      sched_ctxt = c.sched_ctxt;
      idle_ctxt = c.idle_ctxt;
      schedule_time = c.schedule_time;
      pit_ticks = c.pit_ticks;
      being_sigkilled = c.being_sigkilled;
      inside_syscall = c.inside_syscall;
      stealable = c.stealable;
      queue_len = x;
      published_weight = c.published_weight;
      steal_counter = c.steal_counter;
      stats = c.stats;
      queue_locked = c.queue_locked;
      v = c.v;
      total_weight = c.total_weight;
    }

abbrev pub block_published_weight : ℕ → PercpuBlock → PercpuBlock
block_published_weight x c =
    record {
      present = c.present;
      current_ctxt = c.current_ctxt;
      sched_ctxt = c.sched_ctxt;
      idle_ctxt = c.idle_ctxt;
      schedule_time = c.schedule_time;
      pit_ticks = c.pit_ticks;
      being_sigkilled = c.being_sigkilled;
      inside_syscall = c.inside_syscall;
      stealable = c.stealable;
      queue_len = c.queue_len;
      published_weight = x;
      steal_counter = c.steal_counter;
      stats = c.stats;
      queue_locked = c.queue_locked;
      v = c.v;
      total_weight = c.total_weight;
    }

abbrev pub block_steal_counter : ℕ → PercpuBlock → PercpuBlock
block_steal_counter x c =
    record {
      present = c.present;
      current_ctxt = c.current_ctxt;
      sched_ctxt = c.sched_ctxt;
      idle_ctxt = c.idle_ctxt;
      schedule_time = c.schedule_time;
      pit_ticks = c.pit_ticks;
      being_sigkilled = c.being_sigkilled;
      inside_syscall = c.inside_syscall;
      stealable = c.stealable;
      queue_len = c.queue_len;
      published_weight = c.published_weight;
      steal_counter = x;
      stats = c.stats;
      queue_locked = c.queue_locked;
      v = c.v;
      total_weight = c.total_weight;
    }

abbrev pub block_stats : CpuStats → PercpuBlock → PercpuBlock
block_stats x c =
    record {
      present = c.present;
      current_ctxt = c.current_ctxt;
      sched_ctxt = c.sched_ctxt;
      idle_ctxt = c.idle_ctxt;
      schedule_time = c.schedule_time;
      pit_ticks = c.pit_ticks;
      being_sigkilled = c.being_sigkilled;
      inside_syscall = c.inside_syscall;
      stealable = c.stealable;
      queue_len = c.queue_len;
      published_weight = c.published_weight;
      steal_counter = c.steal_counter;
      stats = x;
      queue_locked = c.queue_locked;
      v = c.v;
      total_weight = c.total_weight;
    }

abbrev pub block_queue_locked : Bool → PercpuBlock → PercpuBlock
block_queue_locked x c =
    record {
      present = c.present;
      current_ctxt = c.current_ctxt;
      sched_ctxt = c.sched_ctxt;
      idle_ctxt = c.idle_ctxt;
      schedule_time = c.schedule_time;
      pit_ticks = c.pit_ticks;
      being_sigkilled = c.being_sigkilled;
      inside_syscall = c.inside_syscall;
      stealable = c.stealable;
      queue_len = c.queue_len;
      published_weight = c.published_weight;
      steal_counter = c.steal_counter;
      stats = c.stats;
      queue_locked = x;
      v = c.v;
      total_weight = c.total_weight;
    }

abbrev pub block_v : ℕ → PercpuBlock → PercpuBlock
block_v x c =
    record {
      present = c.present;
      current_ctxt = c.current_ctxt;
      sched_ctxt = c.sched_ctxt;
      idle_ctxt = c.idle_ctxt;
      schedule_time = c.schedule_time;
      pit_ticks = c.pit_ticks;
      being_sigkilled = c.being_sigkilled;
      inside_syscall = c.inside_syscall;
      stealable = c.stealable;
      queue_len = c.queue_len;
      published_weight = c.published_weight;
      steal_counter = c.steal_counter;
      stats = c.stats;
      queue_locked = c.queue_locked;
      v = x;
      total_weight = c.total_weight;
    }

abbrev pub block_total_weight : ℕ → PercpuBlock → PercpuBlock
block_total_weight x c =
    record {
      present = c.present;
      current_ctxt = c.current_ctxt;
      sched_ctxt = c.sched_ctxt;
      idle_ctxt = c.idle_ctxt;
      schedule_time = c.schedule_time;
      pit_ticks = c.pit_ticks;
      being_sigkilled = c.being_sigkilled;
      inside_syscall = c.inside_syscall;
      stealable = c.stealable;
      queue_len = c.queue_len;
      published_weight = c.published_weight;
      steal_counter = c.steal_counter;
      stats = c.stats;
      queue_locked = c.queue_locked;
      v = c.v;
      total_weight = x;
    }

abbrev pub cpu_block : PercpuBlock → Cpu → Cpu
cpu_block x c =
    record {
      block = x;
      queue = c.queue;
      timers = c.timers;
      local_wakeup_list = c.local_wakeup_list;
      ipi_context_wakeup_list = c.ipi_context_wakeup_list;
      remainder = c.remainder;
    }

abbrev pub cpu_queue : List Entry → Cpu → Cpu
cpu_queue x c =
    record {
      block = c.block;
      queue = x;
      timers = c.timers;
      local_wakeup_list = c.local_wakeup_list;
      ipi_context_wakeup_list = c.ipi_context_wakeup_list;
      remainder = c.remainder;
    }

abbrev pub cpu_timers : List Timer → Cpu → Cpu
cpu_timers x c =
    record {
      block = c.block;
      queue = c.queue;
      timers = x;
      local_wakeup_list = c.local_wakeup_list;
      ipi_context_wakeup_list = c.ipi_context_wakeup_list;
      remainder = c.remainder;
    }

abbrev pub cpu_local_wakeup_list : List ℕ → Cpu → Cpu
cpu_local_wakeup_list x c =
    record {
      block = c.block;
      queue = c.queue;
      timers = c.timers;
      local_wakeup_list = x;
      ipi_context_wakeup_list = c.ipi_context_wakeup_list;
      remainder = c.remainder;
    }

abbrev pub cpu_ipi_context_wakeup_list : List ℕ → Cpu → Cpu
cpu_ipi_context_wakeup_list x c =
    record {
      block = c.block;
      queue = c.queue;
      timers = c.timers;
      local_wakeup_list = c.local_wakeup_list;
      ipi_context_wakeup_list = x;
      remainder = c.remainder;
    }

abbrev pub cpu_remainder : ℕ → Cpu → Cpu
cpu_remainder x c =
    record {
      block = c.block;
      queue = c.queue;
      timers = c.timers;
      local_wakeup_list = c.local_wakeup_list;
      ipi_context_wakeup_list = c.ipi_context_wakeup_list;
      remainder = x;
    }

abbrev pub cpu_present : Bool → Cpu → Cpu
cpu_present x c = cpu_block (block_present x c.block) c

abbrev pub cpu_current_ctxt : ℕ → Cpu → Cpu
cpu_current_ctxt x c = cpu_block (block_current_ctxt x c.block) c

abbrev pub cpu_sched_ctxt : ℕ → Cpu → Cpu
cpu_sched_ctxt x c = cpu_block (block_sched_ctxt x c.block) c

abbrev pub cpu_idle_ctxt : ℕ → Cpu → Cpu
cpu_idle_ctxt x c = cpu_block (block_idle_ctxt x c.block) c

abbrev pub cpu_schedule_time : ℕ → Cpu → Cpu
cpu_schedule_time x c = cpu_block (block_schedule_time x c.block) c

abbrev pub cpu_pit_ticks : ℕ → Cpu → Cpu
cpu_pit_ticks x c = cpu_block (block_pit_ticks x c.block) c

abbrev pub cpu_being_sigkilled : Bool → Cpu → Cpu
cpu_being_sigkilled x c = cpu_block (block_being_sigkilled x c.block) c

abbrev pub cpu_inside_syscall : Bool → Cpu → Cpu
cpu_inside_syscall x c = cpu_block (block_inside_syscall x c.block) c

abbrev pub cpu_stealable : Bool → Cpu → Cpu
cpu_stealable x c = cpu_block (block_stealable x c.block) c

abbrev pub cpu_queue_len : ℕ → Cpu → Cpu
cpu_queue_len x c = cpu_block (block_queue_len x c.block) c

abbrev pub cpu_published_weight : ℕ → Cpu → Cpu
cpu_published_weight x c = cpu_block (block_published_weight x c.block) c

abbrev pub cpu_steal_counter : ℕ → Cpu → Cpu
cpu_steal_counter x c = cpu_block (block_steal_counter x c.block) c

abbrev pub cpu_stats : CpuStats → Cpu → Cpu
cpu_stats x c = cpu_block (block_stats x c.block) c

abbrev pub cpu_queue_locked : Bool → Cpu → Cpu
cpu_queue_locked x c = cpu_block (block_queue_locked x c.block) c

abbrev pub cpu_v : ℕ → Cpu → Cpu
cpu_v x c = cpu_block (block_v x c.block) c

abbrev pub cpu_total_weight : ℕ → Cpu → Cpu
cpu_total_weight x c = cpu_block (block_total_weight x c.block) c
