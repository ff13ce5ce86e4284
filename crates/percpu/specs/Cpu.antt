-- A CPU: the scalars of its block, its run queue, timers and wake-up lists, and the last word. Assumes nothing.
use Rattle.std.specs.Prelude.{ℕ, List}
use Rattle.percpu.specs.declared.PercpuBlock.{PercpuBlock}
use Rattle.entries.specs.declared.Entry.{Entry}
use Rattle.entries.specs.declared.Timer.{Timer}

-- the counts in the block are the lengths of the lists
pub record Cpu : Type 0 where
  pub block : PercpuBlock
  pub queue : List Entry
  pub timers : List Timer
  pub local_wakeup_list : List ℕ
  pub ipi_context_wakeup_list : List ℕ
  -- what its last tick conversion left over
  pub remainder : ℕ
