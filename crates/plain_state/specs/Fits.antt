-- What the parts of a decision ask of a state and leave it with: names, ranges and keys that differ, in any order of the lists.
-- Assumes nothing.
use Rattle.std.specs.Prelude.{◌≡◌, ℕ, ◌<◌, ◌≤◌, length}
use Rattle.columns.specs.Common.{All}
use Rattle.entries.specs.declared.Timer.{Timer}
use Rattle.ticks.specs.Ticks.{max_remainder}
use Rattle.percpu.specs.Cpu.{Cpu}
use Rattle.machine.specs.Machine.{context_at}
use Rattle.machine.specs.Shape.{ContextFits, EntryFits}
use Rattle.model.specs.State.{State}
use Rattle.plain_model.specs.State.{Different}

-- `CpuFits` without the order of keys and timers
pub record CpuFitsInAnyOrder (n : ℕ) (p : Cpu) : Type 0 where
  pub current : p.block.current_ctxt < n
  pub sched : p.block.sched_ctxt < n
  pub idle : p.block.idle_ctxt < n
  pub entries : All (EntryFits n) p.queue
  pub timers : All (λ (t : Timer). t.context_ref < n) p.timers
  pub local : All (λ (x : ℕ). x < n) p.local_wakeup_list
  pub ipi : All (λ (x : ℕ). x < n) p.ipi_context_wakeup_list
  pub remainder : p.remainder ≤ max_remainder
  pub differ : Different p

-- of n contexts, with at most 4 CPUs
pub record StateFits (n : ℕ) (s : State) : Type 0 where
  pub contexts : length s.contexts ≡ n
  pub context : (x : ℕ) → x < n → ContextFits 4 (context_at s.contexts x)
  pub cpu : CpuFitsInAnyOrder n s.cpu
