-- The words of a block and of an image, and the structs that stand for them. Assumes nothing.
use Rattle.std.specs.Prelude.{◌≡◌, List, map, ℕ, ◌+◌, ◌≤◌, length, get_or, take}
use Rattle.columns.specs.Common.{All, tabulate}
use Rattle.context.specs.declared.Context.{Context}
use Rattle.entries.specs.declared.Entry.{Entry}
use Rattle.percpu.specs.Cpu as model
use Rattle.percpu.specs.Layout.{timer_at, cpu_words}
use Rattle.percpu.specs.Places.{queue_count, timers_count, local_count, ipi_count}
use Rattle.machine.specs.Machine.{Machine}
use Rattle.machine.specs.Encode.{encode}
use Rattle.machine.specs.Shape.{Fits}
use Rattle.plain_lists.specs.Lists.{Queue}
use Rattle.plain_lists.specs.Lists.{entries_of, Sized}
use Rattle.plain_state.specs.States.{Names}
use Rattle.plain_state.specs.declared.Cpu.{Cpu}
use Rattle.plain_state.specs.States.{timer_of, list_of, cpu_in, NamesSized, CpuSound}

-- a block whose lists have at most 64 items
pub record Counted (w : List ℕ) : Type 0 where
  pub queue : get_or w queue_count 0 ≤ 64
  pub timers : get_or w timers_count 0 ≤ 64
  pub local : get_or w local_count 0 ≤ 64
  pub ipi : get_or w ipi_count 0 ≤ 64

-- lists that fit into their arrays
pub record Short (p : model.Cpu) : Type 0 where
  pub queue : length p.queue ≤ 64
  pub timers : length p.timers ≤ 64
  pub local : length p.local_wakeup_list ≤ 64
  pub ipi : length p.ipi_context_wakeup_list ≤ 64

-- r is what was read of a block's words w
pub record TimersRead (w : List ℕ) (len : ℕ) (r : Queue) : Type 0 where
  pub sized : Sized r
  pub is : map timer_of (entries_of r) ≡ tabulate len (timer_at w)
  pub flat : All (λ (e : Entry). e.key.rem_slice ≡ 0) (entries_of r)

pub record NamesRead (w : List ℕ) (at len : ℕ) (r : Names) : Type 0 where
  pub sized : NamesSized r
  pub is : list_of r ≡ tabulate len (λ (i : ℕ). get_or w (at + i) 0)

pub record CpuRead (w : List ℕ) (r : Cpu) : Type 0 where
  pub sound : CpuSound r
  pub is : (p : model.Cpu) → Short p → w ≡ cpu_words p → cpu_in r ≡ p

-- and of an image m of c CPUs and n contexts
pub record ContextsRead (c n : ℕ) (m : List ℕ) (r : List Context) : Type 0 where
  pub places : length r ≡ 64
  pub is : (M : Machine) → m ≡ encode M → Fits c n M → take n r ≡ M.contexts

pub record CpusRead (c n : ℕ) (m : List ℕ) (r : List Cpu) : Type 0 where
  pub places : length r ≡ 4
  pub sound : All CpuSound r
  pub is : (M : Machine) → m ≡ encode M → Fits c n M → map cpu_in (take c r) ≡ M.cpus
