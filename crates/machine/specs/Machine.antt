-- A machine: its contexts and its CPUs. Assumes nothing.
use Rattle.std.specs.Prelude.{ℕ, List, [], get_or, set}
use Rattle.context.specs.declared.Context.{Context}
use Rattle.context.specs.Words.{context_of}
use Rattle.percpu.specs.Cpu.{Cpu}
use Rattle.percpu.specs.Words.{block_of}

pub record Machine : Type 0 where
  pub contexts : List Context
  pub cpus : List Cpu

-- what a list gives past its end
unfoldable pub no_context : Context
no_context = context_of []

unfoldable pub no_cpu : Cpu
no_cpu = record { block = block_of []; queue = []; timers = []; local_wakeup_list = []; ipi_context_wakeup_list = []; remainder = 0 }

-- the context of a number, and the CPU of a number
abbrev pub context_at : List Context → ℕ → Context
context_at cs x = get_or cs x no_context

unfoldable pub cpu_at : Machine → ℕ → Cpu
cpu_at M k = get_or M.cpus k no_cpu

abbrev pub with_contexts : List Context → Machine → Machine
with_contexts cs M = record { contexts = cs; cpus = M.cpus }

abbrev pub set_context : ℕ → Context → Machine → Machine
set_context x c M = with_contexts (set M.contexts x c) M

abbrev pub set_cpu : ℕ → Cpu → Machine → Machine
set_cpu k p M = record { contexts = M.contexts; cpus = set M.cpus k p }
