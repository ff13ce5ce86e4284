-- The two wake-up lists of a CPU by name: where a list stands in the block, and the CPU with it changed. Assumes nothing.
use Rattle.std.specs.Prelude.{ℕ, List}
use Rattle.percpu.specs.Cpu.{Cpu}
use Rattle.percpu.specs.With.{cpu_local_wakeup_list, cpu_ipi_context_wakeup_list}
use Rattle.percpu.specs.Lists.{cpu_push_local, cpu_push_ipi}
use Rattle.percpu.specs.Places.{local_count, ipi_count, local_wakeup_list_column, ipi_context_wakeup_list_column}
use Rattle.wakeup_lists.specs.declared.WakeupList.{WakeupList}
use Rattle.wakeup_lists.specs.declared.WakeupList.TheVariants.{Local, Ipi}

-- where a list's 64 names begin, and where their count stands
abbrev pub names_place : WakeupList → ℕ
names_place Local = local_wakeup_list_column
names_place Ipi = ipi_context_wakeup_list_column

abbrev pub count_place : WakeupList → ℕ
count_place Local = local_count
count_place Ipi = ipi_count

abbrev pub names : WakeupList → Cpu → List ℕ
names Local p = p.local_wakeup_list
names Ipi p = p.ipi_context_wakeup_list

abbrev pub with_names : WakeupList → List ℕ → Cpu → Cpu
with_names Local = cpu_local_wakeup_list
with_names Ipi = cpu_ipi_context_wakeup_list

-- a name at the end
abbrev pub cpu_push : WakeupList → ℕ → Cpu → Cpu
cpu_push Local = cpu_push_local
cpu_push Ipi = cpu_push_ipi
