-- A name at the end of a CPU's wake-up lists. Assumes nothing.
use Rattle.std.specs.Prelude.{ℕ, [], ◌∷◌, ◌++◌}
use Rattle.percpu.specs.Cpu.{Cpu}
use Rattle.percpu.specs.With.{cpu_local_wakeup_list, cpu_ipi_context_wakeup_list}

abbrev pub cpu_push_local : ℕ → Cpu → Cpu
cpu_push_local x p = cpu_local_wakeup_list (p.local_wakeup_list ++ (x ∷ [])) p

abbrev pub cpu_push_ipi : ℕ → Cpu → Cpu
cpu_push_ipi x p = cpu_ipi_context_wakeup_list (p.ipi_context_wakeup_list ++ (x ∷ [])) p
