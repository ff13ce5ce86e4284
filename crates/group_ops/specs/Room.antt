-- Room on wake-up lists. Assumes nothing.
use Rattle.std.specs.Prelude.{ℕ, ◌+◌, ◌≤◌, length}
use Rattle.percpu.specs.Cpu.{Cpu}

-- both lists of a CPU have room for `count` names more
pub record HasRoom (count : ℕ) (p : Cpu) : Type 0 where
  pub local : length p.local_wakeup_list + count ≤ 64
  pub ipi : length p.ipi_context_wakeup_list + count ≤ 64
