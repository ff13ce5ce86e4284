-- What a turn adds to a CPU's counters. Assumes nothing.
use Rattle.std.specs.Prelude.{Bool, ℕ, ◌+◌, ◌<◌}
use Rattle.columns.specs.Common.{mark}
use Rattle.cpu_stats.specs.declared.CpuState.{CpuState}
use Rattle.cpu_stats.specs.declared.CpuState.TheVariants.{Idle, Kernel, User}
use Rattle.cpu_stats.specs.declared.CpuStats.{CpuStats}
use Rattle.cpu_stats.specs.With.{stats_user, stats_kernel, stats_idle, stats_context_switches, stats_syscall_switches}

-- the milliseconds go to the counter of a state
abbrev pub time_to : CpuState → ℕ → CpuStats → CpuStats
time_to Idle ms c = stats_idle (c.idle + ms) c
time_to Kernel ms c = stats_kernel (c.kernel + ms) c
time_to User ms c = stats_user (c.user + ms) c

-- the milliseconds go to the state that the CPU was in
unfoldable pub time_added : ℕ → CpuStats → CpuStats
time_added ms c = time_to c.state ms c

-- a switch is counted, and counted again as one of a system call if it was made inside of one
abbrev pub switch_added : Bool → CpuStats → CpuStats
switch_added inside c =
    stats_context_switches (c.context_switches + 1) (stats_syscall_switches (c.syscall_switches + mark inside) c)

-- each counter is in document 01's range
pub record CountersBelow (bound : ℕ) (c : CpuStats) : Type 0 where
  pub user : c.user < bound
  pub kernel : c.kernel < bound
  pub idle : c.idle < bound
  pub context_switches : c.context_switches < bound
  pub syscall_switches : c.syscall_switches < bound
