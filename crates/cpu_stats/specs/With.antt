-- A CPU's statistics with one field changed. Written by tools/records.py.
use Rattle.std.specs.Prelude.{ℕ, Bool, true, false, ◌≡◌, refl, List, [], ◌∷◌, ◌++◌, eqb, length, get_or}
use Rattle.cpu_stats.specs.declared.CpuStats.{CpuStats}
use Rattle.cpu_stats.specs.declared.CpuState.{CpuState}

abbrev pub stats_state : CpuState → CpuStats → CpuStats
stats_state x c =
    record {
      state = x;
      user = c.user;
      kernel = c.kernel;
      idle = c.idle;
      context_switches = c.context_switches;
      syscall_switches = c.syscall_switches;
    }

abbrev pub stats_user : ℕ → CpuStats → CpuStats
stats_user x c =
    record {
      state = c.state;
      user = x;
      kernel = c.kernel;
      idle = c.idle;
      context_switches = c.context_switches;
      syscall_switches = c.syscall_switches;
    }

abbrev pub stats_kernel : ℕ → CpuStats → CpuStats
stats_kernel x c =
    record {
      state = c.state;
      user = c.user;
      kernel = x;
      idle = c.idle;
      context_switches = c.context_switches;
      syscall_switches = c.syscall_switches;
    }

abbrev pub stats_idle : ℕ → CpuStats → CpuStats
stats_idle x c =
    record {
      state = c.state;
      user = c.user;
      kernel = c.kernel;
      idle = x;
      context_switches = c.context_switches;
      syscall_switches = c.syscall_switches;
    }

abbrev pub stats_context_switches : ℕ → CpuStats → CpuStats
stats_context_switches x c =
    record {
      state = c.state;
      user = c.user;
      kernel = c.kernel;
      idle = c.idle;
      context_switches = x;
      syscall_switches = c.syscall_switches;
    }

abbrev pub stats_syscall_switches : ℕ → CpuStats → CpuStats
stats_syscall_switches x c =
    record {
      state = c.state;
      user = c.user;
      kernel = c.kernel;
      idle = c.idle;
      context_switches = c.context_switches;
      syscall_switches = x;
    }
