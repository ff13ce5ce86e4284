-- A timer put into a CPU's set, or left out where there is no room. Assumes nothing.
use Rattle.std.specs.Prelude.{Bool, ltb, length, if◌then◌else◌}
use Rattle.entries.specs.declared.Timer.{Timer}
use Rattle.entries.specs.Queue.{timer_insert, without_superseded}
use Rattle.percpu.specs.Cpu.{Cpu}
use Rattle.percpu.specs.With.{cpu_timers}

-- a timer of a new pair would be the 65th
abbrev pub no_room : Timer → Cpu → Bool
no_room t c = ltb 64 (length (timer_insert t c.timers))

abbrev pub timer_put : Timer → Cpu → Cpu
timer_put t c = if no_room t c then c else cpu_timers (timer_insert t c.timers) c

-- the set without the other timers of t's context
abbrev pub newest : Timer → Cpu → Cpu
newest t c = cpu_timers (without_superseded t c.timers) c
