-- An entry put into a CPU's queue, or left out where there is no room. Assumes nothing.
use Rattle.std.specs.Prelude.{Bool, ltb, length, if◌then◌else◌}
use Rattle.entries.specs.declared.Entry.{Entry}
use Rattle.entries.specs.Queue.{queue_insert}
use Rattle.percpu.specs.Cpu.{Cpu}
use Rattle.percpu.specs.With.{cpu_queue}

-- an entry of a new key would be the 65th
abbrev pub no_room : Entry → Cpu → Bool
no_room e c = ltb 64 (length (queue_insert e c.queue))

abbrev pub queue_put : Entry → Cpu → Cpu
queue_put e c = if no_room e c then c else cpu_queue (queue_insert e c.queue) c
