-- Small machines of two CPUs, out of document 01's worked example: 0 is the idle context of CPU 0, 2 that of CPU 1, and 1 a worker that both may
-- run. Assumes nothing.
use Rattle.std.specs.Prelude.{[], ◌∷◌, false}
use Rattle.context.specs.declared.Context.{Context}
use Rattle.context.specs.With.{with_debug_id, with_sched_affinity, with_cpu_id}
use Rattle.cpu_stats.specs.With.{stats_context_switches}
use Rattle.percpu.specs.Cpu.{Cpu}
use Rattle.percpu.specs.With.{cpu_queue, cpu_local_wakeup_list, cpu_stealable, cpu_idle_ctxt, cpu_current_ctxt, cpu_sched_ctxt, cpu_total_weight, cpu_published_weight, cpu_queue_len, cpu_steal_counter, cpu_stats}
use Rattle.machine.specs.Machine.{Machine}
use Rattle.numbers.specs.Limits.{max_number}
use Rattle.model_cases.specs.Starred.{idler, worker, start}

abbrev idler_there : Context
idler_there = with_debug_id 2 (with_cpu_id 2 idler)

-- a CPU without entries
abbrev empty : Cpu → Cpu
empty p = cpu_queue [] (cpu_stealable false (cpu_queue_len 0 (cpu_published_weight 0 (cpu_total_weight 0 p))))

-- CPU 1, with the worker queued
abbrev there : Cpu
there = cpu_idle_ctxt 2 (cpu_current_ctxt 2 (cpu_sched_ctxt 2 start))

-- the worker is queued on CPU 1 and on the local list of CPU 0
unfoldable pub listed_elsewhere : Machine
listed_elsewhere =
    record { contexts = idler ∷ with_sched_affinity 3 worker ∷ idler_there ∷ []; cpus = cpu_local_wakeup_list (1 ∷ []) (empty start) ∷ there ∷ [] }

-- it is queued on CPU 1, and the switch of CPU 0 falls on a stealing turn
unfoldable pub stolen_first : Machine
stolen_first =
    record { contexts = idler ∷ with_sched_affinity 3 worker ∷ idler_there ∷ []; cpus = cpu_steal_counter 0 (empty start) ∷ there ∷ [] }

-- nobody waits, and the switches of CPU 0 are at the greatest count
unfoldable pub counted_out : Machine
counted_out =
    record { contexts = idler ∷ with_sched_affinity 3 worker ∷ idler_there ∷ []; cpus = cpu_stats (stats_context_switches max_number start.block.stats) (empty start) ∷ there ∷ [] }
