-- Small machines for the cases, out of document 01's worked example: 0 is the idle context of CPU 0, in charge, and 1 a worker of
-- priority 20, whose weight is 1024. Assumes nothing.
use Rattle.std.specs.Prelude.{true, false, [], ◌∷◌}
use Rattle.context.specs.declared.Context.{Context}
use Rattle.context.specs.declared.Status.TheVariants.{Blocked}
use Rattle.context.specs.Key.{without_key}
use Rattle.context.specs.With.{with_debug_id, with_status, with_running, with_currently_scheduled, with_has_wake, with_wake, with_is_active}
use Rattle.percpu.specs.Cpu.{Cpu}
use Rattle.percpu.specs.With.{cpu_queue, cpu_timers, cpu_local_wakeup_list, cpu_total_weight, cpu_queue_len, cpu_current_ctxt, cpu_sched_ctxt, cpu_idle_ctxt}
use Rattle.machine.specs.Machine.{Machine}
use Rattle.model_cases.specs.Starred.{idler, worker, queued, start}

-- the entry weighs 2000, and so does the total
unfoldable pub heavy : Machine
heavy =
    record {
      contexts = idler ∷ worker ∷ [];
      cpus = cpu_total_weight 2000 (cpu_queue (record { key = queued.key; vtime = 0; weight = 2000; context_ref = 1 } ∷ []) start) ∷ [];
    }

-- the queued worker is not active
unfoldable pub asleep : Machine
asleep = record { contexts = idler ∷ with_is_active false worker ∷ []; cpus = start ∷ [] }

abbrev pub in_charge : Context → Context
in_charge x = without_key (with_running true (with_currently_scheduled true x))

-- 1 is in charge, runnable and not active; 2 is the worker
unfoldable pub uncounted : Machine
uncounted =
    record {
      contexts = with_running false (with_currently_scheduled false idler) ∷ with_is_active false (in_charge worker) ∷ with_debug_id 2 worker ∷ [];
      cpus =
          cpu_queue (record { key = record { vd = 9437184; rem_slice = 9663676416; ctxt_id = 2 }; vtime = 0; weight = 1024; context_ref = 2 } ∷ [])
          (cpu_current_ctxt 1 (cpu_sched_ctxt 1 start)) ∷ [];
    }

-- a CPU without entries
abbrev pub empty : Cpu → Cpu
empty p = cpu_queue [] (cpu_queue_len 0 (cpu_total_weight 0 p))

-- the worker is active, but not queued: the local list names it
unfoldable pub counted_already : Machine
counted_already = record { contexts = idler ∷ without_key worker ∷ []; cpus = cpu_local_wakeup_list (1 ∷ []) (empty start) ∷ [] }

-- the idle context is active, and counted; it has stopped being runnable, or it would be one of those who may not be active
unfoldable pub idle_counted : Machine
idle_counted = record { contexts = with_status Blocked (with_is_active true idler) ∷ worker ∷ []; cpus = cpu_total_weight 2048 start ∷ [] }

-- CPU 1 has 1 in charge, which is blocked until 1000 and not active; the timer stands on CPU 0
unfoldable pub blocked_in_charge : Machine
blocked_in_charge =
    record {
      contexts =
          idler
          ∷ with_is_active false (with_status Blocked (with_has_wake true (with_wake 1000 (in_charge worker))))
          ∷ with_debug_id 2 (with_running false (with_currently_scheduled false idler)) ∷ [];
      cpus =
          cpu_timers (record { wake = 1000; context_ref = 1 } ∷ []) (empty start)
          ∷ cpu_idle_ctxt 2 (cpu_current_ctxt 1 (cpu_sched_ctxt 1 (empty start))) ∷ [];
    }
