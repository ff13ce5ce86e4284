-- A tidy machine that shows why demand 3 has its condition: a context queued on CPU 1 is named by CPU 0's local list. Assumes nothing.
use Rattle.std.specs.Prelude.{◌≡◌, refl, [], ◌∷◌}
use Rattle.context.specs.With.{with_debug_id}
use Rattle.percpu.specs.With.{cpu_queue, cpu_local_wakeup_list, cpu_idle_ctxt, cpu_current_ctxt, cpu_sched_ctxt, cpu_total_weight, cpu_queue_len}
use Rattle.machine.specs.Machine.{Machine, cpu_at}
use Rattle.model.specs.Schedule.{switch}
use Rattle.model.specs.Opened.{opened}
use Rattle.model_cases.specs.Starred.{idler, worker, queued, start}

-- contexts: 0 idle of CPU 0, 1 the worker, 2 idle of CPU 1
unfoldable pub stray : Machine
stray =
    record {
      contexts = idler ∷ worker ∷ with_debug_id 2 idler ∷ [];
      cpus =
          cpu_queue [] (cpu_local_wakeup_list (1 ∷ []) (cpu_total_weight 0 (cpu_queue_len 0 start)))
          ∷ cpu_idle_ctxt 2 (cpu_current_ctxt 2 (cpu_sched_ctxt 2 start)) ∷ [];
    }

-- after a switch on CPU 0 the worker is in charge there, and still queued on CPU 1
pub stray_in_charge : (cpu_at (switch 0 2250000 stray).machine 0).block.sched_ctxt ≡ 1
unfolding opened idler worker start stray
stray_in_charge = refl

pub stray_queued : (cpu_at (switch 0 2250000 stray).machine 1).queue ≡ queued ∷ []
unfolding opened idler worker start stray
stray_queued = refl
