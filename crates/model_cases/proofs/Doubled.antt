-- What tidy and demand 3 must not let pass: one row twice side by side in a queue; a switch that stores no total weight.
use mathlib.Core.Path.{refl}
use mathlib.Core.List.{[], ◌∷◌}
use native.Mathlib.Omega.{arith}
use Rattle.percpu.specs.With.{cpu_queue, cpu_queue_len, cpu_total_weight, cpu_v}
use Rattle.machine.specs.Machine.{Machine, cpu_at}
use Rattle.model.specs.Opened.{opened}
use Rattle.model.specs.Schedule.{switch}
use Rattle.model.specs.Tidy.{Tidy}
use Rattle.model.specs.Demand3.{Demand3}
use Rattle.model_cases.specs.Starred.{idler, worker, queued, start, worked}

-- the worked example with its row written twice
unfoldable pub doubled : Machine
doubled = record { contexts = idler ∷ worker ∷ []; cpus = cpu_queue_len 2 (cpu_queue (queued ∷ queued ∷ []) start) ∷ [] }

pub doubled_untidy : Tidy doubled → ⊥
unfolding opened start doubled
doubled_untidy t =
    let (i, p) = t.one_entry queued queued 0 0 0 1 (record { present = refl; stands = refl }) (record { present = refl; stands = refl }) refl in
    omega arith

-- the worked example after a switch, but with total weight 0 and V where it was
unfoldable pub weightless : Machine
weightless =
    let M = (switch 0 2250000 worked).machine in
    record { contexts = M.contexts; cpus = cpu_v 0 (cpu_total_weight 0 (cpu_at M 0)) ∷ [] }

pub weightless_refused : Demand3 0 2250000 worked weightless → ⊥
unfolding opened idler worker start worked weightless
weightless_refused d = let z = d.total_weight in omega arith
