-- Five switches of an idle CPU, 1 ns apart and from 0 on, by computing. Assumes nothing.
use Rattle.std.specs.Prelude.{◌≡◌, refl, List, [], ◌∷◌, ℕ, ◌+◌}
use Rattle.percpu.specs.With.{cpu_queue, cpu_queue_len, cpu_total_weight}
use Rattle.machine.specs.Machine.{Machine, cpu_at}
use Rattle.model.specs.Schedule.{switch}
use Rattle.model.specs.Accepted.{by_switch}
use Rattle.model.specs.Opened.{opened}
use Rattle.model_cases.specs.Starred.{idler, start}
use Rattle.model_ticks.specs.Turns.{turn_ended}

-- the idle context, and a CPU on which nobody waits
unfoldable pub resting : Machine
resting = record { contexts = idler ∷ []; cpus = cpu_total_weight 0 (cpu_queue_len 0 (cpu_queue [] start)) ∷ [] }

unfoldable pub given_by : Machine → List ℕ → ℕ
given_by M [] = 0
given_by M (time ∷ times) = (turn_ended 0 M by_switch 0 time).ticks + given_by (switch 0 time M).machine times

unfoldable pub left_by : Machine → List ℕ → ℕ
left_by M [] = (cpu_at M 0).remainder
left_by M (time ∷ times) = left_by (switch 0 time M).machine times

-- one alone gives 477; five of those would give 2,385
pub five_idle_turns : (given_by resting (1 ∷ 2 ∷ 3 ∷ 4 ∷ 5 ∷ []) ≡ 2386) × (left_by resting (1 ∷ 2 ∷ 3 ∷ 4 ∷ 5 ∷ []) ≡ 209120)
unfolding opened idler start resting given_by left_by
five_idle_turns = (refl, refl)
