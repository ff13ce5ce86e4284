-- Document 02, No. 8, of a call on a machine: the turn that it ends, what that is charged by, and the remainders that it leaves. Assumes nothing.
use Rattle.std.specs.Prelude.{◌≡◌, ◌≢◌, ◌&&◌, ℕ, eqb, if◌then◌else◌}
use Rattle.ticks.specs.declared.Spent.{Spent}
use Rattle.ticks.specs.Ticks.{remainder}
use Rattle.percpu.specs.With.{cpu_remainder}
use Rattle.machine.specs.Machine.{Machine, cpu_at, set_cpu}
use Rattle.model.specs.State.{state_of}
use Rattle.model.specs.Turn.{elapsed, spent, was_idle, before_selection}
use Rattle.model.specs.Schedule.{Outcome, select_next_context, picked_as, after_schedule}
use Rattle.model.specs.Accepted.{Call, decides}

-- the decision whose holder is charged for `turn`, and whose V gains by its ticks
abbrev pub decision_by : (turn : Spent) (k time : ℕ) → Machine → Outcome
decision_by turn k time M =
    let d = select_next_context k time turn M.cpus (before_selection time (state_of k M)) in
    after_schedule k time (picked_as time (was_idle (cpu_at M k)) d.rule d.cpus d.next d.state)

-- of a call of operations 1 to 3 on a CPU: the turn of CPU k that it ends, 0 ns and 0 ticks where it decides nothing or another CPU decides
abbrev pub no_turn : Spent
no_turn = record { elapsed = 0; ticks = 0 }

abbrev pub turn_ended : (k : ℕ) → Machine → Call → (cpu time : ℕ) → Spent
turn_ended k M call cpu time = if eqb cpu k && decides cpu time M call then spent time (cpu_at M cpu) else no_turn

-- M' is left of M by a decision of CPU k
pub record Turned (k time : ℕ) (M M' : Machine) : Type 0 where
  pub here : (cpu_at M' k).remainder ≡ remainder (elapsed time (cpu_at M k)) (cpu_at M k).remainder
  pub there : (j : ℕ) → j ≢ k → (cpu_at M' j).remainder ≡ (cpu_at M j).remainder

-- the same outcome, but for the remainder of CPU k
abbrev pub carrying : (k r : ℕ) → Machine → Machine
carrying k r M = set_cpu k (cpu_remainder r (cpu_at M k)) M

abbrev pub outcome_carrying : (k r : ℕ) → Outcome → Outcome
outcome_carrying k r o =
    record { machine = carrying k r o.machine; result = o.result; interrupt = o.interrupt; rule = o.rule; no_room = o.no_room }
