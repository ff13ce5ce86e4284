-- What a decision needs of the image when it begins. Assumes nothing.
use Rattle.std.specs.Prelude.{◌≡◌, List, ℕ, ◌≤◌, false, Result, Ok, Err}
use Rattle.table.specs.declared.NoRoom.{NoRoom}
use Rattle.turn.specs.declared.timing.Turn.{Turn}
use Rattle.machine.specs.Machine.{Machine, cpu_at}
use Rattle.machine.specs.Encode.{encode}
use Rattle.machine.specs.Shape.{Fits}
use Rattle.model.specs.State.{state_of, on_cpu}
use Rattle.model.specs.Turn.{count_switch, elapsed}
use Rattle.stages.specs.Stage.{Below, StateBelow}
use Rattle.numbers.specs.Limits.{max_number, max_elapsed}
use Rattle.stages.specs.Bounds.{t_counted}

-- times and counters are at most 2^62 before the switch is counted and after it, and the turn is not over 2^52 - 1
pub record CanBegin (c n k time : ℕ) (m : List ℕ) : Type 0 where
  pub M : Machine
  pub eq : m ≡ encode M
  pub fits : Fits c n M
  pub below : Below c n t_counted max_number M
  pub counted : StateBelow n t_counted max_number (on_cpu count_switch (state_of k M))
  pub in_time : elapsed time (cpu_at M k) ≤ max_elapsed

-- the turn; where there was no room nothing is said of it
abbrev pub turn_in : Result Turn NoRoom → Turn
turn_in (Ok turn) = turn
turn_in (Err e) = record { spent = record { elapsed = 0; ticks = 0 }; was_idle = false }
