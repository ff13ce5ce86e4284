-- What the code returns of a turn, and what a conversion does to its CPU. Assumes nothing.
use Rattle.std.specs.Prelude.{◌≡◌, List, ℕ, ◌≤◌}
use Rattle.numbers.specs.Limits.{max_elapsed}
use Rattle.ticks.specs.declared.Spent.{Spent}
use Rattle.ticks.specs.Ticks.{ticks, remainder}
use Rattle.percpu.specs.Cpu.{Cpu}
use Rattle.percpu.specs.With.{cpu_remainder}
use Rattle.machine.specs.Machine.{Machine, cpu_at}
use Rattle.machine.specs.Encode.{encode}
use Rattle.machine.specs.Shape.{Fits}
use Rattle.model.specs.Turn.{elapsed, spent, was_idle}
use Rattle.turn.specs.declared.timing.Turn.{Turn}

abbrev pub turn_of : ℕ → Cpu → Turn
turn_of time p = record { spent = spent time p; was_idle = was_idle p }

-- of a turn of so many ns
abbrev pub spent_by : ℕ → Cpu → Spent
spent_by elapsed p = record { elapsed = elapsed; ticks = ticks elapsed p.remainder }

abbrev pub carried : ℕ → Cpu → Cpu
carried elapsed p = cpu_remainder (remainder elapsed p.remainder) p

-- an image of a machine whose turn is not over 2^52 - 1
pub record InTime (c n k time : ℕ) (m : List ℕ) : Type 0 where
  pub M : Machine
  pub eq : m ≡ encode M
  pub fits : Fits c n M
  pub in_time : elapsed time (cpu_at M k) ≤ max_elapsed
