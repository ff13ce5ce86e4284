-- What is read of an image, and what is asked of one before a call. Assumes nothing.
use Rattle.std.specs.Prelude.{◌≡◌, false, List, ℕ, ◌<◌, ◌≤◌}
use Rattle.numbers.specs.Limits.{max_number, max_elapsed}
use Rattle.machine.specs.Machine.{Machine, cpu_at}
use Rattle.machine.specs.Encode.{encode}
use Rattle.machine.specs.Shape.{Fits}
use Rattle.model.specs.State.{state_of}
use Rattle.model.specs.Turn.{elapsed}
use Rattle.stages.specs.Stage.{Ranged}
use Rattle.switch_ops.specs.declared.Decision.{Decision}
use Rattle.switch_ops.specs.Reply.{TargetBelow}
use Rattle.plain_state.specs.States.{state_in, Sound}
use Rattle.plain_steal.specs.Stealing.{cpus_in, CpusSound}
use Rattle.plain_ops.specs.declared.Loaded.{Loaded}

-- CPU k's state and every CPU, of m
pub record LoadedOf (c n k : ℕ) (m : List ℕ) (r : Loaded) : Type 0 where
  pub sound : Sound n r.state
  pub room : r.state.no_room ≡ false
  pub cpus : CpusSound c r.cpus
  pub state : (M : Machine) → m ≡ encode M → Fits c n M → state_in n r.state ≡ state_of k M
  pub all : (M : Machine) → m ≡ encode M → Fits c n M → cpus_in c r.cpus ≡ M.cpus

-- numbers in document 01's ranges, a turn that is not too long, and a context that there is
pub record Callable (c n k time : ℕ) (d : Decision) (m : List ℕ) : Type 0 where
  pub here : k < c
  pub soon : time ≤ max_number
  pub ranged : Ranged c n max_number max_number m
  pub in_time : (M : Machine) → m ≡ encode M → Fits c n M → elapsed time (cpu_at M k) ≤ max_elapsed
  pub target : TargetBelow n d
