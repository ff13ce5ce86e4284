-- The contract of operations 1 to 3 on an image. Assumes nothing.
use Rattle.std.specs.Prelude.{◌≡◌, Bool, false, List, ℕ, set}
use Rattle.percpu.specs.Cpu.{Cpu}
use Rattle.machine.specs.Machine.{Machine, cpu_at}
use Rattle.machine.specs.Encode.{encode}
use Rattle.machine.specs.Shape.{Fits}
use Rattle.machine.specs.Outcome.{Outcome}
use Rattle.model.specs.State.{State, state_of}

-- a call's result and rule
pub record Told : Type 0 where
  pub result : ℕ
  pub rule : ℕ

abbrev pub told : (result rule : ℕ) → Told
told r u = record { result = r; rule = u }

-- where nothing was decided
abbrev pub undecided : ℕ → Told
undecided r = told r 0

-- `full` says whether an insertion found no room; if not, m' stands for the machine after the call, and r is what it tells
pub record DecidesAt (c n : ℕ) (m' : List ℕ) (full : Bool) (r : Told) (o : Outcome) : Type 0 where
  pub room : full ≡ o.no_room
  pub after : full ≡ false → m' ≡ encode o.machine
  pub fits : full ≡ false → Fits c n o.machine
  pub result : full ≡ false → r ≡ told o.result o.rule
  pub interrupt : o.interrupt ≡ false

-- m became m'
pub record Decides (c n : ℕ) (m m' : List ℕ) (full : Bool) (r : Told) (f : Machine → Outcome) : Type 0 where
  pub decides : (M : Machine) → m ≡ encode M → Fits c n M → DecidesAt c n m' full r (f M)

-- the same where CPU k has been taken out of the machine, as in `Part`
pub record Ends (c n k : ℕ) (m m' : List ℕ) (full : Bool) (r : Told) (f : List Cpu → State → Outcome) : Type 0 where
  pub ends : (M : Machine) → m ≡ encode M → Fits c n M → (cpus : List Cpu) → set cpus k (cpu_at M k) ≡ M.cpus
      → DecidesAt c n m' full r (f cpus (state_of k M))
