-- The contract of a part of a decision that may change other CPUs than CPU k, as stealing does. Assumes nothing.
use Rattle.std.specs.Prelude.{◌≡◌, Bool, false, List, ℕ, set, Option, None, is_some, Ok, Err}
use Rattle.std.specs.Prelude as prelude
use Rattle.answer.specs.declared.Rule.TheVariants.{Idle}
use Rattle.table.specs.declared.NoRoom.{NoRoom}
use Rattle.schedule.specs.declared.selecting.Next.{Next}
use Rattle.answer.specs.declared.Rule.{Rule}
use Rattle.percpu.specs.Cpu.{Cpu}
use Rattle.machine.specs.Machine.{Machine, cpu_at}
use Rattle.machine.specs.Encode.{encode}
use Rattle.machine.specs.Shape.{Fits, Image}
use Rattle.model.specs.State.{State, state_of}
use Rattle.model.specs.Rule.{rule_of}
use Rattle.model.specs.Schedule.{Selected, Scheduled, scanned, choose_and_steal}

-- what a part gives: the state, every CPU (this one as it was), and an answer
pub record Result (R : Type 0) : Type 0 where
  pub state : State
  pub cpus : List Cpu
  pub answer : R

-- who, and by which rule
pub record Ruled : Type 0 where
  pub who : Option ℕ
  pub rule : Rule

abbrev pub ruled : Option ℕ → Rule → Ruled
ruled w u = record { who = w; rule = u }

-- where there was no room nothing is said of them
abbrev pub ruled_of : prelude.Result Next NoRoom → Ruled
ruled_of (Ok next) = ruled next.context next.rule
ruled_of (Err e) = ruled None Idle

-- the choice and the stealing, where s is the state before them
abbrev pub chosen_by : (k time : ℕ) → List Cpu → State → Result Ruled
chosen_by k time cpus s =
    let l = choose_and_steal k time cpus s in
    record { state = l.state; cpus = l.cpus; answer = ruled l.winner (rule_of s (is_some l.winner) (scanned k time s)) }

abbrev pub of_selected : Selected → Result Ruled
of_selected d = record { state = d.state; cpus = d.cpus; answer = ruled d.next d.rule }

abbrev pub of_scheduled : Scheduled → Result Ruled
of_scheduled d = record { state = d.state; cpus = d.cpus; answer = ruled d.picked d.rule }

-- the CPUs with the state of CPU k put in
abbrev pub put_in : ℕ → List Cpu → State → Machine
put_in k cpus s = record { contexts = s.contexts; cpus = set cpus k s.cpu }

-- `full` says whether an insertion found no room; if not, m' stands for the result, and r is its answer
pub record PartAt {R : Type 0} (c n k : ℕ) (m' : List ℕ) (full : Bool) (r : R) (p : Result R) : Type 0 where
  pub room : full ≡ p.state.no_room
  pub after : full ≡ false → m' ≡ encode (put_in k p.cpus p.state)
  pub fits : full ≡ false → Fits c n (put_in k p.cpus p.state)
  pub answer : full ≡ false → r ≡ p.answer

-- m became m'. A decision takes CPU k out of the machine when it begins: `cpus` are M's, but for CPU k, which is as it was then
pub record Part {R : Type 0} (c n k : ℕ) (m m' : List ℕ) (full : Bool) (r : R) (f : List Cpu → State → Result R) : Type 0 where
  pub image : full ≡ false → Image c n m'
  pub part : (M : Machine) → m ≡ encode M → Fits c n M → (cpus : List Cpu) → set cpus k (cpu_at M k) ≡ M.cpus
      → PartAt c n k m' full r (f cpus (state_of k M))
