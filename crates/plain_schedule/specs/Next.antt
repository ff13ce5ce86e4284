-- What the parts of a decision ask for, and what they leave. Assumes nothing.
use Rattle.std.specs.Prelude.{◌≡◌, false, List, ℕ, ◌<◌, Some, is_some}
use Rattle.columns.specs.Common.{All}
use Rattle.percpu.specs.Cpu.{Cpu}
use Rattle.model.specs.State as model
use Rattle.model.specs.Schedule.{Selected, Scheduled}
use Rattle.plain_model.specs.State.{placed, placed_cpu}
use Rattle.plain_model.specs.Choice.{rule_after}
use Rattle.plain_model.specs.Schedule.{choice_of, choose_and_steal}
use Rattle.stages.specs.Stage.{CpuBelow, StateBelow}
use Rattle.stages.specs.Bounds.{t_timed, b_charged}
use Rattle.plain_state.specs.declared.State.{State}
use Rattle.plain_state.specs.States.{state_in, Sound}
use Rattle.plain_state.specs.Fits.{StateFits}
use Rattle.plain_steal.specs.declared.cpus.Cpus.{Cpus}
use Rattle.plain_steal.specs.Stealing.{cpus_in, CpusSound, CpusFit}
use Rattle.plain_schedule.specs.declared.Next.{Next}

-- what is asked of the CPUs that may be robbed
pub record CpusReady (n : ℕ) (ps : List Cpu) : Type 0 where
  pub fit : CpusFit n ps
  pub below : All (λ (p : Cpu). CpuBelow t_timed b_charged (placed_cpu p)) ps

-- what is asked before the choice
pub record CanChoose (n c k : ℕ) (s : State) (cpus : Cpus) : Type 0 where
  pub sound : Sound n s
  pub room : s.no_room ≡ false
  pub fits : StateFits n (state_in n s)
  pub below : StateBelow n t_timed b_charged (placed (state_in n s))
  pub all : CpusSound c cpus
  pub others : CpusReady n (cpus_in c cpus)
  pub here : k < c

-- of c CPUs and n contexts
abbrev pub next_in : ℕ → ℕ → Next → Scheduled
next_in n c r = record { state = state_in n r.state; cpus = cpus_in c r.cpus; picked = r.context; rule = r.rule }

-- r stands for D where there was room; whether there was, in any case
pub record NextTracks (n c : ℕ) (r : Next) (D : Scheduled) : Type 0 where
  pub sound : Sound n r.state
  pub cpus : CpusSound c r.cpus
  pub room : r.state.no_room ≡ D.state.no_room
  pub is : D.state.no_room ≡ false → next_in n c r ≡ D

-- names in their range; times at most t, virtual times and weights at most b
pub record NextFits (n t b : ℕ) (r : Next) : Type 0 where
  pub fits : StateFits n (state_in n r.state)
  pub below : StateBelow n t b (placed (state_in n r.state))
  pub named : (x : ℕ) → r.context ≡ Some x → x < n

-- the choice and the stealing, where s is the state before them: who won, and by which rule
abbrev pub stolen : (k time : ℕ) → List Cpu → model.State → Scheduled
stolen k time cpus s =
    let l = choose_and_steal k time cpus s in
    record { state = l.state; cpus = l.cpus; picked = l.winner; rule = rule_after (is_some l.winner) (choice_of k time s).rule }

-- who gets the slice
abbrev pub of_selected : Selected → Scheduled
of_selected d = record { state = d.state; cpus = d.cpus; picked = d.next; rule = d.rule }
