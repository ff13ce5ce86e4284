-- What the code's answer stands for, and what a call asks for. Assumes nothing.
use Rattle.std.specs.Prelude.{◌≡◌, false, List, ℕ, ◌<◌, ◌≤◌, ltb, eqb, if◌then◌else◌}
use Rattle.numbers.specs.Limits.{max_number, max_elapsed}
use Rattle.ticks.specs.Ticks.{tick_interval}
use Rattle.runnable.specs.Runnable.{update_runnable}
use Rattle.cpu_stats.specs.declared.CpuState.TheVariants.{Idle}
use Rattle.cpu_stats.specs.With.{stats_state}
use Rattle.percpu.specs.Cpu.{Cpu}
use Rattle.percpu.specs.With.{cpu_stats}
use Rattle.machine.specs.Outcome.{Outcome}
use Rattle.answer.specs.declared.SwitchResult.TheVariants.{Switched}
use Rattle.answer.specs.Number.{result_number}
use Rattle.model.specs.State as model
use Rattle.model.specs.State.{at, on_cpu}
use Rattle.model.specs.Turn.{elapsed}
use Rattle.model.specs.SwitchTo.{switch_to, direct_switch_by}
use Rattle.model.specs.Schedule.{finish_by, finish, ticked}
use Rattle.stages.specs.Stage.{StateBelow}
use Rattle.plain_model.specs.State.{placed}
use Rattle.plain_model.specs.Schedule.{switch_inner, direct_switch_or}
use Rattle.plain_state.specs.declared.State.{State}
use Rattle.plain_state.specs.States.{state_in, Sound}
use Rattle.plain_state.specs.Fits.{StateFits}
use Rattle.plain_steal.specs.declared.cpus.Cpus.{Cpus}
use Rattle.plain_steal.specs.Stealing.{cpus_in, CpusSound}
use Rattle.plain_schedule.specs.Next.{CpusReady}
use Rattle.plain_decide.specs.declared.switching.Decided.{Decided}

-- of CPU k, of c CPUs and n contexts: the machine has this CPU's state put back
abbrev pub decided_in : (n c k : ℕ) → Decided → Outcome
decided_in n c k r = finish_by r.rule k (cpus_in c r.cpus) r.result (state_in n r.state)

-- r stands for o where there was room; whether there was, in any case
pub record DecidedTracks (n c k : ℕ) (r : Decided) (o : Outcome) : Type 0 where
  pub sound : Sound n r.state
  pub cpus : CpusSound c r.cpus
  pub room : r.state.no_room ≡ o.no_room
  pub is : o.no_room ≡ false → decided_in n c k r ≡ o

-- what is asked of every CPU, and of this one
pub record CpusHere (n c k : ℕ) (cpus : Cpus) : Type 0 where
  pub all : CpusSound c cpus
  pub others : CpusReady n (cpus_in c cpus)
  pub here : k < c

-- numbers in document 01's ranges, and a turn that is not too long
pub record CanDecide (n time : ℕ) (s : State) : Type 0 where
  pub sound : Sound n s
  pub room : s.no_room ≡ false
  pub fits : StateFits n (state_in n s)
  pub below : StateBelow n max_number max_number (placed (state_in n s))
  pub in_time : elapsed time (state_in n s).cpu ≤ max_elapsed
  pub soon : time ≤ max_number

-- the holder kept the slice
abbrev pub marked_idle : model.State → model.State
marked_idle s = on_cpu (λ (p : Cpu). cpu_stats (stats_state Idle p.block.stats) p) s

-- x got it
abbrev pub switched_to : (k time x : ℕ) → model.State → model.State
switched_to k time x s = if eqb s.cpu.block.current_ctxt x then s else switch_to k time x s

-- the calls, of this CPU's state and every CPU
abbrev pub tick_of : (k time : ℕ) → List Cpu → model.State → Outcome
tick_of k time cpus s =
    if ltb (ticked s).cpu.block.pit_ticks tick_interval then finish k cpus 0 (ticked s) else switch_inner k time cpus (ticked s)

abbrev pub direct_switch_of : (k time x : ℕ) → List Cpu → model.State → Outcome
direct_switch_of k time x cpus s =
    if eqb s.cpu.block.current_ctxt x then finish k cpus (result_number Switched) s else
    direct_switch_or k time cpus s (direct_switch_by k time x s (update_runnable k time (eqb s.cpu.block.sched_ctxt x) false (at s x)))
