-- What the parts of a turn ask of a state, and what they leave. Assumes nothing.
use Rattle.std.specs.Prelude.{◌≡◌, false, ℕ, ◌<◌, ◌≤◌, if◌then◌else◌}
use Rattle.numbers.specs.Limits.{max_number, max_elapsed}
use Rattle.context.specs.declared.Context.{Context}
use Rattle.context.specs.Status.{is_runnable}
use Rattle.ticks.specs.declared.Spent.{Spent}
use Rattle.ticks.specs.Ticks.{max_ticks}
use Rattle.charging.specs.Charge.{charged}
use Rattle.percpu.specs.declared.PercpuBlock.{PercpuBlock}
use Rattle.percpu.specs.Cpu.{Cpu}
use Rattle.percpu.specs.With.{cpu_block, cpu_remainder}
use Rattle.model.specs.State.{State, at, put_context, on_cpu, holder}
use Rattle.model.specs.Turn.{count_switch, elapsed, spent, was_idle}
use Rattle.plain_model.specs.State.{placed}
use Rattle.plain_model.specs.Turn.{holder_stopped, before_choice}
use Rattle.stages.specs.Stage.{StateBelow}
use Rattle.stages.specs.Bounds.{t_counted, t_timed, b_woken, b_charged}
use Rattle.plain_state.specs.States.{state_in, Tracks}
use Rattle.plain_state.specs.Fits.{StateFits}
use Rattle.plain_turn.specs.declared.Turned.{Turned}

-- another block and another remainder
abbrev pub with_turn : PercpuBlock → ℕ → State → State
with_turn b r s = on_cpu (λ (p : Cpu). cpu_remainder r (cpu_block b p)) s

-- the holder, which is not idle, pays or stops
abbrev pub charged_as : Spent → State → State
charged_as spent s =
    if is_runnable (holder s).status
    then put_context s.cpu.block.sched_ctxt (charged s.cpu.block.v spent (holder s)) s
    else holder_stopped s

-- x is the holder, and q its record
pub record Held (n : ℕ) (s : State) (x : ℕ) (q : Context) : Type 0 where
  pub below : x < n
  pub name : x ≡ s.cpu.block.sched_ctxt
  pub is : q ≡ at s x

-- times and counters are at most 2^62 before the switch is counted and after it, and the turn is not over 2^52 - 1
pub record CanBegin (n time : ℕ) (s : State) : Type 0 where
  pub fits : StateFits n s
  pub below : StateBelow n t_counted max_number (placed s)
  pub counted : StateBelow n t_counted max_number (placed (on_cpu count_switch s))
  pub in_time : elapsed time s.cpu ≤ max_elapsed

-- before its time is kept, once wake-ups are served
pub record CanTime (n time : ℕ) (s : State) : Type 0 where
  pub fits : StateFits n s
  pub below : StateBelow n t_counted b_woken (placed s)
  pub in_time : elapsed time s.cpu ≤ max_elapsed

-- after
pub record Timed (n : ℕ) (s : State) : Type 0 where
  pub fits : StateFits n s
  pub below : StateBelow n t_timed b_woken (placed s)

-- before the holder pays
pub record CanPay (n : ℕ) (spent : Spent) (s : State) : Type 0 where
  pub timed : Timed n s
  pub ticks : spent.ticks ≤ max_ticks

-- what the turn comes to, from s on; the rest where there was room
pub record TurnEnds (n time : ℕ) (s : State) (r : Turned) : Type 0 where
  pub tracks : Tracks n r.state (before_choice time s)
  pub spends : r.spent ≡ spent time s.cpu
  pub idled : r.was_idle ≡ was_idle s.cpu
  pub few : r.spent.ticks ≤ max_ticks
  pub fits : r.state.no_room ≡ false → StateFits n (state_in n r.state)
  pub below : r.state.no_room ≡ false → StateBelow n t_timed b_charged (placed (state_in n r.state))
