-- The calls that decide as the source has them: every due timer is taken out, one put in removes none, and what a tick conversion leaves
-- over is lost. Assumes nothing.
use Rattle.std.specs.Prelude.{if◌then◌else◌, None, Option, Some}
use mathlib.Core.Bool.{not, false}
use mathlib.Core.List.{List, []}
use Prim.Native.Nat.{ℕ, ◌/◌}
use lib.Dec.{ltb, eqb}
use Rattle.numbers.specs.Limits.{nanos_per_millisecond}
use Rattle.cpu_stats.specs.Counted.{time_added}
use Rattle.columns.specs.Common.{fold, keep}
use Rattle.ticks.specs.declared.Spent.{Spent}
use Rattle.ticks.specs.Ticks.{ticks, tick_interval}
use Rattle.answer.specs.declared.SwitchResult.TheVariants.{Switched}
use Rattle.answer.specs.Number.{result_number}
use Rattle.context.specs.Status.{is_runnable}
use Rattle.charging.specs.Charge.{charged}
use Rattle.entries.specs.Order.{is_due}
use Rattle.runnable.specs.Runnable.{update_runnable}
use Rattle.percpu.specs.Cpu.{Cpu}
use Rattle.percpu.specs.With.{cpu_timers, cpu_local_wakeup_list, cpu_stats, cpu_schedule_time}
use Rattle.machine.specs.Machine.{Machine}
use Rattle.model.specs.State.{State, at, on_cpu, put_context, insert_timer, state_of, holder, is_idle}
use Rattle.model.specs.Wakeup.{wakeups, serve_wakeup}
use Rattle.model.specs.Turn.{count_switch, elapsed, times, spent, was_idle, inactive}
use Rattle.model.specs.SwitchTo.{direct_switch_by, try_direct_switch_back}
use Rattle.model.specs.Schedule.{Outcome, Scheduled, Selected, finish, ticked, selected, picked_as, after_schedule}
use Rattle.model.specs.Accepted.{Call, by_tick, by_switch, by_direct_switch}

-- how a turn is measured and kept: as the source does, and with the remainder carried
pub record Clock : Type 0 where
  pub spent : ℕ → Cpu → Spent
  pub times : ℕ → Cpu → Cpu

abbrev pub source_clock : Clock
source_clock =
    record {
      spent = λ time p. record { elapsed = elapsed time p; ticks = ticks (elapsed time p) 0 };
      times = λ time p. cpu_schedule_time time (cpu_stats (time_added (elapsed time p / nanos_per_millisecond) p.block.stats) p);
    }

abbrev pub carrying_clock : Clock
carrying_clock = record { spent = spent; times = times }

-- `drained` and `holder_stopped`, the two other places in which they differ
abbrev pub source_drained : ℕ → State → State
source_drained time s =
    on_cpu (λ p. cpu_timers (keep (λ t. not (is_due time t)) p.timers) (cpu_local_wakeup_list [] p)) s

unfoldable pub source_holder_stopped : State → State
source_holder_stopped s =
    if (holder s).has_wake
    then insert_timer (record { wake = (holder s).wake; context_ref = s.cpu.block.sched_ctxt }) (inactive s)
    else inactive s

-- from here on as in model/specs/Wakeup, Turn and Schedule
unfoldable pub source_serve_wakeups : ℕ → State → State
source_serve_wakeups time s = fold serve_wakeup (source_drained time s) (wakeups time s)

unfoldable pub source_before_selection : Clock → ℕ → State → State
source_before_selection clock time s = on_cpu (clock.times time) (source_serve_wakeups time (on_cpu count_switch s))

unfoldable pub source_charge_holder : Spent → State → State
source_charge_holder spent s =
    if is_idle s then s else
    if is_runnable (holder s).status
    then put_context s.cpu.block.sched_ctxt (charged s.cpu.block.v spent (holder s)) s
    else source_holder_stopped s

unfoldable pub source_select_next_context : (k time : ℕ) → Spent → List Cpu → State → Selected
source_select_next_context k time spent cpus s = selected k time spent cpus (source_charge_holder spent s)

module _ (clock : Clock) (k time : ℕ) where
  unfoldable pub source_schedule : List Cpu → State → Scheduled
  source_schedule cpus s =
      let d = source_select_next_context k time (clock.spent time s.cpu) cpus (source_before_selection clock time s) in
      picked_as time (was_idle s.cpu) d.rule d.cpus d.next d.state

  unfoldable pub source_switch_inner_by : List Cpu → State → Option State → Outcome
  source_switch_inner_by cpus s (Some s') = finish k cpus (result_number Switched) s'
  source_switch_inner_by cpus s None = after_schedule k time (source_schedule cpus s)

  unfoldable pub source_switch_inner : List Cpu → State → Outcome
  source_switch_inner cpus s = source_switch_inner_by cpus s (try_direct_switch_back k time s)

  unfoldable pub source_tick : Machine → Outcome
  source_tick M =
      let s = ticked (state_of k M) in
      if ltb s.cpu.block.pit_ticks tick_interval then finish k M.cpus 0 s else source_switch_inner M.cpus s

  unfoldable pub source_direct_switch_or : List Cpu → State → Option State → Outcome
  source_direct_switch_or cpus s (Some s') = finish k cpus (result_number Switched) s'
  source_direct_switch_or cpus s None = source_switch_inner cpus s

  unfoldable pub source_direct_switch_to : ℕ → Machine → Outcome
  source_direct_switch_to x M =
      let s = state_of k M in
      if eqb s.cpu.block.current_ctxt x then finish k M.cpus (result_number Switched) s else
      source_direct_switch_or M.cpus s
      (direct_switch_by k time x s (update_runnable k time (eqb s.cpu.block.sched_ctxt x) false (at s x)))

  abbrev pub source_outcome : Call → Machine → Outcome
  source_outcome by_tick M = source_tick M
  source_outcome by_switch M = source_switch_inner M.cpus (state_of k M)
  source_outcome (by_direct_switch x) M = source_direct_switch_to x M
