-- Counting, times, and what the holder pays. Assumes nothing.
use Rattle.std.specs.Prelude.{Bool, ℕ, ◌-◌, ◌/◌, if◌then◌else◌}
use Rattle.context.specs.Status.{is_runnable}
use Rattle.cpu_stats.specs.State.{is_idle_state}
use Rattle.ticks.specs.declared.Spent.{Spent}
use Rattle.ticks.specs.Ticks.{ticks, remainder}
use Rattle.weights.specs.Weights.{weight}
use Rattle.charging.specs.Charge.{charged, stopped}
use Rattle.percpu.specs.Cpu.{Cpu}
use Rattle.percpu.specs.With.{cpu_pit_ticks, cpu_stats, cpu_schedule_time, cpu_total_weight, cpu_remainder}
use Rattle.model.specs.State.{State, put_context, on_cpu, insert_newest_timer, holder, is_idle}
use Rattle.model.specs.Wakeup.{serve_wakeups}
use Rattle.numbers.specs.Limits.{nanos_per_millisecond}
use Rattle.cpu_stats.specs.Counted.{time_added, switch_added}

-- a decision is counted, and the tick count starts again
abbrev pub count_switch : Cpu → Cpu
count_switch p = cpu_pit_ticks 0 (cpu_stats (switch_added p.block.inside_syscall p.block.stats) p)

-- nanoseconds since the CPU's last decision; a clock gone back gives 0
abbrev pub elapsed : ℕ → Cpu → ℕ
elapsed time p = time - p.block.schedule_time

-- the turn as it is charged, and as V gains by it: one conversion, with what the last one left
abbrev pub spent : ℕ → Cpu → Spent
spent time p = record { elapsed = elapsed time p; ticks = ticks (elapsed time p) p.remainder }

abbrev pub was_idle : Cpu → Bool
was_idle p = is_idle_state p.block.stats.state

-- of every decision, whoever is in charge: the conversion's remainder stays for the next one
unfoldable pub times : ℕ → Cpu → Cpu
times time p =
    cpu_remainder (remainder (elapsed time p) p.remainder)
    (cpu_schedule_time time
    (cpu_stats (time_added (elapsed time p / nanos_per_millisecond) p.block.stats) p))

-- a holder that is not runnable leaves the weight, and its wake becomes a timer
abbrev pub inactive : State → State
inactive s =
    let c = holder s in
    put_context s.cpu.block.sched_ctxt (stopped c)
    (on_cpu (λ p. cpu_total_weight (if c.is_active then p.block.total_weight - weight c.prio else p.block.total_weight) p) s)

unfoldable pub holder_stopped : State → State
holder_stopped s =
    if (holder s).has_wake
    then insert_newest_timer (record { wake = (holder s).wake; context_ref = s.cpu.block.sched_ctxt }) (inactive s)
    else inactive s

unfoldable pub charge_holder : Spent → State → State
charge_holder spent s =
    if is_idle s then s else
    if is_runnable (holder s).status
    then put_context s.cpu.block.sched_ctxt (charged s.cpu.block.v spent (holder s)) s
    else holder_stopped s

-- the state in which `select_next_context` begins: the decision counted, wake-ups served, times kept
unfoldable pub before_selection : ℕ → State → State
before_selection time s = on_cpu (times time) (serve_wakeups time (on_cpu count_switch s))

-- the state in which it chooses: the holder is charged too
unfoldable pub before_choice : ℕ → State → State
before_choice time s = charge_holder (spent time s.cpu) (before_selection time s)
