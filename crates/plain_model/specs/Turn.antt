-- The turn that ends: what the holder pays, and its timer if it is blocked. Assumes nothing.
use Rattle.std.specs.Prelude.{ℕ, if◌then◌else◌}
use Rattle.context.specs.Status.{is_runnable}
use Rattle.ticks.specs.declared.Spent.{Spent}
use Rattle.charging.specs.Charge.{charged}
use Rattle.model.specs.State.{State, put_context, on_cpu, holder, is_idle}
use Rattle.model.specs.Turn.{count_switch, spent, times, inactive}
use Rattle.plain_model.specs.State.{insert_newest_timer}
use Rattle.plain_model.specs.Wakeup.{serve_wakeups}

unfoldable pub holder_stopped : State → State
holder_stopped s =
    if (holder s).has_wake
    then insert_newest_timer (record { wake = (holder s).wake; context_ref = s.cpu.block.sched_ctxt }) (inactive s)
    else inactive s

-- the idle context pays nothing
unfoldable pub charge_holder : Spent → State → State
charge_holder spent s =
    if is_idle s then s else
    if is_runnable (holder s).status
    then put_context s.cpu.block.sched_ctxt (charged s.cpu.block.v spent (holder s)) s
    else holder_stopped s

unfoldable pub before_selection : ℕ → State → State
before_selection time s = on_cpu (times time) (serve_wakeups time (on_cpu count_switch s))

-- the state in which the choice is made
unfoldable pub before_choice : ℕ → State → State
before_choice time s = charge_holder (spent time s.cpu) (before_selection time s)
