-- After the choice and the stealing: V advances, a holder that lost goes back to the queue, the slice changes hands. Assumes nothing.
use Rattle.std.specs.Prelude.{Bool, true, false, not, ◌&&◌, ◌||◌, ℕ, ◌+◌, ◌-◌, ◌/◌, eqb, if◌then◌else◌, None, Option, Some, is_some}
use Rattle.context.specs.With.{with_currently_scheduled, with_schedule_time, with_sched_cpu_time}
use Rattle.context.specs.Key.{queue_key, with_new_key, entry_of}
use Rattle.weights.specs.Weights.{weight}
use Rattle.percpu.specs.With.{cpu_sched_ctxt, cpu_v}
use Rattle.model.specs.State.{State, at, put_context, on_cpu, insert_entry, remove_key, holder, is_idle}
use Rattle.model.specs.Steal.{Stealing, mark_stealable}

-- V gains ticks divided by the total weight, if somebody won or a runnable holder stays
unfoldable pub advance : (runs : Bool) → Option ℕ → ℕ → State → State
advance runs w ticks s =
    if (is_some w || runs) && not (eqb s.cpu.block.total_weight 0)
    then on_cpu (λ p. cpu_v (p.block.v + ticks / p.block.total_weight) p) s
    else s

-- a runnable holder that lost goes back to the queue
unfoldable pub requeue : State → State
requeue s =
    let x = s.cpu.block.sched_ctxt in
    let c = holder s in
    let s' = if c.has_queue_key then remove_key (queue_key c) s else s in
    insert_entry (entry_of x (weight c.prio) c) (put_context x (with_new_key c) s')

-- V advances and a runnable holder that lost goes back
unfoldable pub settled : (runs : Bool) → ℕ → Stealing → State
settled runs n l =
    let s = advance runs l.winner n l.state in
    on_cpu mark_stealable (if is_some l.winner && runs then requeue s else s)

-- who gets the slice; none: the holder keeps it
unfoldable pub next_context : (runs : Bool) → Option ℕ → State → Option ℕ
next_context runs (Some x) s = Some x
next_context runs None s = if runs || is_idle s then None else Some s.cpu.block.idle_ctxt

-- the slice goes from the holder to x
unfoldable pub hand_over : (time : ℕ) (was_idle : Bool) → ℕ → State → State
hand_over time was_idle x s =
    let c = holder s in
    let t = if was_idle then c.sched_cpu_time else c.sched_cpu_time + (time - c.schedule_time) in
    let s' = put_context s.cpu.block.sched_ctxt (with_currently_scheduled false (with_sched_cpu_time t c)) s in
    on_cpu (cpu_sched_ctxt x) (put_context x (with_currently_scheduled true (with_schedule_time time (at s' x))) s')
