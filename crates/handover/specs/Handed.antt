-- The end of a decision by the values that the code has read. Assumes nothing.
use Rattle.std.specs.Prelude.{Bool, true, false, not, ◌&&◌, ◌||◌, ℕ, ◌+◌, ◌-◌, ◌/◌, eqb, if◌then◌else◌}
use Rattle.context.specs.declared.Context.{Context}
use Rattle.context.specs.With.{with_currently_scheduled, with_schedule_time, with_sched_cpu_time}
use Rattle.weights.specs.Weights.{weight}
use Rattle.percpu.specs.declared.PercpuBlock.{PercpuBlock}
use Rattle.percpu.specs.Cpu.{Cpu}
use Rattle.percpu.specs.With.{block_v, block_sched_ctxt, cpu_block, cpu_v}
use Rattle.model.specs.State.{State, at, put_context, on_cpu, insert_entry, remove_key}
use Rattle.model.specs.Steal.{mark_stealable}
use Rattle.context.specs.Key.{queue_key, with_new_key, entry_of}
use Rattle.model.specs.Handover.{requeue}

-- `advance` where `somebody` says whether somebody won or a runnable holder stays
abbrev pub advance_by : Bool → ℕ → State → State
advance_by somebody ticks s =
    if somebody && not (eqb s.cpu.block.total_weight 0)
    then on_cpu (λ (p : Cpu). cpu_v (p.block.v + ticks / p.block.total_weight) p) s
    else s

abbrev pub advanced_by : Bool → ℕ → PercpuBlock → PercpuBlock
advanced_by somebody ticks b = if somebody && not (eqb b.total_weight 0) then block_v (b.v + ticks / b.total_weight) b else b

-- q is the holder's record, and x its number
abbrev pub taken_out_by : Context → State → State
taken_out_by q s = if q.has_queue_key then remove_key (queue_key q) s else s

abbrev pub requeued_by : ℕ → Context → State → State
requeued_by x q s = insert_entry (entry_of x (weight q.prio) q) (put_context x (with_new_key q) (taken_out_by q s))

-- `settled` where `won` says whether a context won and `runs` whether the holder is runnable
abbrev pub sent_back_by : Bool → Bool → State → State
sent_back_by won runs s = if won && runs then requeue s else s

abbrev pub settled_by : Bool → Bool → ℕ → State → State
settled_by won runs ticks s = on_cpu mark_stealable (sent_back_by won runs (advance_by (won || runs) ticks s))

-- the records of the holder and of the context that gets the slice
abbrev pub given_up : ℕ → Bool → Context → Context
given_up time was_idle q =
    with_currently_scheduled false (with_sched_cpu_time (if was_idle then q.sched_cpu_time else q.sched_cpu_time + (time - q.schedule_time)) q)

abbrev pub taken : ℕ → Context → Context
taken time q = with_currently_scheduled true (with_schedule_time time q)

unfoldable pub taken_over : ℕ → ℕ → PercpuBlock → State → State
taken_over time x b s = on_cpu (λ (p : Cpu). cpu_block (block_sched_ctxt x b) p) (put_context x (taken time (at s x)) s)

-- from y, whose record is q, to x
unfoldable pub handed_by : ℕ → Bool → ℕ → ℕ → PercpuBlock → Context → State → State
handed_by time was_idle x y b q s = taken_over time x b (put_context y (given_up time was_idle q) s)
