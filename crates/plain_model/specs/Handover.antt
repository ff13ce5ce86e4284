-- After the choice and the stealing: V advances, and a runnable holder that lost goes back to the queue. Assumes nothing.
use Rattle.std.specs.Prelude.{Bool, ◌&&◌, ℕ, if◌then◌else◌, is_some}
use Rattle.context.specs.Key.{queue_key, with_new_key, entry_of}
use Rattle.weights.specs.Weights.{weight}
use Rattle.model.specs.State.{State, put_context, on_cpu, holder}
use Rattle.model.specs.Steal.{Stealing, mark_stealable}
use Rattle.model.specs.Handover.{advance}
use Rattle.plain_model.specs.State.{insert_entry, remove_key}

unfoldable pub requeue : State → State
requeue s =
    let x = s.cpu.block.sched_ctxt in
    let c = holder s in
    let s' = if c.has_queue_key then remove_key (queue_key c) s else s in
    insert_entry (entry_of x (weight c.prio) c) (put_context x (with_new_key c) s')

unfoldable pub settled : (runs : Bool) → ℕ → Stealing → State
settled runs n l =
    let s = advance runs l.winner n l.state in
    on_cpu mark_stealable (if is_some l.winner && runs then requeue s else s)
