-- The end of a decision by the values that the code has read. Assumes nothing.
use Rattle.std.specs.Prelude.{Bool, false, ◌&&◌, [], ℕ, ◌<◌, ◌≤◌, if◌then◌else◌, Option}
use Rattle.context.specs.declared.Context.{Context}
use Rattle.context.specs.Key.{queue_key, with_new_key, entry_of}
use Rattle.weights.specs.Weights.{weight}
use Rattle.percpu.specs.With.{cpu_sched_ctxt}
use Rattle.model.specs.State.{State, at, put_context, on_cpu, holder}
use Rattle.model.specs.Steal.{Stealing}
use Rattle.handover.specs.Handed.{taken}
use Rattle.plain_model.specs.State.{insert_entry, remove_key}
use Rattle.plain_model.specs.Handover.{requeue}

-- what `settled` reads of a stealing
abbrev pub stealing_of : State → Option ℕ → Stealing
stealing_of s w = record { state = s; cpus = []; winner = w; done = false }

-- what is asked of the context in charge
pub record HolderFits (n : ℕ) (s : State) : Type 0 where
  pub sched : s.cpu.block.sched_ctxt < n
  pub prio : (holder s).prio ≤ 39

-- q is the holder's record, and x its number
abbrev pub taken_out_by : Context → State → State
taken_out_by q s = if q.has_queue_key then remove_key (queue_key q) s else s

abbrev pub requeued_by : ℕ → Context → State → State
requeued_by x q s = insert_entry (entry_of x (weight q.prio) q) (put_context x (with_new_key q) (taken_out_by q s))

abbrev pub sent_back : (won runs : Bool) → State → State
sent_back won runs s = if won && runs then requeue s else s

-- x gets the slice
unfoldable pub taken_over : ℕ → ℕ → State → State
taken_over time x s = on_cpu (cpu_sched_ctxt x) (put_context x (taken time (at s x)) s)
