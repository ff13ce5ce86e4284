-- Wake-ups: each timer in its turn, then the local list. Assumes nothing.
use Rattle.std.specs.Prelude.{List, [], ◌++◌, map, ℕ, if◌then◌else◌, None, Option, Some}
use Rattle.columns.specs.Common.{fold, keep}
use Rattle.context.specs.declared.Context.{Context}
use Rattle.context.specs.Key.{queue_key, entry_of}
use Rattle.weights.specs.Weights.{weight}
use Rattle.entries.specs.declared.Entry.{Entry}
use Rattle.entries.specs.Order.{is_due, sooner}
use Rattle.percpu.specs.With.{cpu_timers, cpu_local_wakeup_list, cpu_queue}
use Rattle.model.specs.State.{State, put_context, on_cpu, push_local}
use Rattle.model.specs.Wakeup.{Wakeup, is_live_timer, timer_wakeup, local_wakeup, stays, activated, entering, WakeupResult, dropped, locked, woken_only, entered, wakeup_result}
use Rattle.plain_model.specs.Rank.{by_rank}
use Rattle.plain_model.specs.State.{insert_entry, insert_timer, queue_without}

-- timers that are due, whose context can be read and still waits for them; the local list keeps its own order
unfoldable pub wakeups : ℕ → State → List Wakeup
wakeups time s =
    map timer_wakeup (keep (is_live_timer s) (keep (is_due time) (by_rank sooner s.cpu.timers)))
    ++ map local_wakeup s.cpu.local_wakeup_list

-- what is looked at leaves; a due timer whose context is locked stays
abbrev pub drained : ℕ → State → State
drained time s = on_cpu (λ p. cpu_timers (keep (stays time s) p.timers) (cpu_local_wakeup_list [] p)) s

-- a context that is locked is tried again at the next decision
abbrev pub put_back : Option ℕ → ℕ → State → State
put_back None x s = push_local x s
put_back (Some wake) x s = insert_timer (record { wake = wake; context_ref = x }) s

abbrev pub without_old_key : Context → List Entry → List Entry
without_old_key c q = if c.has_queue_key then queue_without (queue_key c) q else q

unfoldable pub enter : ℕ → Context → State → State
enter x c s =
    let c' = entering s.cpu.block.v c in
    insert_entry (entry_of x (weight c.prio) c')
    (put_context x c' (on_cpu (λ p. cpu_queue (without_old_key c p.queue) (activated c p)) s))

unfoldable pub wake_as : State → Wakeup → WakeupResult → State
wake_as s w dropped = s
wake_as s w locked = put_back w.wake w.context_ref s
wake_as s w (woken_only c) = put_context w.context_ref c s
wake_as s w (entered c) = enter w.context_ref c s

unfoldable pub serve_wakeup : State → Wakeup → State
serve_wakeup s w = wake_as s w (wakeup_result s w)

unfoldable pub serve_wakeups : ℕ → State → State
serve_wakeups time s = fold serve_wakeup (drained time s) (wakeups time s)
