-- Wake-ups: due timers and the local list. Assumes nothing.
use Rattle.std.specs.Prelude.{Bool, true, not, ◌&&◌, ◌||◌, List, [], ◌++◌, map, ℕ, ◌+◌, max, eqb, if◌then◌else◌, None, Option, Some}
use Rattle.columns.specs.Common.{fold, keep}
use Rattle.context.specs.declared.Context.{Context}
use Rattle.context.specs.Status.{is_runnable, is_soft_blocked}
use Rattle.context.specs.Block.{woken}
use Rattle.context.specs.With.{with_vtime, with_vd, with_rem_slice, with_is_active}
use Rattle.weights.specs.Weights.{weight, whole_slice, full_slice}
use Rattle.entries.specs.declared.Entry.{Entry}
use Rattle.entries.specs.declared.Timer.{Timer}
use Rattle.entries.specs.Queue.{queue_remove}
use Rattle.percpu.specs.Cpu.{Cpu}
use Rattle.percpu.specs.With.{cpu_total_weight, cpu_published_weight, cpu_timers, cpu_local_wakeup_list, cpu_queue}
use Rattle.model.specs.State.{State, at, put_context, on_cpu, insert_entry, insert_timer, push_local}
use Rattle.context.specs.Key.{queue_key, with_new_key, entry_of}
use Rattle.entries.specs.Order.{is_due}

-- a wake-up: the context, and the wake of its timer if a timer gave it
pub record Wakeup : Type 0 where
  pub wake : Option ℕ
  pub context_ref : ℕ

-- a context whose lock is not written and that is not the holder
abbrev pub can_read : State → ℕ → Bool
can_read s x = not (at s x).gone && not (eqb (at s x).lock 2) && not (eqb x s.cpu.block.sched_ctxt)

abbrev pub waits_for : ℕ → Context → Bool
waits_for wake c = is_soft_blocked c.status && c.has_wake && eqb c.wake wake

-- a due timer gives a wake-up if its context can be read and still waits for that wake
abbrev pub is_live_timer : State → Timer → Bool
is_live_timer s t = can_read s t.context_ref && waits_for t.wake (at s t.context_ref)

abbrev pub timer_wakeup : Timer → Wakeup
timer_wakeup t = record { wake = Some t.wake; context_ref = t.context_ref }

abbrev pub local_wakeup : ℕ → Wakeup
local_wakeup x = record { wake = None; context_ref = x }

unfoldable pub wakeups : ℕ → State → List Wakeup
wakeups time s =
    map timer_wakeup (keep (is_live_timer s) (keep (is_due time) s.cpu.timers)) ++ map local_wakeup s.cpu.local_wakeup_list

-- a live context that cannot be read
abbrev pub is_unreadable : State → ℕ → Bool
is_unreadable s x = not (at s x).gone && (eqb (at s x).lock 2 || eqb x s.cpu.block.sched_ctxt)

-- a timer is left in the set until it is due and its context can be read or is gone
abbrev pub stays : ℕ → State → Timer → Bool
stays time s t = not (is_due time t) || is_unreadable s t.context_ref

-- the other timers and the local list are taken out
abbrev pub drained : ℕ → State → State
drained time s =
    on_cpu (λ p. cpu_timers (keep (stays time s) p.timers) (cpu_local_wakeup_list [] p)) s

-- a context that is locked is tried again at the next decision
abbrev pub put_back : Option ℕ → ℕ → State → State
put_back None x s = push_local x s
put_back (Some wake) x s = insert_timer (record { wake = wake; context_ref = x }) s

abbrev pub woken_by : Option ℕ → Context → Context
woken_by None c = c
woken_by (Some wake) c = if waits_for wake c then woken c else c

-- only runnable user contexts enter the queue, and of the running ones only the one that this CPU switched to directly
abbrev pub may_enter : Cpu → ℕ → Context → Bool
may_enter p x c =
    is_runnable c.status && not c.currently_scheduled && c.userspace
    && (not c.running || eqb x p.block.current_ctxt && not (eqb x p.block.sched_ctxt))

-- a context that was not active counts in the total weight from now on
abbrev pub activated : Context → Cpu → Cpu
activated c p =
    let n = p.block.total_weight + weight c.prio in
    cpu_total_weight (if c.is_active then p.block.total_weight else n)
    (cpu_published_weight (if c.is_active then p.block.published_weight else n) p)

-- a context's old key leaves this queue
abbrev pub without_old_key : Context → List Entry → List Entry
without_old_key c q = if c.has_queue_key then queue_remove (queue_key c) q else q

-- the record that enters: not behind V, a full slice, a deadline a whole slice on
abbrev pub entering : ℕ → Context → Context
entering v c =
    let vtime = max c.vtime v in
    with_new_key (with_is_active true (with_vtime vtime (with_vd (vtime + whole_slice c.prio) (with_rem_slice full_slice c))))

unfoldable pub enter : ℕ → Context → State → State
enter x c s =
    let c' = entering s.cpu.block.v c in
    insert_entry (entry_of x (weight c.prio) c')
    (put_context x c' (on_cpu (λ p. cpu_queue (without_old_key c p.queue) (activated c p)) s))

-- what a wake-up comes to
pub data WakeupResult : Type 0 where
  dropped : WakeupResult
  locked : WakeupResult
  woken_only : Context → WakeupResult
  entered : Context → WakeupResult

unfoldable pub wakeup_result : State → Wakeup → WakeupResult
wakeup_result s w =
    let x = w.context_ref in
    let c = woken_by w.wake (at s x) in
    if eqb x s.cpu.block.sched_ctxt then dropped else
    if (at s x).gone then dropped else
    if not (eqb (at s x).lock 0) then locked else
    if may_enter s.cpu x c then entered c else woken_only c

unfoldable pub wake_as : State → Wakeup → WakeupResult → State
wake_as s w dropped = s
wake_as s w locked = put_back w.wake w.context_ref s
wake_as s w (woken_only c) = put_context w.context_ref c s
wake_as s w (entered c) = enter w.context_ref c s

unfoldable pub serve_wakeup : State → Wakeup → State
serve_wakeup s w = wake_as s w (wakeup_result s w)

unfoldable pub serve_wakeups : ℕ → State → State
serve_wakeups time s = fold serve_wakeup (drained time s) (wakeups time s)
