-- What a decision works on: the contexts, and the CPU that decides. Assumes nothing.
use Rattle.std.specs.Prelude.{Bool, false, not, ◌&&◌, ◌||◌, List, ℕ, ltb, eqb, length, set}
use Rattle.context.specs.declared.Context.{Context}
use Rattle.context.specs.Status.{is_runnable}
use Rattle.entries.specs.declared.Key.{Key}
use Rattle.entries.specs.declared.Entry.{Entry}
use Rattle.entries.specs.declared.Timer.{Timer}
use Rattle.entries.specs.Queue.{queue_insert, queue_remove, timer_insert, without_superseded}
use Rattle.percpu.specs.Cpu.{Cpu}
use Rattle.percpu.specs.With.{cpu_queue, cpu_timers, cpu_queue_len}
use Rattle.machine.specs.Machine.{Machine, context_at, cpu_at}
use Rattle.percpu.specs.Lists.{cpu_push_local}

pub record State : Type 0 where
  pub contexts : List Context
  pub cpu : Cpu
  -- an insertion put over 64 items in a queue, timer set or list: refusal 9
  pub no_room : Bool

abbrev pub at : State → ℕ → Context
at s x = context_at s.contexts x

abbrev pub put_context : ℕ → Context → State → State
put_context x c s = record { contexts = set s.contexts x c; cpu = s.cpu; no_room = s.no_room }

abbrev pub on_cpu : (Cpu → Cpu) → State → State
on_cpu f s = record { contexts = s.contexts; cpu = f s.cpu; no_room = s.no_room }

-- a CPU's state, taken out of the machine
abbrev pub state_of : ℕ → Machine → State
state_of k M = record { contexts = M.contexts; cpu = cpu_at M k; no_room = false }

abbrev pub too_many : {A : Type 0} → List A → Bool
too_many l = ltb 64 (length l)

-- the three insertions; that of an entry publishes the queue's length
abbrev pub insert_entry : Entry → State → State
insert_entry e s =
    let q = queue_insert e s.cpu.queue in
    record { contexts = s.contexts; cpu = cpu_queue_len (length q) (cpu_queue q s.cpu); no_room = s.no_room || too_many q }

abbrev pub insert_timer : Timer → State → State
insert_timer t s =
    let l = timer_insert t s.cpu.timers in
    record { contexts = s.contexts; cpu = cpu_timers l s.cpu; no_room = s.no_room || too_many l }

-- a timer that is put in, not back: it removes first every other of its context
abbrev pub insert_newest_timer : Timer → State → State
insert_newest_timer t s = insert_timer t (on_cpu (λ p. cpu_timers (without_superseded t p.timers) p) s)

abbrev pub push_local : ℕ → State → State
push_local x s =
    let p = cpu_push_local x s.cpu in
    record { contexts = s.contexts; cpu = p; no_room = s.no_room || too_many p.local_wakeup_list }

-- a key out of the queue
abbrev pub remove_key : Key → State → State
remove_key k s =
    let q = queue_remove k s.cpu.queue in
    on_cpu (λ p. cpu_queue_len (length q) (cpu_queue q p)) s

-- document 01's holder: the context in charge before the decision, `prev_context`
abbrev pub holder : State → Context
holder s = at s s.cpu.block.sched_ctxt

abbrev pub is_idle : State → Bool
is_idle s = eqb s.cpu.block.sched_ctxt s.cpu.block.idle_ctxt

abbrev pub prev_runnable : State → Bool
prev_runnable s = not (is_idle s) && is_runnable (holder s).status
