-- The queue and the timers of a decision, in any order; at the end each item is placed. Assumes nothing.
use Rattle.std.specs.Prelude.{◌||◌, List, map, length}
use Rattle.entries.specs.declared.Key.{Key}
use Rattle.entries.specs.declared.Entry.{Entry}
use Rattle.entries.specs.declared.Timer.{Timer}
use Rattle.entries.specs.Order.{entry_before, sooner}
use Rattle.entries.specs.Queue.{keyed, without_superseded}
use Rattle.percpu.specs.Cpu.{Cpu}
use Rattle.percpu.specs.With.{cpu_queue, cpu_timers, cpu_queue_len}
use Rattle.machine.specs.Machine.{Machine}
use Rattle.machine.specs.Outcome.{Outcome}
use Rattle.model.specs.State.{State, on_cpu, too_many}
use Rattle.plain_model.specs.Rank.{by_rank, leave_out, put_in, Differ}

-- insertions append; that of an entry publishes the queue's length
abbrev pub insert_entry : Entry → State → State
insert_entry e s =
    let q = put_in entry_before e s.cpu.queue in
    record { contexts = s.contexts; cpu = cpu_queue_len (length q) (cpu_queue q s.cpu); no_room = s.no_room || too_many q }

abbrev pub insert_timer : Timer → State → State
insert_timer t s =
    let l = put_in sooner t s.cpu.timers in
    record { contexts = s.contexts; cpu = cpu_timers l s.cpu; no_room = s.no_room || too_many l }

-- the newest timer of a context stands alone
abbrev pub insert_newest_timer : Timer → State → State
insert_newest_timer t s = insert_timer t (on_cpu (λ p. cpu_timers (without_superseded t p.timers) p) s)

abbrev pub queue_without : Key → List Entry → List Entry
queue_without k = leave_out entry_before (keyed k)

abbrev pub remove_key : Key → State → State
remove_key k s =
    let q = queue_without k s.cpu.queue in
    on_cpu (λ p. cpu_queue_len (length q) (cpu_queue q p)) s

-- every entry and every timer in its place
abbrev pub placed_cpu : Cpu → Cpu
placed_cpu p = cpu_queue (by_rank entry_before p.queue) (cpu_timers (by_rank sooner p.timers) p)

abbrev pub placed : State → State
placed s = on_cpu placed_cpu s

abbrev pub placed_machine : Machine → Machine
placed_machine M = record { contexts = M.contexts; cpus = map placed_cpu M.cpus }

-- the next machine, built afresh
abbrev pub placed_outcome : Outcome → Outcome
placed_outcome o =
    record { machine = placed_machine o.machine; result = o.result; interrupt = o.interrupt; rule = o.rule; no_room = o.no_room }

-- no two entries of a CPU have one key, and no two timers are one
pub record Different (p : Cpu) : Type 0 where
  pub queue : Differ entry_before p.queue
  pub timers : Differ sooner p.timers
