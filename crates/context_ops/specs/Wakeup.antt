-- `wakeup_context`: a context's name goes on the list of its last CPU, or of this one. Assumes nothing.
use Rattle.std.specs.Prelude.{true, false, ℕ, ◌-◌, leb, eqb, length, if◌then◌else◌, None, Option, Some}
use Rattle.percpu.specs.Lists.{cpu_push_local, cpu_push_ipi}
use Rattle.wakeup_lists.specs.declared.WakeupList.{WakeupList}
use Rattle.wakeup_lists.specs.declared.WakeupList.TheVariants.{Local, Ipi}
use Rattle.machine.specs.Machine.{Machine, context_at, cpu_at, set_cpu}
use Rattle.machine.specs.LookUp.{get_percpu_block}
use Rattle.machine.specs.Outcome.{Outcome}

-- the CPU of a record's CPU word, if it is another than CPU k and present
unfoldable pub other_cpu : ℕ → ℕ → Machine → Option ℕ
other_cpu k cpu_id M =
    if eqb cpu_id 0 then None else
    if eqb (cpu_id - 1) k then None else get_percpu_block M (cpu_id - 1)

-- the name x at the end of CPU k's local list, and of its interrupt list
unfoldable pub push_local : (k x : ℕ) → Machine → Machine
push_local k x M =
    set_cpu k (cpu_push_local x (cpu_at M k)) M

unfoldable pub push_ipi : (k x : ℕ) → Machine → Machine
push_ipi k x M =
    set_cpu k (cpu_push_ipi x (cpu_at M k)) M

-- on either list
abbrev pub push_on : WakeupList → (k x : ℕ) → Machine → Machine
push_on Local = push_local
push_on Ipi = push_ipi

-- the CPU and the list that a name goes on
abbrev pub list_for : ℕ → Option ℕ → ℕ × WakeupList
list_for k None = (k, Local)
list_for k (Some t) = (t, Ipi)

-- on another CPU's list it is a non-local wake-up, with the interrupt
unfoldable pub wakeup_on : (k x result : ℕ) → Machine → Option ℕ → Outcome
wakeup_on k x result M (Some t) =
    record { machine = push_ipi t x M; result = result; interrupt = true; rule = 0; no_room = leb 64 (length (cpu_at M t).ipi_context_wakeup_list) }
wakeup_on k x result M None =
    record { machine = push_local k x M; result = result; interrupt = false; rule = 0; no_room = leb 64 (length (cpu_at M k).local_wakeup_list) }

-- context x is woken from CPU k; `result` is what the call gives
unfoldable pub wakeup_context : (k x result : ℕ) → Machine → Outcome
wakeup_context k x result M = wakeup_on k x result M (other_cpu k (context_at M.contexts x).cpu_id M)
