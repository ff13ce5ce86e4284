-- Refusals 6 to 8 of operations 1 to 3 on a present CPU, in the table's order; 0 for none. Assumes nothing.
use Rattle.std.specs.Prelude.{Bool, true, false, not, ◌&&◌, ℕ, ◌-◌, ltb, eqb, if◌then◌else◌}
use Rattle.context.specs.declared.Context.{Context}
use Rattle.percpu.specs.declared.PercpuBlock.{PercpuBlock}
use Rattle.machine.specs.Machine.{Machine, context_at, cpu_at}
use Rattle.numbers.specs.Limits.{max_elapsed}

-- the CPU's queue and its current, in-charge and idle contexts are free, and where current and in charge differ the latter's address space is not 2
unfoldable pub is_locked : PercpuBlock → (current sched idle : Context) → Bool
is_locked p current sched idle =
    if p.queue_locked then true else
    if not (eqb current.lock 0) then true else
    if not (eqb sched.lock 0) then true else
    if not (eqb idle.lock 0) then true else
    if eqb p.current_ctxt p.sched_ctxt then false else eqb sched.addr_space 2

abbrev pub decision_locked : Machine → ℕ → Bool
decision_locked M k =
    let p = (cpu_at M k).block in
    is_locked p (context_at M.contexts p.current_ctxt) (context_at M.contexts p.sched_ctxt) (context_at M.contexts p.idle_ctxt)

-- over 2^52 - 1 past the CPU's schedule time
abbrev pub is_late : ℕ → PercpuBlock → Bool
is_late time p = ltb max_elapsed (time - p.schedule_time)

-- operations 1 and 2
unfoldable pub decision_refusal : Machine → (k time : ℕ) → ℕ
decision_refusal M k time =
    if decision_locked M k then 6 else
    if is_late time (cpu_at M k).block then 8 else 0

-- operation 3, to context x
unfoldable pub direct_refusal : Machine → (k time x : ℕ) → ℕ
direct_refusal M k time x =
    let p = (cpu_at M k).block in
    let c = context_at M.contexts x in
    if decision_locked M k then 6 else
    if not (eqb c.lock 0) then 6 else
    if eqb c.addr_space 2 then 6 else
    if eqb p.current_ctxt p.idle_ctxt && not (eqb x p.current_ctxt) then 7 else
    if is_late time p then 8 else 0
