-- Operations 4 to 7: what each makes of a machine, called on CPU k. Assumes nothing.
use Rattle.std.specs.Prelude.{false, ℕ, [], ◌++◌, ltb, length, if◌then◌else◌}
use Rattle.columns.specs.Common.{mark}
use Rattle.context.specs.declared.Status.{Status}
use Rattle.context.specs.declared.Status.TheVariants.{Blocked, Stopped}
use Rattle.context.specs.Status.{is_runnable}
use Rattle.context.specs.Block.{blocked_as, unblocked}
use Rattle.percpu.specs.With.{cpu_local_wakeup_list, cpu_ipi_context_wakeup_list}
use Rattle.machine.specs.Machine.{Machine, context_at, cpu_at, set_context, set_cpu}
use Rattle.machine.specs.Outcome.{Outcome, finished}
use Rattle.context_ops.specs.Wakeup.{wakeup_context}

-- 4: a context that is runnable already is woken too, and the result is then false
unfoldable pub unblock_context : (k x : ℕ) → Machine → Outcome
unblock_context k x M =
    let c = context_at M.contexts x in
    if (unblocked c).done then wakeup_context k x 1 (set_context x (unblocked c).context M) else
    if is_runnable c.status then wakeup_context k x 0 M else finished 0 M

-- 5: the interrupt list goes behind the local list
unfoldable pub drain_ipi_context_wakeups : (k : ℕ) → Machine → Outcome
drain_ipi_context_wakeups k M =
    let p = cpu_at M k in
    let l = p.local_wakeup_list ++ p.ipi_context_wakeup_list in
    record {
      machine = set_cpu k (cpu_local_wakeup_list l (cpu_ipi_context_wakeup_list [] p)) M;
      result = 0;
      interrupt = false;
      rule = 0;
      no_room = ltb 64 (length l);
    }

-- a runnable context gets the status
unfoldable pub block_with : Status → (x : ℕ) → Machine → Outcome
block_with s x M =
    let b = blocked_as s (context_at M.contexts x) in
    finished (mark b.done) (set_context x b.context M)

-- 6, and 7 as Stopped
abbrev pub block : (x : ℕ) → Machine → Outcome
block = block_with Blocked

abbrev pub hard_block : (x : ℕ) → Machine → Outcome
hard_block = block_with Stopped
