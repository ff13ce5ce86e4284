-- `switch_to` by the values that the code has read: the block b, and the record q of the context y that is left. Assumes nothing.
use Rattle.std.specs.Prelude.{Bool, false, not, ◌&&◌, ℕ, ◌+◌, ◌-◌, eqb, if◌then◌else◌}
use Rattle.context.specs.declared.Context.{Context}
use Rattle.context.specs.Status.{is_runnable}
use Rattle.context.specs.With.{with_running, with_active_cpu_time, with_inside_syscall}
use Rattle.cpu_stats.specs.declared.CpuState.TheVariants.{Kernel, User}
use Rattle.cpu_stats.specs.With.{stats_state}
use Rattle.percpu.specs.declared.PercpuBlock.{PercpuBlock}
use Rattle.percpu.specs.Cpu.{Cpu}
use Rattle.percpu.specs.With.{block_current_ctxt, block_stats, block_inside_syscall, block_being_sigkilled, cpu_block}
use Rattle.model.specs.State.{State, at, put_context, on_cpu, push_local}
use Rattle.model.specs.SwitchTo.{comes}

abbrev pub is_lost : PercpuBlock → Context → Bool
is_lost b q = not (eqb b.sched_ctxt b.current_ctxt) && not q.has_queue_key && is_runnable q.status

abbrev pub saved_by : ℕ → PercpuBlock → Context → State → State
saved_by y b q s = if is_lost b q then push_local y s else s

abbrev pub left_by : ℕ → PercpuBlock → Context → Context
left_by time b q =
    with_running false
    (with_inside_syscall b.inside_syscall
    (with_active_cpu_time (if eqb b.current_ctxt b.idle_ctxt then q.active_cpu_time else q.active_cpu_time + (time - q.switch_time)) q))

abbrev pub current_by : ℕ → Context → PercpuBlock → PercpuBlock
current_by x q b =
    block_current_ctxt x
    (block_stats (stats_state (if q.userspace then User else Kernel) b.stats)
    (block_inside_syscall q.inside_syscall (block_being_sigkilled q.being_sigkilled b)))

unfoldable pub entered : ℕ → ℕ → ℕ → PercpuBlock → State → State
entered k time x b s =
    let q = comes k time (at s x) in
    on_cpu (λ (p : Cpu). cpu_block (current_by x q b) p) (put_context x q s)

unfoldable pub switched_by : ℕ → ℕ → ℕ → ℕ → PercpuBlock → Context → State → State
switched_by k time x y b q s = entered k time x b (put_context y (left_by time b q) (saved_by y b q s))
