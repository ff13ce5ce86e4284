-- One context leaves the CPU and another comes, after a decision or without one. Assumes nothing.
use Rattle.std.specs.Prelude.{true, false, not, ◌&&◌, ℕ, ◌+◌, ◌-◌, eqb, if◌then◌else◌, None, Option, Some}
use Rattle.context.specs.declared.Context.{Context}
use Rattle.context.specs.Status.{is_runnable}
use Rattle.context.specs.With.{with_running, with_cpu_id, with_switch_time, with_active_cpu_time, with_inside_syscall}
use Rattle.cpu_stats.specs.declared.CpuState.TheVariants.{Kernel, User}
use Rattle.cpu_stats.specs.With.{stats_state}
use Rattle.runnable.specs.declared.UpdateResult.{UpdateResult}
use Rattle.runnable.specs.declared.UpdateResult.TheVariants.{CanSwitch, Skip, Blocked}
use Rattle.runnable.specs.Runnable.{update_runnable}
use Rattle.percpu.specs.Cpu.{Cpu}
use Rattle.percpu.specs.With.{cpu_current_ctxt, cpu_stats, cpu_being_sigkilled, cpu_inside_syscall}
use Rattle.model.specs.State.{State, at, put_context, on_cpu, push_local}

-- k: this CPU
module _ (k time : ℕ) where
  -- a runnable context that is left, holds no slice and has no key would be lost: it goes on the local list
  abbrev pub saved : State → State
  saved s =
      let x = s.cpu.block.current_ctxt in
      let c = at s x in
      if not (eqb s.cpu.block.sched_ctxt x) && not c.has_queue_key && is_runnable c.status then push_local x s else s

  -- the record of the context that is left, and of the one that comes
  abbrev pub left : Cpu → Context → Context
  left p c =
      let t = if eqb p.block.current_ctxt p.block.idle_ctxt then c.active_cpu_time else c.active_cpu_time + (time - c.switch_time) in
      with_running false (with_inside_syscall p.block.inside_syscall (with_active_cpu_time t c))

  abbrev pub comes : Context → Context
  comes c = with_running true (with_cpu_id (k + 1) (with_switch_time time c))

  abbrev pub becomes_current : ℕ → Context → Cpu → Cpu
  becomes_current x c p =
      cpu_current_ctxt x
      (cpu_stats (stats_state (if c.userspace then User else Kernel) p.block.stats)
      (cpu_inside_syscall c.inside_syscall (cpu_being_sigkilled c.being_sigkilled p)))

  -- the current context leaves, x comes
  unfoldable pub switch_to : ℕ → State → State
  switch_to x s₀ =
      let s = saved s₀ in
      let y = s.cpu.block.current_ctxt in
      let s₁ = put_context y (left s.cpu (at s y)) s in
      let c = comes (at s₁ x) in
      on_cpu (becomes_current x c) (put_context x c s₁)

  -- to x without a decision, if it can run
  unfoldable pub direct_switch_by : ℕ → State → UpdateResult → Option State
  direct_switch_by x s Skip = None
  direct_switch_by x s Blocked = None
  direct_switch_by x s (CanSwitch c) = Some (switch_to x (put_context x c s))

  -- back from the current context to the one in charge
  unfoldable pub try_direct_switch_back : State → Option State
  try_direct_switch_back s =
      let x = s.cpu.block.sched_ctxt in
      if eqb s.cpu.block.current_ctxt x then None else direct_switch_by x s (update_runnable k time true false (at s x))
