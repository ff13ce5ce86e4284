-- The records that a switch changes, in the code's words. Assumes nothing.
use Rattle.std.specs.Prelude.{if◌then◌else◌}
use mathlib.Core.Path.{◌≡◌, refl, sym, ap, ◌∙◌}
use mathlib.Core.Bool.{Bool, true, false, not, ◌&&◌}
use Prim.Native.Nat.{ℕ, ◌+◌, ◌-◌, ◌<◌, ◌≤◌}
use native.Mathlib.Omega.{arith}
use lib.Dec.{eqb}
use borrow.Author.Tests.{eq-eqb, ne_eqb}
use Rattle.context.specs.declared.Context.{Context}
use Rattle.context.specs.Status.{is_runnable}
use Rattle.context.specs.With.{with_running, with_active_cpu_time, with_inside_syscall, with_cpu_id, with_switch_time}
use Rattle.cpu_stats.specs.declared.CpuState.{CpuState}
use Rattle.cpu_stats.specs.declared.CpuState.TheVariants.{Kernel, User}
use Rattle.cpu_stats.specs.declared.CpuStats.{CpuStats}
use Rattle.cpu_stats.specs.With.{stats_state}
use Rattle.percpu.specs.declared.PercpuBlock.{PercpuBlock}
use Rattle.percpu.specs.With.{block_current_ctxt, block_stats, block_inside_syscall, block_being_sigkilled}
use Rattle.machine.specs.Shape.{ContextFits}
use Rattle.model.specs.SwitchTo.{comes}
use Rattle.stages.specs.Read.{BlockFits}
use Rattle.switch_to.specs.Switched.{is_lost, left_by, current_by}

module _ (b : PercpuBlock) (q : Context) where
  pub lost_not_in_charge : b.sched_ctxt ≡ b.current_ctxt → false ≡ is_lost b q
  lost_not_in_charge e = rw (eq-eqb _ _ e)

  pub lost_not_keyed : (b.sched_ctxt ≡ b.current_ctxt → ⊥) → q.has_queue_key ≡ true → false ≡ is_lost b q
  lost_not_keyed d e = rw (ne_eqb _ _ d, e)

  pub lost_as : {r : Bool} → (b.sched_ctxt ≡ b.current_ctxt → ⊥) → q.has_queue_key ≡ false → r ≡ is_runnable q.status → r ≡ is_lost b q
  lost_as d e z = rw (ne_eqb _ _ d, e) z

  module _ (time : ℕ) where
    pub left_idle : b.current_ctxt ≡ b.idle_ctxt → with_inside_syscall b.inside_syscall (with_running false q) ≡ left_by time b q
    left_idle e = rw (eq-eqb _ _ e)

    pub left_other : (d : ℕ) → (b.current_ctxt ≡ b.idle_ctxt → ⊥) → d ≡ time - q.switch_time
        → with_active_cpu_time (q.active_cpu_time + d) (with_inside_syscall b.inside_syscall (with_running false q)) ≡ left_by time b q
    left_other d e z = rw (ne_eqb _ _ e, z)

    pub left_fits : {c : ℕ} {q' : Context} → q' ≡ left_by time b q → ContextFits c q → ContextFits c q'
    left_fits e o = rw e (record { cpu_id = o.cpu_id; prio = o.prio; rem_slice = o.rem_slice })

  pub current_as : (x w : ℕ) (a : CpuState) (t : CpuStats) → a ≡ if q.userspace then User else Kernel → t ≡ stats_state a b.stats → w ≡ x
      → block_being_sigkilled q.being_sigkilled (block_inside_syscall q.inside_syscall (block_current_ctxt w (block_stats t b))) ≡ current_by x q b
  current_as x w a t ha ht hw = rw (ht, ha, hw)

  pub current_fits : {n : ℕ} {b' : PercpuBlock} (x : ℕ) → b' ≡ current_by x q b → x < n → BlockFits n b → BlockFits n b'
  current_fits x e l o = rw e (record { current = l; sched = o.sched; idle = o.idle })

module _ (k time : ℕ) (q : Context) where
  pub comes_as : (w : ℕ) → w ≡ k → with_switch_time time (with_cpu_id (w + 1) (with_running true q)) ≡ comes k time q
  comes_as w e = rw e

  pub comes_fits : {c : ℕ} {q' : Context} → q' ≡ comes k time q → k < c → ContextFits c q → ContextFits c q'
  comes_fits e l o = rw e (record { cpu_id = omega arith; prio = o.prio; rem_slice = o.rem_slice })
