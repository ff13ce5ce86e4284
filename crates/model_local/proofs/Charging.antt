-- Counting, times and the charge of the holder stay with the contexts that the CPU names. Assumes nothing.
use Rattle.std.specs.Prelude.{if◌then◌else◌}
use mathlib.Core.Path.{◌≡◌, refl, ap, ◌∙◌}
use mathlib.Core.Bool.{Bool, not, ◌&&◌}
use mathlib.Core.List.{List}
use Prim.Native.Nat.{ℕ, ◌-◌}
use Rattle.ticks.specs.declared.Spent.{Spent}
use Rattle.context.specs.declared.Context.{Context}
use Rattle.context.specs.Status.{is_runnable}
use Rattle.weights.specs.Weights.{weight}
use Rattle.charging.specs.Charge.{charged, stopped}
use Rattle.entries.specs.declared.Timer.{Timer}
use Rattle.entries.specs.Queue.{without_superseded}
use Rattle.entries.specs.Order.{superseded}
use Rattle.percpu.specs.With.{cpu_total_weight}
use Rattle.model.specs.State.{State, on_cpu, insert_newest_timer, holder, is_idle, prev_runnable}
use Rattle.model.specs.Turn.{count_switch, spent, times, inactive, holder_stopped, charge_holder, before_selection, before_choice}
use Rattle.model.proofs.Cases.{pick}
use Rattle.model_local.specs.Local.{others}
use Rattle.model_local.proofs.Others.{branch, all_keep, at_others, put_others}
use Rattle.model_local.proofs.Owned.{Owns, OfTimer, with_record, with_timer, with_timers}
use Rattle.model_local.proofs.Waking.{serves_owns, serves_moves}

module _ (S : ℕ → Bool) (n : ℕ) where
  pub selection_owns : (time : ℕ) (s : State) → Owns S n s → Owns S n (before_selection time s)
  unfolding before_selection times
  selection_owns time s o = serves_owns S n time (on_cpu count_switch s) o

  stopped_owns : (s : State) → Owns S n s → Owns S n (holder_stopped s)
  unfolding holder_stopped
  stopped_owns s o =
      let x = s.cpu.block.sched_ctxt in
      let t : Timer = record { wake = (holder s).wake; context_ref = x } in
      let i : Owns S n (inactive s) = with_record S n x (stopped (holder s)) o in
      pick (Owns S n) (holder s).has_wake
      (λ y. with_timer S n t o.within.in_charge
      (with_timers S n (without_superseded t s.cpu.timers) (all_keep (OfTimer S n) (λ (u : Timer). not (superseded t u)) s.cpu.timers o.within.timed) i))
      (λ y. i)

  pub charge_owns : (c : Spent) (s : State) → Owns S n s → Owns S n (charge_holder c s)
  unfolding charge_holder
  charge_owns c s o =
      pick (Owns S n) (is_idle s) (λ t. o)
      (λ t. pick (Owns S n) (is_runnable (holder s).status) (λ u. with_record S n s.cpu.block.sched_ctxt (charged s.cpu.block.v c (holder s)) o) (λ u. stopped_owns s o))

  pub choice_owns : (time : ℕ) (s : State) → Owns S n s → Owns S n (before_choice time s)
  unfolding before_choice
  choice_owns time s o = charge_owns (spent time s.cpu) (before_selection time s) (selection_owns time s o)

module _ (S : ℕ → Bool) (n : ℕ) (ds : List Context) where
  abbrev G : State → State
  G = others S ds

  -- the holder is one of the set
  pub holder_same : (s : State) → Owns S n s → holder (G s) ≡ holder s
  holder_same s o = at_others S ds s s.cpu.block.sched_ctxt o.within.in_charge

  pub runs_same : (s : State) → Owns S n s → prev_runnable (G s) ≡ prev_runnable s
  runs_same s o = ap (λ (c : Context). not (is_idle s) && is_runnable c.status) (holder_same s o)

  pub selection_moves : (time : ℕ) (s : State) → Owns S n s → before_selection time (G s) ≡ G (before_selection time s)
  unfolding before_selection
  selection_moves time s o = ap (on_cpu (times time)) (serves_moves S n ds time (on_cpu count_switch s) o)

  inactive_moves : (s : State) → Owns S n s → inactive (G s) ≡ G (inactive s)
  inactive_moves s o =
      rw (holder_same s o)
      (put_others S ds
      (on_cpu (λ p. cpu_total_weight (if (holder s).is_active then p.block.total_weight - weight (holder s).prio else p.block.total_weight) p) s)
      s.cpu.block.sched_ctxt o.within.in_charge (stopped (holder s)))

  stopped_moves : (s : State) → Owns S n s → holder_stopped (G s) ≡ G (holder_stopped s)
  unfolding holder_stopped
  stopped_moves s o =
      let t : Timer = record { wake = (holder s).wake; context_ref = s.cpu.block.sched_ctxt } in
      (λ j. if (holder_same s o j).has_wake
      then insert_newest_timer (record { wake = (holder_same s o j).wake; context_ref = s.cpu.block.sched_ctxt }) (inactive_moves s o j)
      else inactive_moves s o j)
      ∙ branch G (holder s).has_wake {x = insert_newest_timer t (inactive s)} {y = inactive s} refl refl

  pub charge_moves : (c : Spent) (s : State) → Owns S n s → charge_holder c (G s) ≡ G (charge_holder c s)
  unfolding charge_holder
  charge_moves c s o =
      branch G (is_idle s) refl
      (rw (holder_same s o)
      (branch G (is_runnable (holder s).status) (put_others S ds s s.cpu.block.sched_ctxt o.within.in_charge (charged s.cpu.block.v c (holder s))) (stopped_moves s o)))

  pub choice_moves : (time : ℕ) (s : State) → Owns S n s → before_choice time (G s) ≡ G (before_choice time s)
  unfolding before_choice
  choice_moves time s o =
      ap (charge_holder (spent time s.cpu)) (selection_moves time s o) ∙ charge_moves (spent time s.cpu) (before_selection time s) (selection_owns S n time s o)
