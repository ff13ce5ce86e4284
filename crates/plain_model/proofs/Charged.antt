-- The state before the choice is the kernel's. Assumes nothing.
use mathlib.Core.Path.{refl}
use mathlib.Core.Bool.{not}
use Prim.Native.Nat.{ℕ}
use Rattle.context.specs.Status.{is_runnable}
use Rattle.entries.specs.declared.Timer.{Timer}
use Rattle.entries.specs.Order.{superseded}
use Rattle.entries.proofs.Ordered.{timers_ordered}
use Rattle.entries.specs.Queue.{without_superseded}
use Rattle.ticks.specs.declared.Spent.{Spent}
use Rattle.charging.specs.Charge.{charged}
use Rattle.percpu.specs.Cpu.{Cpu}
use Rattle.percpu.specs.With.{cpu_timers}
use Rattle.model.specs.State.{State, on_cpu, insert_timer, insert_newest_timer, holder, is_idle}
use Rattle.model.specs.Turn.{count_switch, spent, times, inactive, holder_stopped, charge_holder, before_selection, before_choice}
use Rattle.model.specs.Wakeup.{serve_wakeups}
use Rattle.plain_model.specs.State as lists
use Rattle.plain_model.specs.State.{placed, Different}
use Rattle.plain_model.specs.Wakeup.{serve_wakeups as plain-wakeups}
use Rattle.plain_model.specs.Turn as plain
use Rattle.plain_model.proofs.Ranked.{keep_differs}
use Rattle.plain_model.proofs.Placing.{by_rank_keep}
use Rattle.plain_model.proofs.Places.{Places, places, by_placed, if_places, put_placed, timer_placed}
use Rattle.plain_model.proofs.Woken.{wakeups_served}

module _ (s : State) (d : Different s.cpu) where
  alone_placed : (t : Timer)
      → Places (on_cpu (λ (p : Cpu). cpu_timers (without_superseded t p.timers) p) s)
      (on_cpu (λ (p : Cpu). cpu_timers (without_superseded t p.timers) p) (placed s))
  alone_placed t =
      record {
        is = rw (by_rank_keep timers_ordered (λ (u : Timer). not (superseded t u)) s.cpu.timers d.timers);
        differ = record { queue = d.queue; timers = keep_differs timers_ordered (λ (u : Timer). not (superseded t u)) s.cpu.timers d.timers };
      }

  newest_placed : (t : Timer) → Places (lists.insert_newest_timer t s) (insert_newest_timer t (placed s))
  newest_placed t = by_placed (lists.insert_timer t) (insert_timer t) (λ u h. timer_placed u h t) (alone_placed t)

  inactive_placed : Places (inactive s) (inactive (placed s))
  inactive_placed = record { is = refl; differ = record { queue = d.queue; timers = d.timers } }

  counted_placed : Places (on_cpu count_switch s) (on_cpu count_switch (placed s))
  counted_placed = record { is = refl; differ = record { queue = d.queue; timers = d.timers } }

  times_placed : (time : ℕ) → Places (on_cpu (times time) s) (on_cpu (times time) (placed s))
  unfolding times
  times_placed time = record { is = refl; differ = record { queue = d.queue; timers = d.timers } }

pub stopped_placed : (s : State) → Different s.cpu → Places (plain.holder_stopped s) (holder_stopped (placed s))
unfolding plain.holder_stopped holder_stopped
stopped_placed s d =
    let t : Timer = record { wake = (holder s).wake; context_ref = s.cpu.block.sched_ctxt }
    in if_places (holder s).has_wake
    (by_placed (lists.insert_newest_timer t) (insert_newest_timer t) (λ u h. newest_placed u h t) (inactive_placed s d)) (inactive_placed s d)

pub holder_charged : (n : Spent) (s : State) → Different s.cpu → Places (plain.charge_holder n s) (charge_holder n (placed s))
unfolding plain.charge_holder charge_holder
holder_charged n s d =
    if_places (is_idle s) (places s d)
    (if_places (is_runnable (holder s).status) (put_placed s d s.cpu.block.sched_ctxt (charged s.cpu.block.v n (holder s))) (stopped_placed s d))

pub selection_placed : (time : ℕ) (s : State) → Different s.cpu → Places (plain.before_selection time s) (before_selection time (placed s))
unfolding plain.before_selection before_selection
selection_placed time s d =
    by_placed (on_cpu (times time)) (on_cpu (times time)) (λ u h. times_placed u h time)
    (by_placed (plain-wakeups time) (serve_wakeups time) (wakeups_served time) (counted_placed s d))

pub choice_placed : (time : ℕ) (s : State) → Different s.cpu → Places (plain.before_choice time s) (before_choice time (placed s))
unfolding plain.before_choice before_choice
choice_placed time s d =
    by_placed (plain.charge_holder (spent time s.cpu)) (charge_holder (spent time s.cpu)) (holder_charged (spent time s.cpu)) (selection_placed time s d)
