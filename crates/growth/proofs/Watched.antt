-- What a decision does not touch before the stealing: the words that a stealing turn goes by, and the weight that the CPU publishes up to the choice. Assumes nothing.
use Rattle.std.specs.Prelude.{if◌then◌else◌, None, Option, Some}
use mathlib.Core.Path.{◌≡◌}
use mathlib.Core.Bool.{Bool, true, false}
use Prim.Native.Nat.{ℕ, ◌+◌, ◌≤◌, max}
use native.Mathlib.Omega.{arith}
use Rattle.weights.specs.Weights.{weight}
use Rattle.context.specs.Status.{is_runnable}
use Rattle.ticks.specs.declared.Spent.{Spent}
use Rattle.percpu.specs.With.{cpu_v}
use Rattle.model.specs.State.{State, at, on_cpu, holder, is_idle}
use Rattle.model.specs.Wakeup.{Wakeup, put_back, enter, WakeupResult, dropped, locked, woken_only, entered, wakeup_result, wake_as, serve_wakeup, wakeups, drained, serve_wakeups}
use Rattle.model.specs.Turn.{count_switch, times, holder_stopped, charge_holder, before_selection}
use Rattle.model.specs.Scan.{Scan}
use Rattle.model.specs.Choice.{Choice, cleaned_up, taken_out, chosen}
use Rattle.model.proofs.Cases.{pick}
use Rattle.model.proofs.Lists.{fold_keeps}

-- a view of the state's CPU that no stage before the stealing changes
pub record Watched : Type 0 where
  pub counter : ℕ
  pub in_charge : ℕ
  pub idle : ℕ

abbrev pub watched : State → Watched
watched s = record { counter = s.cpu.block.steal_counter; in_charge = s.cpu.block.sched_ctxt; idle = s.cpu.block.idle_ctxt }

module _ (v : Watched) where
  abbrev Same : State → Type 0
  Same s = watched s ≡ v

  back_same : (o : Option ℕ) (x : ℕ) (s : State) → Same s → Same (put_back o x s)
  back_same None x s h = h
  back_same (Some t) x s h = h

  wake_same : (s : State) (w : Wakeup) (r : WakeupResult) → Same s → Same (wake_as s w r)
  unfolding wake_as enter
  wake_same s w dropped h = h
  wake_same s w locked h = back_same w.wake w.context_ref s h
  wake_same s w (woken_only c) h = h
  wake_same s w (entered c) h = h

  serve_same : (s : State) (w : Wakeup) → Same s → Same (serve_wakeup s w)
  unfolding serve_wakeup
  serve_same s w h = wake_same s w (wakeup_result s w) h

  pub selection_same : (time : ℕ) (s : State) → Same s → Same (before_selection time s)
  unfolding before_selection serve_wakeups times
  selection_same time s h = let u = on_cpu count_switch s in fold_keeps Same serve_wakeup serve_same (drained time u) (wakeups time u) h

  pub charge_same : (n : Spent) (s : State) → Same s → Same (charge_holder n s)
  unfolding charge_holder holder_stopped
  charge_same n s h =
      pick Same (is_idle s) (λ t. h) (λ t. pick Same (is_runnable (holder s).status) (λ u. h) (λ u. pick Same (holder s).has_wake (λ w. h) (λ w. h)))

  taken_same : (o : Option ℕ) (s : State) → Same s → Same (taken_out o s)
  taken_same None s h = h
  taken_same (Some x) s h = pick Same (at s x).has_queue_key (λ t. h) (λ t. h)

  pub chosen_same : (w : Choice) (f : Scan) (s : State) → Same s → Same (chosen w f s)
  unfolding chosen cleaned_up
  chosen_same w f s h = taken_same w.winner (on_cpu (cpu_v w.v) (cleaned_up f s)) h

-- a wake-up publishes the total weight or nothing; b: what was published before
module _ (b : ℕ) where
  abbrev Publishes : State → Type 0
  Publishes s = s.cpu.block.published_weight ≤ max b s.cpu.block.total_weight

  back_publishes : (o : Option ℕ) (x : ℕ) (s : State) → Publishes s → Publishes (put_back o x s)
  back_publishes None x s h = h
  back_publishes (Some t) x s h = h

  -- whether the context was active
  entered_publishes : (active : Bool) (p t n : ℕ) → p ≤ max b t → (if active then p else n) ≤ max b (if active then t else n)
  entered_publishes true p t n h = h
  entered_publishes false p t n h = omega arith

  wake_publishes : (s : State) (w : Wakeup) (r : WakeupResult) → Publishes s → Publishes (wake_as s w r)
  unfolding wake_as enter
  wake_publishes s w dropped h = h
  wake_publishes s w locked h = back_publishes w.wake w.context_ref s h
  wake_publishes s w (woken_only c) h = h
  wake_publishes s w (entered c) h = entered_publishes c.is_active s.cpu.block.published_weight s.cpu.block.total_weight (s.cpu.block.total_weight + weight c.prio) h

  serve_publishes : (s : State) (w : Wakeup) → Publishes s → Publishes (serve_wakeup s w)
  unfolding serve_wakeup
  serve_publishes s w h = wake_publishes s w (wakeup_result s w) h

  pub served_publishes : (time : ℕ) (s : State) → Publishes s → Publishes (serve_wakeups time s)
  unfolding serve_wakeups
  served_publishes time s h = fold_keeps Publishes serve_wakeup serve_publishes (drained time s) (wakeups time s) h
