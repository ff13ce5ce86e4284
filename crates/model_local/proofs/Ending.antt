-- What comes after the choice stays with the contexts that the CPU names: the advance, the holder put back, the slice and the CPU handed over.
-- Assumes nothing.
use Rattle.std.specs.Prelude.{if◌then◌else◌, None, Option, Some, is_some}
use mathlib.Core.Path.{◌≡◌, refl, ap, ◌∙◌}
use mathlib.Core.Bool.{Bool, true, false, not, ◌&&◌, ◌||◌}
use mathlib.Core.List.{List}
use Prim.Native.Nat.{ℕ, ◌+◌, ◌-◌}
use lib.Dec.{eqb}
use Rattle.context.specs.declared.Context.{Context}
use Rattle.context.specs.Status.{is_runnable}
use Rattle.context.specs.With.{with_currently_scheduled, with_schedule_time, with_sched_cpu_time}
use Rattle.context.specs.Key.{queue_key, with_new_key, entry_of}
use Rattle.weights.specs.Weights.{weight}
use Rattle.runnable.specs.declared.UpdateResult.{UpdateResult}
use Rattle.runnable.specs.declared.UpdateResult.TheVariants.{CanSwitch, Skip, Blocked}
use Rattle.runnable.specs.Runnable.{update_runnable}
use Rattle.percpu.specs.With.{cpu_sched_ctxt}
use Rattle.model.specs.State.{State, at, put_context, on_cpu, insert_entry, push_local, remove_key, holder, is_idle}
use Rattle.model.specs.Steal.{Stealing, mark_stealable}
use Rattle.model.specs.Handover.{advance, requeue, settled, next_context, hand_over}
use Rattle.model.specs.SwitchTo.{saved, left, comes, becomes_current, switch_to, direct_switch_by, try_direct_switch_back}
use Rattle.model.proofs.Cases.{pick}
use Rattle.model_local.specs.Local.{others}
use Rattle.model_local.proofs.Others.{branch, at_others, put_others}
use Rattle.model_local.proofs.Owned.{Owns, with_record, with_entry, without_entry, with_name, with_charge, with_current}
use Rattle.model_local.proofs.Charging.{holder_same}
use Rattle.model_local.proofs.Choosing.{Won}

module _ (S : ℕ → Bool) (n : ℕ) where
  advance_owns : (runs : Bool) (w : Option ℕ) (ticks : ℕ) (s : State) → Owns S n s → Owns S n (advance runs w ticks s)
  unfolding advance
  advance_owns runs w ticks s o = pick (Owns S n) ((is_some w || runs) && not (eqb s.cpu.block.total_weight 0)) (λ t. o) (λ t. o)

  requeue_owns : (s : State) → Owns S n s → Owns S n (requeue s)
  unfolding requeue
  requeue_owns s o =
      let x = s.cpu.block.sched_ctxt in
      let c = holder s in
      let r : Owns S n (if c.has_queue_key then remove_key (queue_key c) s else s) = pick (Owns S n) c.has_queue_key (λ t. without_entry S n (queue_key c) o) (λ t. o) in
      with_entry S n (entry_of x (weight c.prio) c) o.within.in_charge (with_record S n x (with_new_key c) r)

  pub settled_owns : (runs : Bool) (ticks : ℕ) (l : Stealing) → Owns S n l.state → Owns S n (settled runs ticks l)
  unfolding settled
  settled_owns runs ticks l o =
      let a : Owns S n (advance runs l.winner ticks l.state) = advance_owns runs l.winner ticks l.state o in
      pick (λ (u : State). Owns S n (on_cpu mark_stealable u)) (is_some l.winner && runs) (λ t. requeue_owns (advance runs l.winner ticks l.state) a) (λ t. a)

  pub next_won : (runs : Bool) (w : Option ℕ) (s : State) → Won S w → Owns S n s → Won S (next_context runs w s)
  unfolding next_context
  next_won runs None s t o = pick (Won S) (runs || is_idle s) (λ y. tt) (λ y. o.within.idle)
  next_won runs (Some x) s t o = t

  pub hand_owns : (time : ℕ) (was : Bool) (x : ℕ) (s : State) → S x ≡ true → Owns S n s → Owns S n (hand_over time was x s)
  unfolding hand_over
  hand_owns time was x s t o =
      let y = s.cpu.block.sched_ctxt in
      let c = holder s in
      let d = with_currently_scheduled false (with_sched_cpu_time (if was then c.sched_cpu_time else c.sched_cpu_time + (time - c.schedule_time)) c) in
      let s' = put_context y d s in
      with_charge S n x t (with_record S n x (with_currently_scheduled true (with_schedule_time time (at s' x))) (with_record S n y d o))

  module _ (k time : ℕ) where
    saved_owns : (s : State) → Owns S n s → Owns S n (saved k time s)
    saved_owns s o =
        let x = s.cpu.block.current_ctxt in
        pick (Owns S n) (not (eqb s.cpu.block.sched_ctxt x) && not (at s x).has_queue_key && is_runnable (at s x).status) (λ t. with_name S n x o.within.current o) (λ t. o)

    pub switch_owns : (x : ℕ) (s : State) → S x ≡ true → Owns S n s → Owns S n (switch_to k time x s)
    unfolding switch_to
    switch_owns x s₀ t o =
        let s = saved k time s₀ in
        let y = s.cpu.block.current_ctxt in
        let d = left k time s.cpu (at s y) in
        let s₁ = put_context y d s in
        let c = comes k time (at s₁ x) in
        with_current S n x t (with_record S n x c (with_record S n y d (saved_owns s₀ o)))

module _ (S : ℕ → Bool) (n : ℕ) (ds : List Context) where
  abbrev G : State → State
  G = others S ds

  abbrev pub G_option : Option State → Option State
  G_option None = None
  G_option (Some s) = Some (G s)

  advance_moves : (runs : Bool) (w : Option ℕ) (ticks : ℕ) (s : State) → advance runs w ticks (G s) ≡ G (advance runs w ticks s)
  unfolding advance
  advance_moves runs w ticks s = branch G ((is_some w || runs) && not (eqb s.cpu.block.total_weight 0)) refl refl

  requeue_moves : (s : State) → Owns S n s → requeue (G s) ≡ G (requeue s)
  unfolding requeue
  requeue_moves s o =
      let x = s.cpu.block.sched_ctxt in
      let c = holder s in
      let s' : State = if c.has_queue_key then remove_key (queue_key c) s else s in
      rw (holder_same S n ds s o)
      (ap (λ (u : State). insert_entry (entry_of x (weight c.prio) c) (put_context x (with_new_key c) u))
      (branch G c.has_queue_key {x = remove_key (queue_key c) s} {y = s} refl refl)
      ∙ ap (insert_entry (entry_of x (weight c.prio) c)) (put_others S ds s' x o.within.in_charge (with_new_key c)))

  abbrev pub stealing_others : Stealing → Stealing
  stealing_others l = record { state = G l.state; cpus = l.cpus; winner = l.winner; done = l.done }

  pub settled_moves : (runs : Bool) (ticks : ℕ) (l : Stealing) → Owns S n l.state → settled runs ticks (stealing_others l) ≡ G (settled runs ticks l)
  unfolding settled
  settled_moves runs ticks l o =
      let s : State = advance runs l.winner ticks l.state in
      ap (λ (u : State). on_cpu mark_stealable (if is_some l.winner && runs then requeue u else u)) (advance_moves runs l.winner ticks l.state)
      ∙ ap (on_cpu mark_stealable)
      (branch G (is_some l.winner && runs) {x = requeue s} {y = s} (requeue_moves s (advance_owns S n runs l.winner ticks l.state o)) refl)

  pub next_same : (runs : Bool) (w : Option ℕ) (s : State) → next_context runs w (G s) ≡ next_context runs w s
  unfolding next_context
  next_same runs None s = refl
  next_same runs (Some x) s = refl

  -- context x is read and stored anew, and the CPU after it
  module _ (x : ℕ) (t : S x ≡ true) (f : Context → Context) (g : Context → State → State) (e : (c : Context) (s : State) → g c (G s) ≡ G (g c s)) where
    store_moves : (s : State) → g (f (at (G s) x)) (put_context x (f (at (G s) x)) (G s)) ≡ G (g (f (at s x)) (put_context x (f (at s x)) s))
    store_moves s =
        let c = f (at s x) in
        ap (λ (d : Context). g (f d) (put_context x (f d) (G s))) (at_others S ds s x t) ∙ ap (g c) (put_others S ds s x t c) ∙ e c (put_context x c s)

  pub hand_moves : (time : ℕ) (was : Bool) (x : ℕ) (s : State) → S x ≡ true → Owns S n s → hand_over time was x (G s) ≡ G (hand_over time was x s)
  unfolding hand_over
  hand_moves time was x s t o =
      let y = s.cpu.block.sched_ctxt in
      let f : Context → Context = λ c. with_currently_scheduled false (with_sched_cpu_time (if was then c.sched_cpu_time else c.sched_cpu_time + (time - c.schedule_time)) c) in
      let h : Context → Context = λ c. with_currently_scheduled true (with_schedule_time time c) in
      ap (λ (u : State). on_cpu (cpu_sched_ctxt x) (put_context x (h (at u x)) u)) (store_moves y o.within.in_charge f (λ c u. u) (λ c u. refl) s)
      ∙ store_moves x t h (λ c. on_cpu (cpu_sched_ctxt x)) (λ c u. refl) (put_context y (f (at s y)) s)

  module _ (k time : ℕ) where
    saved_moves : (s : State) → Owns S n s → saved k time (G s) ≡ G (saved k time s)
    saved_moves s o =
        let x = s.cpu.block.current_ctxt in
        rw (at_others S ds s x o.within.current)
        (branch G (not (eqb s.cpu.block.sched_ctxt x) && not (at s x).has_queue_key && is_runnable (at s x).status) {x = push_local x s} {y = s} refl refl)

    pub switch_moves : (x : ℕ) (s : State) → S x ≡ true → Owns S n s → switch_to k time x (G s) ≡ G (switch_to k time x s)
    unfolding switch_to
    switch_moves x s₀ t o =
        let s = saved k time s₀ in
        let y = s.cpu.block.current_ctxt in
        let f : Context → Context = left k time s.cpu in
        let after : State → State = λ u. on_cpu (becomes_current k time x (comes k time (at u x))) (put_context x (comes k time (at u x)) u) in
        ap (λ (u : State). after (put_context u.cpu.block.current_ctxt (left k time u.cpu (at u u.cpu.block.current_ctxt)) u)) (saved_moves s₀ o)
        ∙ ap after (store_moves y (saved_owns S n k time s₀ o).within.current f (λ c u. u) (λ c u. refl) s)
        ∙ store_moves x t (comes k time) (λ c. on_cpu (becomes_current k time x c)) (λ c u. refl) (put_context y (f (at s y)) s)

    pub direct_moves : (x : ℕ) (s : State) → S x ≡ true → Owns S n s → (r : UpdateResult) → direct_switch_by k time x (G s) r ≡ G_option (direct_switch_by k time x s r)
    unfolding direct_switch_by
    direct_moves x s t o Skip = refl
    direct_moves x s t o Blocked = refl
    direct_moves x s t o (CanSwitch c) =
        ap Some (ap (switch_to k time x) (put_others S ds s x t c) ∙ switch_moves x (put_context x c s) t (with_record S n x c o))

    pub back_moves : (s : State) → Owns S n s → try_direct_switch_back k time (G s) ≡ G_option (try_direct_switch_back k time s)
    unfolding try_direct_switch_back
    back_moves s o =
        let x = s.cpu.block.sched_ctxt in
        branch G_option (eqb s.cpu.block.current_ctxt x) refl
        (ap (λ (c : Context). direct_switch_by k time x (G s) (update_runnable k time true false c)) (at_others S ds s x o.within.in_charge)
        ∙ direct_moves x s o.within.in_charge o (update_runnable k time true false (at s x)))

-- a direct switch back
abbrev pub OwnsOption : (ℕ → Bool) → ℕ → Option State → Type 0
OwnsOption S n None = Unit {0}
OwnsOption S n (Some s) = Owns S n s

module _ (S : ℕ → Bool) (n k time : ℕ) where
  pub direct_owns : (x : ℕ) (s : State) → S x ≡ true → Owns S n s → (r : UpdateResult) → OwnsOption S n (direct_switch_by k time x s r)
  unfolding direct_switch_by
  direct_owns x s t o Skip = tt
  direct_owns x s t o Blocked = tt
  direct_owns x s t o (CanSwitch c) = switch_owns S n k time x (put_context x c s) t (with_record S n x c o)

  pub back_owns : (s : State) → Owns S n s → OwnsOption S n (try_direct_switch_back k time s)
  unfolding try_direct_switch_back
  back_owns s o =
      let x = s.cpu.block.sched_ctxt in
      pick (OwnsOption S n) (eqb s.cpu.block.current_ctxt x) (λ t. tt) (λ t. direct_owns x s o.within.in_charge o (update_runnable k time true false (at s x)))
