-- The timers that a call leaves: those before it, or those before the choice of its decision. Assumes nothing.
use Rattle.std.specs.Prelude.{None, Option, Some}
use mathlib.Core.Path.{◌≡◌, refl}
use mathlib.Core.Bool.{true, false}
use mathlib.Core.List.{List}
use mathlib.Core.Logic.{◌⊎◌, inl, inr}
use Prim.Native.Nat.{ℕ, ◌<◌}
use lib.Dec.{ltb, eqb}
use lib.ListN.{length}
use Rattle.ticks.specs.declared.Spent.{Spent}
use Rattle.ticks.specs.Ticks.{tick_interval}
use Rattle.context.specs.Status.{is_runnable}
use Rattle.entries.specs.declared.Timer.{Timer}
use Rattle.entries.specs.Queue.{timer_insert, without_superseded}
use Rattle.runnable.specs.declared.UpdateResult.{UpdateResult}
use Rattle.runnable.specs.declared.UpdateResult.TheVariants.{CanSwitch, Skip, Blocked}
use Rattle.runnable.specs.Runnable.{update_runnable}
use Rattle.percpu.specs.Cpu.{Cpu}
use Rattle.machine.specs.Machine.{Machine, cpu_at}
use Rattle.model.specs.State.{State, at, state_of, put_context, holder, is_idle}
use Rattle.model.specs.Turn.{holder_stopped, charge_holder, before_selection, before_choice, spent, was_idle}
use Rattle.model.specs.SwitchTo.{direct_switch_by, try_direct_switch_back}
use Rattle.model.specs.Schedule.{Outcome, ticked, select_next_context, schedule, switch_inner_by, switch_inner, tick, switch, direct_switch_or, direct_switch_to}
use Rattle.model.specs.Accepted.{Call, by_tick, by_switch, by_direct_switch, outcome}
use Rattle.model.proofs.Cases.{pick}
use Rattle.model_timers.proofs.Untouched.{kept, Leaves, finished, charged_leaves, switch_to_has}

-- the timer of a holder that stops
abbrev pub wake_timer : State → Timer
wake_timer s = record { wake = (holder s).wake; context_ref = s.cpu.block.sched_ctxt }

-- charging leaves the timers, or puts in the newest
pub charge_timers : (n : Spent) (s : State) (P : List Timer → Type 0) → P s.cpu.timers
    → (is_idle s ≡ false → is_runnable (holder s).status ≡ false → (holder s).has_wake ≡ true → P (timer_insert (wake_timer s) (without_superseded (wake_timer s) s.cpu.timers)))
    → P (charge_holder n s).cpu.timers
unfolding charge_holder holder_stopped
charge_timers n s P h g =
    pick (λ (u : State). P u.cpu.timers) (is_idle s) (λ z. h)
    (λ z. pick (λ (u : State). P u.cpu.timers) (is_runnable (holder s).status) (λ y. h)
    (λ y. pick (λ (u : State). P u.cpu.timers) (holder s).has_wake (λ x. g z y x) (λ x. h)))

module _ (k time : ℕ) (cpus : List Cpu) (b : k < length cpus) where
  -- of state s: nothing is decided, or from the choice on
  abbrev pub Left : State → Outcome → Type 0
  Left s o = Leaves k time (kept s.cpu) cpus o ⊎ Leaves k time (kept (before_choice time s).cpu) cpus o

  directly : (x : ℕ) (s : State) (r : UpdateResult) (f : Option State → Outcome) → ((u : State) → kept u.cpu ≡ kept s.cpu → Left s (f (Some u))) → Left s (f None)
      → Left s (f (direct_switch_by k time x s r))
  unfolding direct_switch_by
  directly x s Skip f g n = n
  directly x s Blocked f g n = n
  directly x s (CanSwitch c) f g n = g _ (switch_to_has (kept s.cpu) k time x (put_context x c s) refl)

  inner_left : (s : State) → Left s (switch_inner k time cpus s)
  unfolding switch_inner switch_inner_by try_direct_switch_back schedule select_next_context before_choice
  inner_left s =
      let x : ℕ = s.cpu.block.sched_ctxt in
      let n : Left s (switch_inner_by k time cpus s None) = inr (charged_leaves k time _ cpus (was_idle s.cpu) (spent time s.cpu) (charge_holder (spent time s.cpu) (before_selection time s)) b refl) in
      pick (λ (o : Option State). Left s (switch_inner_by k time cpus s o)) (eqb s.cpu.block.current_ctxt x) (λ z. n)
      (λ z. directly x s (update_runnable k time true false (at s x)) (switch_inner_by k time cpus s) (λ u e. inl (finished k time _ cpus _ _ cpus u b e (λ j. refl))) n)

-- operations 1 to 3
pub call_leaves : (call : Call) (k time : ℕ) (M : Machine) (b : k < length M.cpus) → Left k time M.cpus b (state_of k M) (outcome call k time M)
unfolding tick switch direct_switch_to direct_switch_or before_choice before_selection
call_leaves by_tick k time M b =
    let s : State = ticked (state_of k M) in
    pick (Left k time M.cpus b (state_of k M)) (ltb s.cpu.block.pit_ticks tick_interval) (λ z. inl (finished k time _ M.cpus _ _ M.cpus s b refl (λ j. refl))) (λ z. inner_left k time M.cpus b s)
call_leaves by_switch k time M b = inner_left k time M.cpus b (state_of k M)
call_leaves (by_direct_switch x) k time M b =
    let s : State = state_of k M in
    let p : Cpu = cpu_at M k in
    pick (Left k time M.cpus b s) (eqb p.block.current_ctxt x) (λ z. inl (finished k time _ M.cpus _ _ M.cpus s b refl (λ j. refl)))
    (λ z. directly k time M.cpus b x s (update_runnable k time (eqb p.block.sched_ctxt x) false (at s x)) (direct_switch_or k time M.cpus s)
    (λ u e. inl (finished k time _ M.cpus _ _ M.cpus u b e (λ j. refl))) (inner_left k time M.cpus b s))
