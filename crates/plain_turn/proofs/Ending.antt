-- The turn put together, and what it leaves. Assumes nothing.
use Rattle.std.specs.Prelude.{if◌then◌else◌}
use mathlib.Core.Path.{◌≡◌, sym, ap, ◌∙◌, subst}
use mathlib.Core.Bool.{Bool, false}
use Prim.Native.Nat.{ℕ, ◌-◌, ◌≤◌}
use Rattle.context.specs.Status.{is_runnable}
use Rattle.cpu_stats.specs.State.{is_idle_state}
use Rattle.ticks.specs.declared.Spent.{Spent}
use Rattle.ticks.specs.Ticks.{ticks, max_ticks}
use Rattle.weights.specs.Weights.{weight}
use Rattle.charging.specs.Charge.{charged, stopped}
use Rattle.percpu.specs.Cpu.{Cpu}
use Rattle.percpu.specs.With.{cpu_total_weight}
use Rattle.machine.specs.Shape.{ContextFits}
use Rattle.model.specs.State as model
use Rattle.model.specs.State.{on_cpu, holder, is_idle}
use Rattle.model.specs.Turn.{spent, inactive}
use Rattle.model.proofs.Cases.{by_test, never, pick}
use Rattle.turn.proofs.Charged.{charged_fits, stopped_fits}
use Rattle.turn.proofs.Bounded.{charge_below}
use Rattle.stages.specs.Stage.{StateBelow}
use Rattle.stages.specs.Bounds.{t_timed, b_charged}
use Rattle.plain_model.specs.State.{placed}
use Rattle.plain_model.specs.Turn.{holder_stopped, charge_holder, before_selection, before_choice}
use Rattle.plain_model.proofs.Charged.{holder_charged}
use Rattle.plain_state.specs.declared.State.{State}
use Rattle.plain_state.specs.States.{state_in, Sound, Tracks}
use Rattle.plain_state.specs.Fits.{StateFits}
use Rattle.plain_state.proofs.Fitting.{context_put, block_changed, newest_inserted, sound_fits}
use Rattle.plain_state.proofs.Tracking.{tracks_then}
use Rattle.plain_turn.specs.Turns.{Timed, CanPay, TurnEnds}
use Rattle.plain_turn.proofs.Paying.{charge_stays}

-- names, ranges and keys
module _ {n : ℕ} (S : model.State) (f : StateFits n S) where
  held : ContextFits 4 (holder S)
  held = f.context S.cpu.block.sched_ctxt f.cpu.sched

  abbrev lighter : model.State
  lighter = on_cpu (λ (p : Cpu). cpu_total_weight (if (holder S).is_active then p.block.total_weight - weight (holder S).prio else p.block.total_weight) p) S

  inactive_fits : StateFits n (inactive S)
  inactive_fits =
      context_put lighter
      (block_changed S f lighter.cpu.block (record { current = f.cpu.current; sched = f.cpu.sched; idle = f.cpu.idle }))
      S.cpu.block.sched_ctxt (stopped (holder S)) (stopped_fits (holder S) held)

  pub charge_fits : (e : Spent) → StateFits n (charge_holder e S)
  unfolding charge_holder holder_stopped
  charge_fits e =
      pick (StateFits n) (is_idle S) (λ z. f)
      (λ z. pick (StateFits n) (is_runnable (holder S).status)
      (λ y. context_put S f S.cpu.block.sched_ctxt (charged S.cpu.block.v e (holder S)) (charged_fits S.cpu.block.v e (holder S) held))
      (λ y. pick (StateFits n) (holder S).has_wake
      (λ w. newest_inserted (inactive S) inactive_fits (record { wake = (holder S).wake; context_ref = S.cpu.block.sched_ctxt }) f.cpu.sched) (λ w. inactive_fits)))

-- and what grows
pub paid_below : {n : ℕ} (s : State) (e : Spent) → Sound n s → CanPay n e (state_in n s) → StateBelow n t_timed b_charged (placed (charge_holder e (state_in n s)))
paid_below {n} s e o a =
    subst (StateBelow n t_timed b_charged) (sym (holder_charged e (state_in n s) a.timed.fits.cpu.differ).is)
    (charge_below (placed (state_in n s)) (sound_fits s o a.timed.fits) a.timed.fits.context a.timed.below e a.ticks)

-- t: the state before the selection
module _ {n : ℕ} (time : ℕ) (s : State) {t : State} (u : Tracks n t (before_selection time (state_in n s))) (f : t.no_room ≡ false → Timed n (state_in n t))
    (e : Spent) {d : ℕ} (hd : d ≡ time - s.cpu.block.schedule_time) (he : e.elapsed ≡ d) (ht : e.ticks ≡ ticks d s.cpu.remainder) (few : e.ticks ≤ max_ticks) where
  pub can_pay : t.no_room ≡ false → CanPay n e (state_in n t)
  can_pay h = record { timed = f h; ticks = few }

  spends : e ≡ spent time (state_in n s).cpu
  spends = λ i. record { elapsed = (he ∙ hd) i; ticks = (ht ∙ ap (λ (z : ℕ). ticks z s.cpu.remainder) hd) i }

  module _ {r : State} (v : Tracks n r (charge_holder e (state_in n t))) where
    had_room : r.no_room ≡ false → t.no_room ≡ false
    had_room h = by_test t.no_room (λ y. never (v.room ∙ charge_stays e (state_in n t) y) h) (λ y. y)

    pub turned : {was : Bool} → was ≡ is_idle_state s.cpu.block.stats.state → TurnEnds n time (state_in n s) (record { state = r; spent = e; was_idle = was })
    unfolding before_choice
    turned w =
        record {
          tracks = subst (λ (z : Spent). Tracks n r (charge_holder z (before_selection time (state_in n s)))) spends (tracks_then (charge_holder e) (charge_stays e) u v);
          spends = spends;
          idled = w;
          few = few;
          fits = λ h. subst (StateFits n) (sym (v.is (sym v.room ∙ h))) (charge_fits (state_in n t) (f (had_room h)).fits e);
          below = λ h. subst (λ (z : model.State). StateBelow n t_timed b_charged (placed z)) (sym (v.is (sym v.room ∙ h))) (paid_below t e u.sound (can_pay (had_room h)));
        }
