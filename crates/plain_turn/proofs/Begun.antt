-- Counting, wake-ups and times put together, and what they leave. Assumes nothing.
use Rattle.std.specs.Prelude.{None, Option, Some}
use mathlib.Core.Path.{◌≡◌, refl, sym, ap, ◌∙◌, subst}
use mathlib.Core.Bool.{false}
use mathlib.Core.List.{List, [], ◌∷◌}
use Prim.Native.Nat.{ℕ, ◌/◌, ◌≤◌}
use native.Mathlib.Omega.{arith}
use Rattle.columns.specs.Common.{fold}
use Rattle.numbers.specs.Limits.{max_number, max_elapsed, nanos_per_millisecond}
use Rattle.cpu_stats.specs.Counted.{time_added}
use Rattle.ticks.specs.Ticks.{remainder}
use Rattle.ticks.proofs.Laws.{remainder_low}
use Rattle.percpu.specs.With.{block_stats, block_schedule_time, cpu_block}
use Rattle.model.specs.State as model
use Rattle.model.specs.State.{on_cpu}
use Rattle.model.specs.Turn.{count_switch, elapsed, times}
use Rattle.model.specs.Wakeup.{Wakeup, WakeupResult, dropped, locked, woken_only, entered, wakeup_result}
use Rattle.plain_model.specs.State.{placed}
use Rattle.plain_model.specs.Wakeup.{put_back, enter, wake_as, serve_wakeup, serve_wakeups, drained, wakeups}
use Rattle.plain_model.specs.Turn.{before_selection}
use Rattle.stages.specs.Stage.{StateBelow}
use Rattle.stages.specs.Bounds.{t_counted, b_woken}
use Rattle.turn.proofs.Bounded.{times_below}
use Rattle.plain_state.specs.declared.State.{State}
use Rattle.plain_state.specs.States.{state_in, Became, Tracks}
use Rattle.plain_state.specs.Fits.{StateFits}
use Rattle.plain_state.proofs.Fitting.{block_fits, remainder_fits, cpu_changed}
use Rattle.plain_state.proofs.Tracking.{tracks_then}
use Rattle.plain_wakeup.proofs.Bounded.{woken_below}
use Rattle.plain_turn.specs.Turns.{CanBegin, CanTime, Timed}

-- wake-ups do not touch what a turn is measured by
module _ (time : ℕ) where
  back_kept : (w : Option ℕ) (x : ℕ) (S : model.State) → elapsed time (put_back w x S).cpu ≡ elapsed time S.cpu
  back_kept None x S = refl
  back_kept (Some t) x S = refl

  woken_kept : (S : model.State) (w : Wakeup) (r : WakeupResult) → elapsed time (wake_as S w r).cpu ≡ elapsed time S.cpu
  unfolding wake_as enter
  woken_kept S w dropped = refl
  woken_kept S w locked = back_kept w.wake w.context_ref S
  woken_kept S w (woken_only c) = refl
  woken_kept S w (entered c) = refl

  served_kept : (ws : List Wakeup) (S : model.State) → elapsed time (fold serve_wakeup S ws).cpu ≡ elapsed time S.cpu
  unfolding serve_wakeup
  served_kept [] S = refl
  served_kept (w ∷ ws) S = served_kept ws (serve_wakeup S w) ∙ woken_kept S w (wakeup_result S w)

  pub elapsed_kept : (S : model.State) → elapsed time (serve_wakeups time S).cpu ≡ elapsed time S.cpu
  unfolding serve_wakeups
  elapsed_kept S = served_kept (wakeups time S) (drained time S)

-- times are kept
pub timed : {n : ℕ} (time : ℕ) (S : model.State) → time ≤ max_number → CanTime n time S → Timed n (on_cpu (times time) S)
unfolding times
timed {n} time S h a =
    let b = block_schedule_time time (block_stats (time_added (elapsed time S.cpu / nanos_per_millisecond) S.cpu.block.stats) S.cpu.block) in
    record {
      fits = cpu_changed S a.fits (times time)
          (remainder_fits (cpu_block b S.cpu) (block_fits S.cpu a.fits.cpu b (record { current = a.fits.cpu.current; sched = a.fits.cpu.sched; idle = a.fits.cpu.idle }))
          (remainder (elapsed time S.cpu) S.cpu.remainder) (remainder_low (elapsed time S.cpu) S.cpu.remainder));
      below = times_below time (placed S) (omega arith) a.in_time a.below;
    }

-- c: the decision is counted
module _ {n time : ℕ} (s : State) (a : CanBegin n time (state_in n s)) {c : State} (b : Became n c (on_cpu count_switch (state_in n s))) where
  pub counted_fits : StateFits n (state_in n c)
  counted_fits =
      subst (StateFits n) (sym b.is)
      (cpu_changed (state_in n s) a.fits count_switch
      (block_fits (state_in n s).cpu a.fits.cpu (count_switch (state_in n s).cpu).block (record { current = a.fits.cpu.current; sched = a.fits.cpu.sched; idle = a.fits.cpu.idle })))

  pub counted_below : StateBelow n t_counted max_number (placed (state_in n c))
  counted_below = subst (λ (z : model.State). StateBelow n t_counted max_number (placed z)) (sym b.is) a.counted

  -- w: wake-ups are served
  module _ {w : State} (t : Tracks n w (serve_wakeups time (state_in n c))) (f : w.no_room ≡ false → StateFits n (state_in n w)) where
    pub can_time : w.no_room ≡ false → CanTime n time (state_in n w)
    can_time h =
        let e : state_in n w ≡ serve_wakeups time (state_in n c) = t.is (sym t.room ∙ h) in
        record {
          fits = f h;
          below = subst (λ (z : model.State). StateBelow n t_counted b_woken (placed z)) (sym e) (woken_below time c b.sound counted_fits counted_below);
          in_time = subst (λ (m : ℕ). m ≤ max_elapsed)
              (sym (ap (λ (z : model.State). elapsed time z.cpu) e ∙ elapsed_kept time (state_in n c) ∙ ap (λ (z : model.State). elapsed time z.cpu) b.is)) a.in_time;
        }

    -- r: times are kept
    module _ {r : State} (u : Tracks n r (on_cpu (times time) (state_in n w))) where
      pub selects : Tracks n r (before_selection time (state_in n s))
      unfolding before_selection
      selects = tracks_then (on_cpu (times time)) (λ z h. h) (subst (λ (z : model.State). Tracks n w (serve_wakeups time z)) b.is t) u

      pub has_timed : time ≤ max_number → r.no_room ≡ false → Timed n (state_in n r)
      has_timed l h = subst (Timed n) (sym (u.is (sym u.room ∙ h))) (timed time (state_in n w) l (can_time (sym u.room ∙ h)))
