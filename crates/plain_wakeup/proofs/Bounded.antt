-- The whole stage put together, and what it adds. Assumes nothing.
use mathlib.Core.Path.{◌≡◌, refl, sym, ap, ◌∙◌, subst}
use mathlib.Core.Bool.{false}
use mathlib.Core.List.{List, [], ◌∷◌, ◌++◌, map}
use Prim.Native.Nat.{ℕ, ◌+◌}
use Rattle.columns.specs.Common.{fold, keep}
use Rattle.columns.proofs.Tests.{by_test}
use Rattle.numbers.specs.Limits.{max_number}
use Rattle.entries.specs.declared.Timer.{Timer}
use Rattle.entries.specs.Order.{is_due, sooner}
use Rattle.percpu.specs.Cpu.{Cpu}
use Rattle.percpu.specs.With.{cpu_timers, cpu_local_wakeup_list}
use Rattle.model.specs.State as model
use Rattle.model.specs.Wakeup.{is_live_timer, timer_wakeup, local_wakeup, stays}
use Rattle.plain_model.specs.Rank.{by_rank}
use Rattle.plain_model.specs.State.{placed}
use Rattle.plain_model.specs.Wakeup.{wakeups, drained, serve_wakeup, serve_wakeups}
use Rattle.plain_model.proofs.Woken.{wakeups_served}
use Rattle.stages.specs.Stage.{StateBelow}
use Rattle.stages.specs.Bounds.{slice_bound}
use Rattle.wakeup.proofs.Bounded.{serve_wakeups_below}
use Rattle.plain_state.specs.declared.State.{State}
use Rattle.plain_state.specs.States.{state_in, Sound, Became, Tracks}
use Rattle.plain_state.specs.Fits.{StateFits}
use Rattle.plain_state.proofs.Fitting.{local_fits, cpu_changed, timers_kept, sound_fits}
use Rattle.plain_state.proofs.Tracking.{tracks_then}
use Rattle.plain_wakeup.specs.Wakeups.{timer_step, name_step, Wakeable, Served}
use Rattle.plain_wakeup.proofs.Ready.{fold_stays, serve_stays}

fold_both : {A B : Type 0} (f : B → A → B) (b : B) (l m : List A) → fold f b (l ++ m) ≡ fold f (fold f b l) m
fold_both f b [] m = refl
fold_both f b (x ∷ l) m = fold_both f (f b x) l m

-- a list of wake-ups, by the items that give them
timers_fold : (B : model.State) (time : ℕ) (S : model.State) (l : List Timer) → fold (timer_step B time) S l ≡ fold serve_wakeup S (map timer_wakeup (keep (is_live_timer B) (keep (is_due time) l)))
timers_fold B time S [] = refl
timers_fold B time S (t ∷ l) =
    by_test (is_due time t)
    (λ d.
    by_test (is_live_timer B t) (λ e. rw (d, e) (timers_fold B time (serve_wakeup S (timer_wakeup t)) l))
    (λ e. rw (d, e) (timers_fold B time S l)))
    (λ d. rw d (timers_fold B time S l))

names_fold : (S : model.State) (l : List ℕ) → fold name_step S l ≡ fold serve_wakeup S (map local_wakeup l)
names_fold S [] = refl
names_fold S (x ∷ l) = names_fold (serve_wakeup S (local_wakeup x)) l

wakeups_fold : (time : ℕ) (S : model.State)
    → fold name_step (fold (timer_step S time) (drained time S) (by_rank sooner S.cpu.timers)) S.cpu.local_wakeup_list ≡ serve_wakeups time S
unfolding serve_wakeups wakeups
wakeups_fold time S =
    names_fold _ S.cpu.local_wakeup_list
    ∙ ap (λ (z : model.State). fold serve_wakeup z (map local_wakeup S.cpu.local_wakeup_list)) (timers_fold S time (drained time S) (by_rank sooner S.cpu.timers))
    ∙ sym (fold_both serve_wakeup (drained time S) (map timer_wakeup (keep (is_live_timer S) (keep (is_due time) (by_rank sooner S.cpu.timers)))) (map local_wakeup S.cpu.local_wakeup_list))

module _ {n : ℕ} (time : ℕ) (s : State) {d : State} (b : Became n d (drained time (state_in n s))) where
  abbrev S : model.State
  S = state_in n s

  -- what the first wake-up finds
  pub drained_ready : {t : ℕ} → StateFits n S → StateBelow n t max_number (placed S) → Wakeable n max_number (state_in n d)
  drained_ready f l =
      subst (Wakeable n max_number) (sym b.is)
      (record {
        fits = cpu_changed S f (λ (p : Cpu). cpu_timers (keep (stays time S) p.timers) (cpu_local_wakeup_list [] p))
            (local_fits (cpu_timers (keep (stays time S) S.cpu.timers) S.cpu) (timers_kept S f (stays time S)).cpu [] tt);
        slow = record { vtime = λ x h. (l.context x h).vtime; v = l.cpu.v; total_weight = l.cpu.total_weight };
      })

  module _ {u r : State} {w w' : ℕ} (t : Served n w u (fold (timer_step S time) (state_in n d) (by_rank sooner S.cpu.timers)))
      (l : Served n w' r (fold name_step (state_in n u) S.cpu.local_wakeup_list)) where
    pub all_served : Tracks n r (serve_wakeups time S)
    all_served =
        subst (Tracks n r) (wakeups_fold time S)
        (tracks_then (λ (z : model.State). fold name_step z S.cpu.local_wakeup_list) (fold_stays name_step (λ x. serve_stays (local_wakeup x)) S.cpu.local_wakeup_list)
        (subst (λ (z : model.State). Tracks n u (fold (timer_step S time) z (by_rank sooner S.cpu.timers))) b.is t.tracks) l.tracks)

    pub served_fits : r.no_room ≡ false → StateFits n (state_in n r)
    served_fits z = (l.ready z).fits

-- what the stage adds
pub woken_below : {n t b : ℕ} (time : ℕ) (s : State) → Sound n s → StateFits n (state_in n s) → StateBelow n t b (placed (state_in n s)) → StateBelow n t (b + slice_bound) (placed (serve_wakeups time (state_in n s)))
woken_below {n} {t} {b} time s o f l =
    subst (StateBelow n t (b + slice_bound)) (sym (wakeups_served time (state_in n s) f.cpu.differ).is) (serve_wakeups_below time (placed (state_in n s)) (sound_fits s o f) l)
