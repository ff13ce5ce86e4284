-- Counting, wake-ups and times as the beginning of a decision. Assumes nothing.
use Rattle.std.specs.Prelude.{None, Option, Some}
use mathlib.Core.Path.{◌≡◌, refl, sym, ◌∙◌, subst}
use mathlib.Core.Bool.{true, false}
use mathlib.Core.List.{List, [], ◌∷◌}
use Prim.Native.Nat.{ℕ, ◌<◌, ◌≤◌}
use native.Mathlib.Omega.{arith}
use lib.ListN.{length}
use Rattle.columns.specs.Common.{fold}
use Rattle.ticks.specs.Ticks.{max_ticks}
use Rattle.ticks.proofs.Laws.{ticks_high}
use Rattle.machine.specs.Machine.{Machine, cpu_at, no_cpu}
use Rattle.machine.specs.Shape.{CpuFits}
use Rattle.machine.proofs.Steps.{get_d_set}
use Rattle.model.specs.State.{State, state_of, on_cpu}
use Rattle.model.specs.Turn.{count_switch, elapsed, times, before_selection}
use Rattle.model.specs.Wakeup.{Wakeup, WakeupResult, dropped, locked, woken_only, entered, wakeup_result, put_back, enter, wake_as, serve_wakeup, serve_wakeups, drained, wakeups}
use Rattle.stages.specs.Stage.{put_state, Stage, Staged, CpuBelow, StateBelow, Below, Ranged}
use Rattle.stages.proofs.Compose.{state_put, stage_then, stage_full, stage_as}
use Rattle.turn.specs.declared.timing.Turn.{Turn}
use Rattle.turn.specs.Turn.{turn_of, InTime}
use Rattle.stages.proofs.Kept.{cpu_more}
use Rattle.turn.proofs.Bounded.{times_below}
use Rattle.wakeup.proofs.Bounded.{serve_wakeups_below}
use Rattle.schedule.specs.Begun.{CanBegin}
use Rattle.columns.proofs.Tests.{never}
use Rattle.numbers.specs.Limits.{max_number, max_elapsed}
use Rattle.stages.specs.Bounds.{t_counted, t_timed, b_woken}

-- wake-ups do not touch what a turn is measured by
module _ (time : ℕ) where
  back_kept : (w : Option ℕ) (x : ℕ) (s : State) → turn_of time (put_back w x s).cpu ≡ turn_of time s.cpu
  back_kept None x s = refl
  back_kept (Some t) x s = refl

  woken_kept : (s : State) (w : Wakeup) (r : WakeupResult) → turn_of time (wake_as s w r).cpu ≡ turn_of time s.cpu
  unfolding wake_as enter
  woken_kept s w dropped = refl
  woken_kept s w locked = back_kept w.wake w.context_ref s
  woken_kept s w (woken_only c) = refl
  woken_kept s w (entered c) = refl

  served_kept : (ws : List Wakeup) (s : State) → turn_of time (fold serve_wakeup s ws).cpu ≡ turn_of time s.cpu
  unfolding serve_wakeup
  served_kept [] s = refl
  served_kept (w ∷ ws) s = served_kept ws (serve_wakeup s w) ∙ woken_kept s w (wakeup_result s w)

  pub turn_kept : (s : State) → turn_of time (serve_wakeups time s).cpu ≡ turn_of time s.cpu
  unfolding serve_wakeups
  turn_kept s = served_kept (wakeups time s) (drained time s)

pub put_below : {c n t b : ℕ} (t' b' : ℕ) → t ≤ t' → b ≤ b' → (k : ℕ) (s : State) (M : Machine) → StateBelow n t' b' s → Below c n t b M → Below c n t' b' (put_state k s M)
unfolding cpu_at
put_below t' b' h g k s M a o = record { context = a.context; cpu = λ j i. get_d_set M.cpus k j s.cpu no_cpu (CpuBelow t' b') a.cpu (cpu_more h g (o.cpu j i)) }

-- through a stage that had room, by what it does to the one machine of the image
pub ranged_at : {R : Type 0} {c n t b k : ℕ} {m m' : List ℕ} {r : R} {f : State → State} {q : State → R} (t' b' : ℕ) → t ≤ t' → b ≤ b' → k < c → Stage c n k m m' false r f q
    → (a : Ranged c n t b m) → StateBelow n t' b' (f (state_of k a.M)) → Ranged c n t' b' m'
ranged_at {k = k} {f = f} t' b' h g l u a o =
    let z = u.stage a.M a.eq a.fits
    in let s = f (state_of k a.M)
    in record { M = put_state k s a.M; eq = z.after refl; fits = z.fits refl; below = put_below t' b' h g k s a.M o a.below }

abbrev pub counting_ranged : {c n k time : ℕ} {m : List ℕ} → CanBegin c n k time m → Ranged c n t_counted max_number m
counting_ranged a = record { M = a.M; eq = a.eq; fits = a.fits; below = a.below }

-- t: the switch is counted
module _ {c n k time : ℕ} {m m' : List ℕ} (h : k < c) (a : CanBegin c n k time m) (t : Staged c n k m m' false (λ (s : State). on_cpu count_switch s)) where
  abbrev start : Ranged c n t_counted max_number m
  start = counting_ranged a

  abbrev counted : State
  counted = on_cpu count_switch (state_of k a.M)

  pub counted_ranged : Ranged c n t_counted max_number m'
  counted_ranged = ranged_at t_counted max_number (omega arith) (omega arith) h t start a.counted

  counted_fits : CpuFits n counted.cpu
  counted_fits =
      let o = a.fits.cpu k h
      in record {
        current = o.current;
        sched = o.sched;
        idle = o.idle;
        queue = o.queue;
        timers = o.timers;
        local = o.local;
        ipi = o.ipi;
        entry = o.entry;
        timer = o.timer;
        local_name = o.local_name;
        ipi_name = o.ipi_name;
        keys_rise = o.keys_rise;
        timers_rise = o.timers_rise;
        remainder = o.remainder;
      }

  served_below : StateBelow n t_counted b_woken (serve_wakeups time counted)
  served_below = serve_wakeups_below time counted counted_fits a.counted

  served_time : elapsed time (serve_wakeups time counted).cpu ≤ max_elapsed
  served_time = subst (λ (x : Turn). x.spent.elapsed ≤ max_elapsed) (sym (turn_kept time counted)) a.in_time

  module _ {m'' : List ℕ} where
    pub begun_full : {r : Turn} → Staged c n k m' m'' true (λ (s : State). serve_wakeups time s)
        → Stage c n k m m'' true r (λ (s : State). before_selection time s) (λ (s : State). turn_of time s.cpu)
    unfolding before_selection
    begun_full {r} u =
        let z : Stage c n k m m'' true r (λ (s : State). on_cpu (times time) (serve_wakeups time (on_cpu count_switch s))) (λ (s : State). turn_of time (serve_wakeups time (on_cpu count_switch s)).cpu) = stage_full (λ (s : State). on_cpu (times time) s) (λ (s : State). turn_of time s.cpu) (stage_then h t u) (λ s y. y)
        in stage_as z (λ M e o. (refl, λ y w. never y))

    -- u: wake-ups are served
    module _ (u : Staged c n k m' m'' false (λ (s : State). serve_wakeups time s)) where
      pub served_ranged : Ranged c n t_counted b_woken m''
      served_ranged = ranged_at t_counted b_woken (omega arith) (omega arith) h (stage_then h t u) start served_below

      pub served_in_time : InTime c n k time m''
      served_in_time =
          let z = stage_then h t u
          in let y = z.stage a.M a.eq a.fits
          in let l : k < length a.M.cpus = omega (arith, a.fits.cpus)
          in let w : state_of k (put_state k (serve_wakeups time counted) a.M) ≡ serve_wakeups time counted = state_put k (serve_wakeups time counted) a.M l (sym y.room)
          in record {
            M = put_state k (serve_wakeups time counted) a.M;
            eq = y.after refl;
            fits = y.fits refl;
            in_time = subst (λ (s : State). elapsed time s.cpu ≤ max_elapsed) (sym w) served_time;
          }

      -- v: times are kept
      module _ {m''' : List ℕ} {r : Turn} (v : Stage c n k m'' m''' false r (λ (s : State). on_cpu (times time) s) (λ (s : State). turn_of time s.cpu)) where
        pub begun : Stage c n k m m''' false r (λ (s : State). before_selection time s) (λ (s : State). turn_of time s.cpu)
        unfolding before_selection
        begun = stage_as (stage_then h (stage_then h t u) v) (λ M e o. (refl, λ z y. y ∙ turn_kept time (on_cpu count_switch (state_of k M))))

        pub begun_ticks : r.spent.ticks ≤ max_ticks
        begun_ticks =
            subst (λ (x : Turn). x.spent.ticks ≤ max_ticks) (sym ((begun.stage a.M a.eq a.fits).answer refl))
            (ticks_high (elapsed time (cpu_at a.M k)) (cpu_at a.M k).remainder a.in_time (a.fits.cpu k h).remainder)

        pub begun_ranged : time ≤ max_number → Ranged c n t_timed b_woken m'''
        unfolding before_selection
        begun_ranged l =
            ranged_at t_timed b_woken (omega arith) (omega arith) h begun start
            (times_below time (serve_wakeups time counted) (omega arith) served_time served_below)
