-- What a wake-up asks of a state it leaves behind, with a weight more; and a mark that was set stays. Assumes nothing.
use Rattle.std.specs.Prelude.{None, Option, Some}
use mathlib.Core.Path.{◌≡◌, sym, subst}
use mathlib.Core.Bool.{true, ◌&&◌}
use mathlib.Core.List.{List}
use Prim.Native.Nat.{ℕ, ◌+◌, ◌<◌}
use native.Mathlib.Omega.{arith}
use Rattle.columns.specs.Common.{fold}
use Rattle.columns.proofs.Tests.{by_test}
use Rattle.context.specs.declared.Context.{Context}
use Rattle.context.specs.Key.{queue_key, entry_of}
use Rattle.weights.specs.Weights.{weight, max_weight}
use Rattle.weights.proofs.Table.{weight_low, weight_high}
use Rattle.entries.specs.declared.Timer.{Timer}
use Rattle.entries.specs.Order.{entry_before, is_due}
use Rattle.entries.specs.Queue.{keyed}
use Rattle.entries.proofs.Ordered.{entries_ordered}
use Rattle.machine.specs.Shape.{ContextFits, EntryFits}
use Rattle.model.specs.State.{State, at, put_context}
use Rattle.model.specs.Wakeup as model
use Rattle.model.specs.Wakeup.{Wakeup, waits_for, woken_by, entering, is_live_timer, timer_wakeup}
use Rattle.model.proofs.Cases.{pick}
use Rattle.model.proofs.Lists.{fold_keeps}
use Rattle.model.proofs.WakeupCases.{wakeup_cases}
use Rattle.plain_model.specs.State.{placed}
use Rattle.plain_model.specs.Wakeup.{put_back, enter, wake_as, serve_wakeup}
use Rattle.plain_model.proofs.Placing.{leave_out_differs}
use Rattle.plain_model.proofs.Woken.{served_placed}
use Rattle.wakeup.specs.Paced.{Slow}
use Rattle.wakeup.proofs.Pacing.{slow_serve, slow_more}
use Rattle.plain_state.specs.Fits.{StateFits}
use Rattle.plain_state.proofs.Fitting.{all_left, context_put, entry_inserted, timer_inserted, name_pushed}
use Rattle.plain_state.proofs.Tracking.{Stays}
use Rattle.plain_wakeup.specs.Wakeups.{timer_step, made_active, Wakeable}

-- the mark
back_stays : (o : Option ℕ) (x : ℕ) → Stays (put_back o x)
back_stays None x S h = rw h
back_stays (Some t) x S h = rw h

pub serve_stays : (w : Wakeup) → Stays (λ (S : State). serve_wakeup S w)
unfolding serve_wakeup wake_as enter
serve_stays w S h =
    wakeup_cases S w (λ r. (wake_as S w r).no_room ≡ true) h (λ a. back_stays w.wake w.context_ref S h) (λ a l e. rw h) (λ a t. h)

pub timer_stays : (B : State) (time : ℕ) (t : Timer) → Stays (λ (S : State). timer_step B time S t)
timer_stays B time t S h = pick (λ (z : State). z.no_room ≡ true) (is_due time t && is_live_timer B t) (λ e. serve_stays (timer_wakeup t) S h) (λ e. h)

pub fold_stays : {A : Type 0} (f : State → A → State) → ((a : A) → Stays (λ (S : State). f S a)) → (l : List A) → Stays (λ (S : State). fold f S l)
fold_stays f g l S h = fold_keeps (λ (z : State). z.no_room ≡ true) f (λ z a e. g a z e) S l h

-- names, ranges and keys
woken_fits : (o : Option ℕ) (c : Context) → ContextFits 4 c → ContextFits 4 (woken_by o c)
woken_fits None c f = f
woken_fits (Some t) c f = by_test (waits_for t c) (λ e. rw e (record { cpu_id = f.cpu_id; prio = f.prio; rem_slice = f.rem_slice })) (λ e. rw e f)

module _ {n : ℕ} (s : State) (f : StateFits n s) where
  active_fits : (c : Context) → StateFits n (made_active c s)
  active_fits c =
      record {
        contexts = f.contexts;
        context = f.context;
        cpu = record {
          current = f.cpu.current;
          sched = f.cpu.sched;
          idle = f.cpu.idle;
          entries = by_test c.has_queue_key (λ t. rw t (all_left (EntryFits n) entry_before (keyed (queue_key c)) s.cpu.queue f.cpu.entries)) (λ t. rw t f.cpu.entries);
          timers = f.cpu.timers;
          local = f.cpu.local;
          ipi = f.cpu.ipi;
          remainder = f.cpu.remainder;
          differ = record {
            queue = by_test c.has_queue_key (λ t. rw t (leave_out_differs entries_ordered (keyed (queue_key c)) s.cpu.queue f.cpu.differ.queue)) (λ t. rw t f.cpu.differ.queue);
            timers = f.cpu.differ.timers;
          };
        };
      }

  enter_fits : (x : ℕ) (c : Context) → x < n → ContextFits 4 c → StateFits n (enter x c s)
  unfolding enter
  enter_fits x c h o =
      let p : c.prio < 40 = omega (arith, o.prio) in
      entry_inserted (put_context x (entering s.cpu.block.v c) (made_active c s))
      (context_put (made_active c s) (active_fits c) x (entering s.cpu.block.v c) (record { cpu_id = o.cpu_id; prio = o.prio; rem_slice = omega arith }))
      (entry_of x (weight c.prio) (entering s.cpu.block.v c)) (record { name = h; light = weight_high c.prio p; heavy = weight_low c.prio p })

  back_fits : (o : Option ℕ) (x : ℕ) → x < n → StateFits n (put_back o x s)
  back_fits None x h = name_pushed s f x h
  back_fits (Some t) x h = timer_inserted s f (record { wake = t; context_ref = x }) h

  pub serve_fits : (w : Wakeup) → w.context_ref < n → StateFits n (serve_wakeup s w)
  unfolding serve_wakeup wake_as
  serve_fits w h =
      let o : ContextFits 4 (woken_by w.wake (at s w.context_ref)) = woken_fits w.wake (at s w.context_ref) (f.context w.context_ref h) in
      wakeup_cases s w (λ r. StateFits n (wake_as s w r)) f (λ a. back_fits w.wake w.context_ref h)
      (λ a l e. enter_fits w.context_ref (woken_by w.wake (at s w.context_ref)) h o)
      (λ a t. context_put s f w.context_ref (woken_by w.wake (at s w.context_ref)) o)

-- and the total weight
module _ {n b : ℕ} (s : State) (a : Wakeable n b s) where
  pub serve_ready : (w : Wakeup) → w.context_ref < n → Wakeable n (b + max_weight) (serve_wakeup s w)
  serve_ready w h =
      let z : Slow n _ (b + max_weight) (model.serve_wakeup (placed s) w) = slow_serve (placed s) w (record { vtime = a.slow.vtime; v = a.slow.v; total_weight = a.slow.total_weight }) h in
      let y : Slow n _ (b + max_weight) (placed (serve_wakeup s w)) = subst (Slow n _ (b + max_weight)) (sym (served_placed w s a.fits.cpu.differ).is) z in
      record { fits = serve_fits s a.fits w h; slow = record { vtime = y.vtime; v = y.v; total_weight = y.total_weight } }

  pub timer_ready : (B : State) (time : ℕ) (t : Timer) → t.context_ref < n → Wakeable n (b + max_weight) (timer_step B time s t)
  timer_ready B time t h =
      pick (Wakeable n (b + max_weight)) (is_due time t && is_live_timer B t) (λ e. serve_ready (timer_wakeup t) h)
      (λ e. record { fits = a.fits; slow = slow_more (b + max_weight) (omega arith) a.slow })
