-- Serving wake-ups keeps the stored total equal to the weight added up.
use Rattle.std.specs.Prelude.{None, Option, Some}
use mathlib.Core.Path.{refl, subst, sym, ap, ◌∙◌}
use Prim.Native.Nat.{ℕ}
use lib.Seq.{get_or-set_other}
use borrow.Author.Tests.{eqb-false}
use Rattle.context.specs.declared.Context.{Context}
use Rattle.machine.specs.Machine.{Machine, no_context}
use Rattle.model.specs.State.{State, on_cpu, state_of}
use Rattle.model.specs.Wakeup.{Wakeup, wakeups, drained, put_back, woken_only, wake_as, serve_wakeup, serve_wakeups}
use Rattle.model.specs.Turn.{count_switch}
use Rattle.model.specs.Tidy.{Sound, Tidy, Present}
use Rattle.model.specs.Accepted.{ServesOwn}
use Rattle.model.proofs.Lists.{fold_keeps_in}
use Rattle.model.proofs.Queues.{set_view}
use Rattle.model.proofs.CpuQueues.{on_own}
use Rattle.model.proofs.Before.{Roles, queues}
use Rattle.model.proofs.WakeupCases.{every_wakeup, asked, woke, Asked, wakeup_cases, enters}
use Rattle.model.proofs.Woken.{Named, wakeups_named, put_back_waking, woken_waking, start_waking}
use Rattle.model_weights.specs.Weighed.{Weighed, Agree}
use Rattle.model_weights.proofs.Sums.{total_is}
use Rattle.model_weights.proofs.Weighing.{same_marks, same_queues}
use Rattle.model_weights.proofs.StartWeights.{Placed, Charged, start_weights}
use Rattle.model_weights.proofs.EnteredWeights.{woken_active, now, holder_number, Wakes, enter_wakes}

module _ (k time : ℕ) (M : Machine) (S : Sound M) (T : Tidy M) (P : Present M k) (own : ServesOwn k time M) (W : Weighed M) (A : Agree M) where
  -- one whose record alone changes
  woken_wakes : (s : State) (w : Wakeup) → Wakes k time M S T P own W A s → Named k time M S T w → Asked s w → Wakes k time M S T P own W A (wake_as s w (woken_only (woke s w)))
  unfolding wake_as
  woken_wakes s w n m a =
      record {
        waking = woken_waking k time M S T own s w n.waking;
        weights = same_marks M.contexts (Placed M) (Charged M) s.contexts _ (now k time M S T P own W A s)
            (set_view (λ (b : Context). b.is_active) s.contexts w.context_ref (woke s w) (woken_active w.wake (asked s w))) n.weights;
        holder_is = get_or-set_other s.contexts w.context_ref (holder_number k time M S T P own W A) (woke s w) no_context
            (λ z. eqb-false _ _ a.other (sym z ∙ sym (ap (λ (y : Roles). y.sched) n.waking.roles_kept))) ∙ n.holder_is;
        total = n.total;
      }

  put_back_wakes : (o : Option ℕ) (x : ℕ) (s : State) → Wakes k time M S T P own W A s → Wakes k time M S T P own W A (put_back o x s)
  put_back_wakes None x s n = record { waking = put_back_waking k time M S T None x s n.waking; weights = n.weights; holder_is = n.holder_is; total = n.total }
  put_back_wakes (Some t) x s n = record { waking = put_back_waking k time M S T (Some t) x s n.waking; weights = n.weights; holder_is = n.holder_is; total = n.total }

  serve_wakes : (s : State) (w : Wakeup) → Named k time M S T w → Wakes k time M S T P own W A s → Wakes k time M S T P own W A (serve_wakeup s w)
  unfolding serve_wakeup wake_as
  serve_wakes s w m n =
      wakeup_cases s w (λ r. Wakes k time M S T P own W A (wake_as s w r)) n (λ a. put_back_wakes w.wake w.context_ref s n)
      (λ a l e. enter_wakes k time M S T P own W A s w n m a l (enters s.cpu w.context_ref (woke s w) e)) (λ a t. woken_wakes s w n m a)

  abbrev start : State
  start = on_cpu count_switch (state_of k M)

  start_wakes : Wakes k time M S T P own W A (drained time start)
  start_wakes =
      record {
        waking = start_waking k time M S T own;
        weights = same_queues M.contexts (Placed M) (Charged M) M.contexts (queues M) _ (on_own k (queues M)) (start_weights M S W);
        holder_is = refl;
        total = A k P ∙ total_is M k;
      }

  pub wakeups_wake : Wakes k time M S T P own W A (serve_wakeups time start)
  wakeups_wake =
      subst (Wakes k time M S T P own W A) (sym (every_wakeup time start))
      (fold_keeps_in (Wakes k time M S T P own W A) serve_wakeup (wakeups time start) (λ s w i n. serve_wakes s w (wakeups_named k time M S T w i) n) (drained time start) start_wakes)
