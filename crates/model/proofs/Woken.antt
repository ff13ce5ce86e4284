-- Serving wake-ups keeps the invariant, and every entry's context queued.
use Rattle.std.specs.Prelude.{None, Option, Some}
use mathlib.Core.Path.{◌≡◌, refl, subst, sym, ap, ◌∙◌}
use mathlib.Core.Bool.{true, false}
use mathlib.Core.List.{map}
use mathlib.Core.Logic.{◌⊎◌, inl, inr, ◌≢◌}
use Prim.Native.Nat.{ℕ, ◌<◌}
use native.Mathlib.Omega.{arith}
use lib.Dec.{eqb}
use lib.ListN.{length}
use borrow.Author.Tests.{eqb-true, eqb-false, leb-true}
use Rattle.columns.specs.Common.{keep}
use Rattle.context.specs.declared.Context.{Context}
use Rattle.weights.specs.Weights.{weight}
use Rattle.entries.specs.declared.Entry.{Entry}
use Rattle.entries.specs.Queue.{queue_insert}
use Rattle.machine.specs.Machine.{Machine, context_at, cpu_at}
use Rattle.model.specs.State.{State, at, on_cpu, state_of}
use Rattle.model.specs.Wakeup.{Wakeup, is_live_timer, timer_wakeup, local_wakeup, wakeups, drained, put_back, without_old_key, entering, enter, woken_only, wake_as, serve_wakeup, serve_wakeups}
use Rattle.model.specs.Turn.{count_switch}
use Rattle.model.specs.Tidy.{Sound, Tidy, Live}
use Rattle.model.specs.Accepted.{Served, by_timer, by_name, ServesOwn}
use Rattle.model.proofs.Cases.{by_test, never}
use Rattle.model.proofs.Lists.{In, fold_keeps_in, in_map, in_append, in_keep}
use Rattle.model.proofs.Queues.{Fixed, fixed, on, Has, inv_same, gone_of}
use Rattle.model.proofs.Before.{Roles, roles, queues, Free, Kept, is_queued, start_kept}
use Rattle.model.proofs.Entering.{Unkeyed, unkeyed, Entered, re_entered}
use Rattle.model.proofs.WakeupCases.{woken_run, woken_fixed, every_wakeup, asked, woke, Asked, wakeup_cases, Enters, enters}
use Rattle.context.specs.Key.{entry_of}
use Rattle.entries.specs.Order.{is_due}

module _ (k time : ℕ) (M : Machine) (S : Sound M) (T : Tidy M) where
  -- the state before the choice, all along
  pub record Waking (s : State) : Type 0 where
    pub kept : Kept M k s
    pub roles_kept : roles s.cpu ≡ roles (cpu_at M k)
    pub v : s.cpu.block.v ≡ (cpu_at M k).block.v
    pub has : (y : ℕ) → Has y (queues M) → Has y (on k s.cpu.queue (queues M))

  -- a wake-up names a context, and is served if that can be locked
  pub record Named (w : Wakeup) : Type 0 where
    pub range : w.context_ref < length M.contexts
    pub served : Live M w.context_ref → (context_at M.contexts w.context_ref).lock ≡ 0
        → w.context_ref ≢ (cpu_at M k).block.sched_ctxt → Served k time M w.context_ref

  pub wakeups_named : (w : Wakeup) → In w (wakeups time (on_cpu count_switch (state_of k M))) → Named w
  unfolding wakeups
  wakeups_named w i = go (in_append (map timer_wakeup (keep (is_live_timer s) (keep (is_due time) (cpu_at M k).timers))) _ w i)
    where
      s : State
      s = on_cpu count_switch (state_of k M)

      go : In w (map timer_wakeup (keep (is_live_timer s) (keep (is_due time) (cpu_at M k).timers))) ⊎ In w (map local_wakeup (cpu_at M k).local_wakeup_list)
          → Named w
      go (inl h) =
          let (t, j, e) = in_map timer_wakeup (keep (is_live_timer s) (keep (is_due time) (cpu_at M k).timers)) w h in
          let (j₁, l) = in_keep (is_live_timer s) (keep (is_due time) (cpu_at M k).timers) t j in
          let (j₂, d) = in_keep (is_due time) (cpu_at M k).timers t j₁ in
          let m : w.context_ref ≡ t.context_ref = ap (λ (u : Wakeup). u.context_ref) e in
          record {
            range = rw m (S.timer_is t k j₂);
            served = λ g o n. by_timer t j₂ (leb-true _ _ d) (sym m) g (λ z. let y : ◌≡◌ {A = ℕ} 0 2 = sym o ∙ z in omega arith) n;
          }
      go (inr h) =
          let (x, j, e) = in_map local_wakeup (cpu_at M k).local_wakeup_list w h in
          let m : w.context_ref ≡ x = ap (λ (u : Wakeup). u.context_ref) e in
          record { range = rw m (S.name_is x k j); served = λ g o n. by_name (rw m j) o }

  pub put_back_waking : (o : Option ℕ) (x : ℕ) (s : State) → Waking s → Waking (put_back o x s)
  put_back_waking None x s n = record { kept = n.kept; roles_kept = n.roles_kept; v = n.v; has = n.has }
  put_back_waking (Some t) x s n = record { kept = n.kept; roles_kept = n.roles_kept; v = n.v; has = n.has }

  -- no in-charge and no idle context enters
  pub enters_free : (s : State) (x : ℕ) (c : Context) → Waking s → fixed c ≡ fixed (at s x) → Enters c → Free M x
  enters_free s x c n f e =
      record {
        not_in_charge = λ j p m.
            never (subst (λ y. (context_at M.contexts y).currently_scheduled ≡ true) (sym m) (T.scheduled_if j p))
            (sym (ap (λ (z : Fixed). z.currently_scheduled) (f ∙ n.kept.same x)) ∙ e.not_scheduled);
        not_idle = λ j p m.
            never (sym (ap (λ (z : Fixed). z.userspace) (f ∙ n.kept.same x)) ∙ e.userspace)
            (subst (λ y. (context_at M.contexts y).userspace ≡ false) (sym m) (T.idle_not_userspace j p));
      }

  module _ (own : ServesOwn k time M) where
    -- an entry of a context whose wake-up is served stands here
    pub here_only : (s : State) (w : Wakeup) → Waking s → Named w → Asked s w → eqb (asked s w).lock 0 ≡ true
        → (d : Entry) (i : ℕ) → In d (on k s.cpu.queue (queues M) i) → d.context_ref ≡ w.context_ref → i ≡ k
    here_only s w n m a l d i h z =
        by_test (eqb i k) (λ t. eqb-true i k t)
        (λ t. absurd (own w.context_ref
        (m.served (sym (gone_of (n.kept.same w.context_ref)) ∙ a.live)
        (sym (ap (λ (y : Fixed). y.lock) (n.kept.same w.context_ref)) ∙ eqb-true _ _ l)
        (λ y. eqb-false w.context_ref s.cpu.block.sched_ctxt a.other (y ∙ sym (ap (λ (r : Roles). r.sched) n.roles_kept))))
        d i (is_queued M S d i (rw t at h)) (eqb-false i k t) z))

    -- a context that enters is out of the queue once its old key is
    pub enter_unkeyed : (s : State) (w : Wakeup) → Waking s → Named w → Asked s w → eqb (asked s w).lock 0 ≡ true
        → Unkeyed (Free M) M.contexts s.contexts k s.cpu.queue (queues M) w.context_ref (woke s w) (without_old_key (woke s w) s.cpu.queue)
    enter_unkeyed s w n m a l =
        unkeyed (Free M) M.contexts s.contexts k s.cpu.queue (queues M) w.context_ref (woke s w) n.kept a.live
        (woken_run w.wake (asked s w)) (woken_fixed w.wake (asked s w)) (rw n.kept.count m.range) (here_only s w n m a l)

    -- a context that enters has its entry here, and all others keep theirs
    pub enter_entered : (s : State) (w : Wakeup) → Waking s → Named w → Asked s w → eqb (asked s w).lock 0 ≡ true → Enters (woke s w)
        → Entered (Free M) M.contexts s.contexts k s.cpu.queue (queues M) w.context_ref (entering s.cpu.block.v (woke s w))
        (queue_insert (entry_of w.context_ref (weight (woke s w).prio) (entering s.cpu.block.v (woke s w))) (without_old_key (woke s w) s.cpu.queue))
    enter_entered s w n m a l e =
        re_entered (Free M) M.contexts s.contexts k s.cpu.queue (queues M) w.context_ref (woke s w) (entering s.cpu.block.v (woke s w))
        (without_old_key (woke s w) s.cpu.queue) _ (enter_unkeyed s w n m a l) (rw n.kept.count m.range) refl refl refl
        (record { has_key = refl; key_vd = refl; key_rem_slice = refl; key_id = refl; vd = refl; rem_slice = refl; vtime = refl })
        (enters_free s w.context_ref (woke s w) n (woken_fixed w.wake (asked s w)) e)

    enter_waking : (s : State) (w : Wakeup) → Waking s → Named w → Asked s w → eqb (asked s w).lock 0 ≡ true → Enters (woke s w)
        → Waking (enter w.context_ref (woke s w) s)
    unfolding enter
    enter_waking s w n m a l e =
        let b = enter_entered s w n m a l e in
        record { kept = b.inv; roles_kept = n.roles_kept; v = n.v; has = λ y h. b.has y (n.has y h) }

    pub woken_waking : (s : State) (w : Wakeup) → Waking s → Waking (wake_as s w (woken_only (woke s w)))
    unfolding wake_as
    woken_waking s w n =
        record {
          kept = inv_same (Free M) M.contexts s.contexts _ w.context_ref (woke s w) (woken_run w.wake (asked s w)) (woken_fixed w.wake (asked s w)) n.kept;
          roles_kept = n.roles_kept;
          v = n.v;
          has = n.has;
        }

    pub serve_waking : (s : State) (w : Wakeup) → Named w → Waking s → Waking (serve_wakeup s w)
    unfolding serve_wakeup wake_as
    serve_waking s w m n =
        wakeup_cases s w (λ r. Waking (wake_as s w r)) n (λ a. put_back_waking w.wake w.context_ref s n)
        (λ a l e. enter_waking s w n m a l (enters s.cpu w.context_ref (woke s w) e)) (λ a t. woken_waking s w n)

    pub start_waking : Waking (drained time (on_cpu count_switch (state_of k M)))
    start_waking =
        record {
          kept = start_kept M S T k;
          roles_kept = refl;
          v = refl;
          has = λ y (e, i, h, p). (e, i, by_test (eqb i k) (λ t. rw t (subst (λ j. In e (queues M j)) (eqb-true i k t) h)) (λ t. rw t h), p);
        }

    pub wakeups_waking : Waking (serve_wakeups time (on_cpu count_switch (state_of k M)))
    wakeups_waking =
        subst Waking (sym (every_wakeup time (on_cpu count_switch (state_of k M))))
        (fold_keeps_in Waking serve_wakeup (wakeups time (on_cpu count_switch (state_of k M))) (λ s w i n. serve_waking s w (wakeups_named w i) n)
        (drained time (on_cpu count_switch (state_of k M))) start_waking)
