-- A context that wakes here has an entry when the choice begins.
use mathlib.Core.Path.{◌≡◌, refl, subst, sym, ap, ◌∙◌}
use mathlib.Core.Bool.{true, not, ◌&&◌}
use mathlib.Core.List.{map}
use mathlib.Core.Logic.{inr, ◌≢◌}
use Prim.Native.Nat.{ℕ}
use native.Mathlib.Omega.{arith}
use lib.Dec.{eqb}
use borrow.Author.Tests.{eqb-false, eq-eqb, ne_eqb, le-leb}
use Rattle.columns.specs.Common.{keep}
use Rattle.context.specs.Status.{is_runnable, is_soft_blocked}
use Rattle.entries.specs.declared.Entry.{Entry}
use Rattle.entries.specs.declared.Timer.{Timer}
use Rattle.ticks.specs.declared.Spent.{Spent}
use Rattle.machine.specs.Machine.{Machine, cpu_at}
use Rattle.model.specs.State.{State, on_cpu, state_of, holder, is_idle}
use Rattle.model.specs.Wakeup.{Wakeup, can_read, waits_for, is_live_timer, timer_wakeup, local_wakeup, wakeups, drained, woken_by, serve_wakeups}
use Rattle.model.specs.Turn.{count_switch, times, holder_stopped, charge_holder, before_selection, before_choice}
use Rattle.model.specs.Tidy.{Sound, Tidy, Live, context}
use Rattle.model.specs.Accepted.{Served, ServesOwn}
use Rattle.model.specs.Demand3.{Wakes, by_name, by_timer, WakesHere, judged}
use Rattle.model.proofs.Cases.{by_test, pick, and_true}
use Rattle.model.proofs.Lists.{In, keep_in, map_in, in_left, in_right}
use Rattle.model.proofs.Queues.{on, Has}
use Rattle.model.proofs.Before.{queues, is_queued}
use Rattle.model.proofs.WakeupCases.{every_wakeup}
use Rattle.model.proofs.Woken.{wakeups_named, start_waking}
use Rattle.model.proofs.WokenAll.{Able, all_served}
use Rattle.entries.specs.Order.{is_due}

keeps_queue : (n : Spent) (s : State) → (charge_holder n s).cpu.queue ≡ s.cpu.queue
unfolding charge_holder holder_stopped
keeps_queue n s =
    pick (λ (z : State). z.cpu.queue ≡ s.cpu.queue) (is_idle s) (λ t. refl)
    (λ t. pick (λ (z : State). z.cpu.queue ≡ s.cpu.queue) (is_runnable (holder s).status) (λ r. refl)
    (λ r. pick (λ (z : State). z.cpu.queue ≡ s.cpu.queue) (holder s).has_wake (λ w. refl) (λ w. refl)))

before_queue : (time : ℕ) (s : State) → (before_choice time s).cpu.queue ≡ (serve_wakeups time (on_cpu count_switch s)).cpu.queue
unfolding before_choice before_selection times
before_queue time s = keeps_queue _ _

module _ (k time : ℕ) (M : Machine) (S : Sound M) (T : Tidy M) (own : ServesOwn k time M) where
  abbrev s₀ : State
  s₀ = on_cpu count_switch (state_of k M)

  pub woken_entry : (x : ℕ) → WakesHere k time M x → (e : Entry) × In e (judged k time M).cpu.queue × (e.context_ref ≡ x)
  unfolding wakeups
  woken_entry x a = go a.wakes
    where
      able : Able (cpu_at M k) x (context M x)
      able =
          record {
            live = a.live;
            unlocked = a.unlocked;
            not_in_charge = a.not_in_charge;
            not_scheduled = a.not_scheduled;
            userspace = a.userspace;
            not_running = a.not_running;
          }

      served : (w : Wakeup) → w.context_ref ≡ x → is_runnable (woken_by w.wake (context M x)).status ≡ true → In w (wakeups time s₀)
          → (e : Entry) × In e (judged k time M).cpu.queue × (e.context_ref ≡ x)
      served w z r i =
          found (subst (λ (s : State). Has x (on k s.cpu.queue (queues M))) (sym (every_wakeup time s₀))
          (all_served k time M S T own x able w z r (wakeups time s₀) (wakeups_named k time M S T) i (drained time s₀) (start_waking k time M S T own) (inr refl)))
        where
          is_served : Served k time M x
          is_served =
              subst (λ y. Live M y → (context M y).lock ≡ 0 → y ≢ (cpu_at M k).block.sched_ctxt → Served k time M y) z
              (wakeups_named k time M S T w i).served a.live a.unlocked a.not_in_charge

          found : Has x (on k (serve_wakeups time s₀).cpu.queue (queues M)) → (e : Entry) × In e (judged k time M).cpu.queue × (e.context_ref ≡ x)
          found (e, j, g, m) =
              by_test (eqb j k) (λ t. (e, subst (λ q. In e q) (sym (before_queue time (state_of k M))) (rw t at g), m))
              (λ t. absurd (own x is_served e j (is_queued M S e j (rw t at g)) (eqb-false j k t) m))

      in_timers : (t : Timer) → In t (cpu_at M k).timers → is_due time t ≡ true → is_live_timer s₀ t ≡ true → In (timer_wakeup t) (wakeups time s₀)
      in_timers t i d l =
          in_left (map timer_wakeup (keep (is_live_timer s₀) (keep (is_due time) (cpu_at M k).timers))) _ (timer_wakeup t)
          (map_in timer_wakeup (keep (is_live_timer s₀) (keep (is_due time) (cpu_at M k).timers)) t
          (keep_in (is_live_timer s₀) (keep (is_due time) (cpu_at M k).timers) t (keep_in (is_due time) (cpu_at M k).timers t i d) l))

      in_names : In x (cpu_at M k).local_wakeup_list → In (local_wakeup x) (wakeups time s₀)
      in_names i =
          in_right (map timer_wakeup (keep (is_live_timer s₀) (keep (is_due time) (cpu_at M k).timers))) _ (local_wakeup x)
          (map_in local_wakeup (cpu_at M k).local_wakeup_list x i)

      go : Wakes k time M x → (e : Entry) × In e (judged k time M).cpu.queue × (e.context_ref ≡ x)
      go (by_name i r) = served (local_wakeup x) refl r (in_names i)
      go (by_timer t i z d b h w) =
          served (timer_wakeup t) z (rw waits) (in_timers t i (le-leb _ _ d) live)
        where
          waits : waits_for t.wake (context M x) ≡ true
          waits = and_true (is_soft_blocked (context M x).status && (context M x).has_wake) _ (and_true _ _ b h) (eq-eqb _ _ w)

          live : is_live_timer s₀ t ≡ true
          live =
              and_true (can_read s₀ t.context_ref) _
              (and_true (not (context M t.context_ref).gone && not (eqb (context M t.context_ref).lock 2)) _
              (and_true (not (context M t.context_ref).gone) _ (ap not (ap (λ y. (context M y).gone) z ∙ a.live))
              (ap not (ne_eqb _ _ (λ q. let y : ◌≡◌ {A = ℕ} 0 2 = sym (ap (λ y. (context M y).lock) z ∙ a.unlocked) ∙ q in omega arith))))
              (ap not (ne_eqb _ _ (λ q. a.not_in_charge (sym z ∙ q)))))
              (subst (λ y. waits_for t.wake (context M y) ≡ true) (sym z) waits)
