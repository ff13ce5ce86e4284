-- Every wake-up that can enter the queue does, whatever else is served.
use Rattle.std.specs.Prelude.{None, Option, Some}
use mathlib.Core.Path.{◌≡◌, refl, subst, sym, ap, ◌∙◌}
use mathlib.Core.Bool.{true, false, not, ◌&&◌, ◌||◌}
use mathlib.Core.List.{List, [], ◌∷◌}
use mathlib.Core.Logic.{◌⊎◌, inl, inr, ◌≢◌}
use Prim.Native.Nat.{ℕ, ◌<◌}
use lib.Dec.{eqb}
use lib.ListN.{length, set}
use lib.Seq.{get_or-set_same, get_or-set_other}
use borrow.Author.Tests.{eqb-true, eqb-false, eq-eqb, ne_eqb}
use Rattle.columns.specs.Common.{fold}
use Rattle.context.specs.declared.Context.{Context}
use Rattle.context.specs.Status.{is_runnable}
use Rattle.entries.specs.declared.Entry.{Entry}
use Rattle.percpu.specs.Cpu.{Cpu}
use Rattle.machine.specs.Machine.{Machine, context_at, no_context, cpu_at}
use Rattle.model.specs.State.{State, at}
use Rattle.model.specs.Wakeup.{
  Wakeup,
  waits_for,
  put_back,
  woken_by,
  may_enter,
  entering,
  enter,
  WakeupResult,
  woken_only,
  entered,
  wakeup_result,
  wake_as,
  serve_wakeup,
}
use Rattle.model.specs.Tidy.{Sound, Tidy, context}
use Rattle.model.specs.Accepted.{ServesOwn}
use Rattle.model.proofs.Cases.{by_test, never, pick, and_true, not_is_true, not_is_false}
use Rattle.model.proofs.Lists.{In}
use Rattle.model.proofs.Queues.{on, Has}
use Rattle.model.proofs.Before.{Roles, queues}
use Rattle.model.proofs.WakeupCases.{asked, woke, Asked, wakeup_cases, enters}
use Rattle.model.proofs.Woken.{Waking, Named, serve_waking, enter_entered}

-- what a context needs to enter, once it is runnable
pub record Able (p : Cpu) (x : ℕ) (c : Context) : Type 0 where
  pub live : c.gone ≡ false
  pub unlocked : c.lock ≡ 0
  pub not_in_charge : x ≢ p.block.sched_ctxt
  pub not_scheduled : c.currently_scheduled ≡ false
  pub userspace : c.userspace ≡ true
  pub not_running : (c.running ≡ false) ⊎ (x ≡ p.block.current_ctxt)

may_enter_now : (p : Cpu) (x : ℕ) (c d : Context) → Able p x c → d.currently_scheduled ≡ c.currently_scheduled → d.userspace ≡ c.userspace
    → d.running ≡ c.running → is_runnable d.status ≡ true → may_enter p x d ≡ true
may_enter_now p x c d a s u r t =
    and_true (is_runnable d.status && not d.currently_scheduled && d.userspace) _
    (and_true (is_runnable d.status && not d.currently_scheduled) d.userspace
    (and_true (is_runnable d.status) (not d.currently_scheduled) t (ap not (s ∙ a.not_scheduled))) (u ∙ a.userspace)) (go a.not_running)
  where
    go : (c.running ≡ false) ⊎ (x ≡ p.block.current_ctxt)
        → (not d.running || eqb x p.block.current_ctxt && not (eqb x p.block.sched_ctxt)) ≡ true
    go (inl z) = ap (λ b. not b || eqb x p.block.current_ctxt && not (eqb x p.block.sched_ctxt)) (r ∙ z)
    go (inr z) = by_test (not d.running) (λ q. rw q) (λ q. rw (q, eq-eqb x p.block.current_ctxt z, ne_eqb x p.block.sched_ctxt a.not_in_charge))

module _ (k time : ℕ) (M : Machine) (S : Sound M) (T : Tidy M) (own : ServesOwn k time M) (x : ℕ) (able : Able (cpu_at M k) x (context M x)) where
  abbrev pub now : State → ℕ → List Entry
  now s = on k s.cpu.queue (queues M)

  put_back_has : (o : Option ℕ) (z : ℕ) (s : State) (y : ℕ) → Has y (now s) → Has y (now (put_back o z s))
  put_back_has None z s y h = h
  put_back_has (Some t) z s y h = h

  -- once queued, queued to the end
  serve_has : (s : State) (w : Wakeup) → Named k time M S T w → Waking k time M S T s → Has x (now s) → Has x (now (serve_wakeup s w))
  unfolding serve_wakeup wake_as enter
  serve_has s w m n h =
      wakeup_cases s w (λ r. Has x (now (wake_as s w r))) h (λ a. put_back_has w.wake w.context_ref s x h)
      (λ a l e. (enter_entered k time M S T own s w n m a l (enters s.cpu w.context_ref (woke s w) e)).has x h) (λ a t. h)

  put_back_at : (o : Option ℕ) (z : ℕ) (s : State) (y : ℕ) → at (put_back o z s) y ≡ at s y
  put_back_at None z s y = refl
  put_back_at (Some t) z s y = refl

  -- a wake-up of another context leaves x's record alone
  serve_other : (s : State) (w : Wakeup) → w.context_ref ≢ x → at (serve_wakeup s w) x ≡ at s x
  unfolding serve_wakeup wake_as enter
  serve_other s w m =
      wakeup_cases s w (λ r. at (wake_as s w r) x ≡ at s x) refl (λ a. put_back_at w.wake w.context_ref s x)
      (λ a l e. get_or-set_other s.contexts w.context_ref x (entering s.cpu.block.v (woke s w)) no_context (λ z. m (sym z)))
      (λ a t. get_or-set_other s.contexts w.context_ref x (woke s w) no_context (λ z. m (sym z)))

  -- what x's record and the CPU say in a state where x is as it was
  able_now : (s : State) → Waking k time M S T s → at s x ≡ context M x → Able s.cpu x (at s x)
  able_now s n p =
      subst (λ c. Able s.cpu x c) (sym p)
      (record {
        live = able.live;
        unlocked = able.unlocked;
        not_in_charge = λ z. able.not_in_charge (z ∙ ap (λ (q : Roles). q.sched) n.roles_kept);
        not_scheduled = able.not_scheduled;
        userspace = able.userspace;
        not_running = go able.not_running;
      })
    where
      go : ((context M x).running ≡ false) ⊎ (x ≡ (cpu_at M k).block.current_ctxt) → ((context M x).running ≡ false) ⊎ (x ≡ s.cpu.block.current_ctxt)
      go (inl z) = inl z
      go (inr z) = inr (z ∙ sym (ap (λ (q : Roles). q.current) n.roles_kept))

  -- a wake-up of x: x enters, or its record stays as it was because it is not woken
  module _ (s : State) (w : Wakeup) (m : Named k time M S T w) (n : Waking k time M S T s) (z : w.context_ref ≡ x) (p : at s x ≡ context M x) where
    ab : Able s.cpu w.context_ref (asked s w)
    ab = subst (λ y. Able s.cpu y (at s y)) (sym z) (able_now s n p)

    same_marks : (o : Option ℕ) (c : Context)
        → ((woken_by o c).currently_scheduled ≡ c.currently_scheduled) × ((woken_by o c).userspace ≡ c.userspace) × ((woken_by o c).running ≡ c.running)
    same_marks None c = (refl, refl, refl)
    same_marks (Some t) c =
        pick (λ (d : Context). (d.currently_scheduled ≡ c.currently_scheduled) × (d.userspace ≡ c.userspace) × (d.running ≡ c.running)) (waits_for t c)
        (λ q. (refl, refl, refl)) (λ q. (refl, refl, refl))

    enters_if : is_runnable (woke s w).status ≡ true → may_enter s.cpu w.context_ref (woke s w) ≡ true
    enters_if t =
        let (a, b, c) = same_marks w.wake (asked s w) in
        may_enter_now s.cpu w.context_ref (asked s w) (woke s w) ab a b c t

    -- a record that is not woken is the same
    unwoken : (o : Option ℕ) (c : Context) → is_runnable (woken_by o c).status ≡ false → woken_by o c ≡ c
    unwoken None c = λ t. refl
    unwoken (Some q) c =
        pick (λ (d : Context). is_runnable d.status ≡ false → d ≡ c) (waits_for q c) (λ e t. never refl t) (λ e t. refl)

    result : (P : WakeupResult → Type 0) → (Asked s w → eqb (asked s w).lock 0 ≡ true → may_enter s.cpu w.context_ref (woke s w) ≡ true → P (entered (woke s w)))
        → (may_enter s.cpu w.context_ref (woke s w) ≡ false → P (woken_only (woke s w))) → P (wakeup_result s w)
    unfolding wakeup_result
    result P e o =
        pick P (eqb w.context_ref s.cpu.block.sched_ctxt) (λ t. absurd (ab.not_in_charge (eqb-true _ _ t)))
        (λ f. pick P (asked s w).gone (λ t. never t ab.live)
        (λ g. pick P (not (eqb (asked s w).lock 0)) (λ t. never (eq-eqb _ _ ab.unlocked) (not_is_true _ t))
        (λ u. pick P (may_enter s.cpu w.context_ref (woke s w)) (λ t. e (record { other = f; live = g }) (not_is_false _ u) t) (λ t. o t))))

    serve_own : Has x (now (serve_wakeup s w)) ⊎ (at (serve_wakeup s w) x ≡ context M x)
    unfolding serve_wakeup wake_as enter
    serve_own =
        result (λ r. Has x (now (wake_as s w r)) ⊎ (at (wake_as s w r) x ≡ context M x))
        (λ a l e. inl (subst (λ y. Has y (now (enter w.context_ref (woke s w) s))) z
        (enter_entered k time M S T own s w n m a l (enters s.cpu w.context_ref (woke s w) e)).new))
        (λ t. inr (still t))
      where
        still : may_enter s.cpu w.context_ref (woke s w) ≡ false → context_at (set s.contexts w.context_ref (woke s w)) x ≡ context M x
        still t =
            ap (λ y. context_at (set s.contexts y (woke s w)) x) z
            ∙ get_or-set_same s.contexts x (woke s w) no_context (subst (λ y. y < length s.contexts) z (rw n.kept.count m.range))
            ∙ unwoken w.wake (asked s w) (by_test (is_runnable (woke s w).status) (λ q. never (enters_if q) t) (λ q. q))
            ∙ ap (λ y. at s y) z ∙ p

    serve_woken : is_runnable (woken_by w.wake (context M x)).status ≡ true → Has x (now (serve_wakeup s w))
    unfolding serve_wakeup wake_as enter
    serve_woken r =
        result (λ r. Has x (now (wake_as s w r)))
        (λ a l e. subst (λ y. Has y (now (enter w.context_ref (woke s w) s))) z
        (enter_entered k time M S T own s w n m a l (enters s.cpu w.context_ref (woke s w) e)).new)
        (λ t. never (enters_if (subst (λ c. is_runnable (woken_by w.wake c).status ≡ true) (sym (ap (λ y. at s y) z ∙ p)) r)) t)

  -- once queued, queued after the others are served
  stays_served : (ws : List Wakeup) → ((v : Wakeup) → In v ws → Named k time M S T v) → (s : State) → Waking k time M S T s → Has x (now s) → Has x (now (fold serve_wakeup s ws))
  stays_served [] m s n h = h
  stays_served (v ∷ ws) m s n h =
      stays_served ws (λ u i. m u (inr i)) (serve_wakeup s v) (serve_waking k time M S T own s v (m v (inl refl)) n) (serve_has s v (m v (inl refl)) n h)

  -- the wake-up w among others makes x queued
  pub all_served : (w : Wakeup) → w.context_ref ≡ x → is_runnable (woken_by w.wake (context M x)).status ≡ true → (ws : List Wakeup)
      → ((v : Wakeup) → In v ws → Named k time M S T v) → In w ws → (s : State) → Waking k time M S T s → Has x (now s) ⊎ (at s x ≡ context M x) → Has x (now (fold serve_wakeup s ws))
  all_served w z r [] m i s n d = absurd i
  all_served w z r (v ∷ ws) m i s n (inl h) = stays_served (v ∷ ws) m s n h
  all_served w z r (v ∷ ws) m (inl e) s n (inr p) =
      stays_served ws (λ u i. m u (inr i)) (serve_wakeup s v) (serve_waking k time M S T own s v (m v (inl refl)) n)
      (subst (λ u. Has x (now (serve_wakeup s u))) e (serve_woken s w (subst (λ u. Named k time M S T u) (sym e) (m v (inl refl))) n z p r))
  all_served w z r (v ∷ ws) m (inr i) s n (inr p) =
      all_served w z r ws (λ u i. m u (inr i)) i (serve_wakeup s v) (serve_waking k time M S T own s v (m v (inl refl)) n)
      (by_test (eqb v.context_ref x) (λ q. serve_own s v (m v (inl refl)) n (eqb-true _ _ q) p) (λ q. inr (serve_other s v (eqb-false _ _ q) ∙ p)))
