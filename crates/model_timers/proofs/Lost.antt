-- No timer is lost: what a decision removes was due and could be read, or does not stand for its context's wake. Assumes nothing.
use mathlib.Core.Path.{◌≡◌, sym, ap, ◌∙◌, subst}
use mathlib.Core.Bool.{true, false, not, ◌&&◌}
use mathlib.Core.List.{List}
use mathlib.Core.Logic.{◌⊎◌, inl, inr}
use Prim.Native.Nat.{ℕ, ◌<◌}
use lib.Dec.{eqb}
use lib.ListN.{length}
use borrow.Author.Tests.{eqb-true, eqb-false, ne_eqb}
use Rattle.columns.proofs.Tests.{and_no}
use Rattle.context.specs.Status.{is_soft_blocked}
use Rattle.entries.specs.declared.Timer.{Timer}
use Rattle.entries.specs.Order.{sooner, superseded, is_due}
use Rattle.entries.specs.Queue.{timer_insert, without_superseded}
use Rattle.machine.specs.Machine.{Machine, cpu_at}
use Rattle.model.specs.State.{State, at, state_of}
use Rattle.model.specs.Wakeup.{is_unreadable, stays, waits_for}
use Rattle.model.specs.Turn.{before_selection, before_choice}
use Rattle.model.specs.Accepted.{Call, outcome}
use Rattle.model.proofs.Cases.{by_test, and_both, not_is_true}
use Rattle.model.proofs.Lists.{In, keep_in}
use Rattle.model.proofs.Sorted.{in_inserted}
use Rattle.model_timers.specs.Timers.{Superseded}
use Rattle.model_timers.proofs.Served.{still_in}
use Rattle.model_timers.proofs.Calls.{wake_timer, charge_timers, Left, call_leaves}
use Rattle.model_timers.proofs.Untouched.{Kept}
use Rattle.model_timers.proofs.Newest.{selection_serves}

module _ (time : ℕ) (s : State) (t : Timer) where
  abbrev x₀ : ℕ
  x₀ = s.cpu.block.sched_ctxt

  -- `Superseded`, of the timers l
  record Gives_way (l : List Timer) : Type 0 where
    in_charge : t.context_ref ≡ x₀
    unfit : waits_for t.wake (at s t.context_ref) ≡ false
    newest : In (record { wake = (at s t.context_ref).wake; context_ref = t.context_ref }) l

  -- the holder is about to be charged
  abbrev u : State
  u = before_selection time s

  abbrev newest : List Timer
  newest = timer_insert (wake_timer u) (without_superseded (wake_timer u) u.cpu.timers)

  gives_way : superseded (wake_timer u) t ≡ true → Gives_way newest
  gives_way e =
      let h = selection_serves time s in
      let (p, q) = and_both (eqb t.context_ref u.cpu.block.sched_ctxt) _ e in
      let c : t.context_ref ≡ x₀ = eqb-true _ _ p ∙ h.sched in
      let w : (wake_timer u).wake ≡ (at s t.context_ref).wake = ap (λ (y : ℕ). (at u y).wake) h.sched ∙ ap (λ y. y.wake) h.holder ∙ ap (λ (y : ℕ). (at s y).wake) (sym c) in
      let d : eqb (at s t.context_ref).wake t.wake ≡ false = ne_eqb _ _ (λ z. eqb-false t.wake (wake_timer u).wake (not_is_true _ q) (sym z ∙ sym w)) in
      record {
        in_charge = c;
        unfit = and_no (is_soft_blocked (at s t.context_ref).status && (at s t.context_ref).has_wake) _ d;
        newest = subst (λ (y : Timer). In y newest) (λ j. record { wake = w j; context_ref = (h.sched ∙ sym c) j }) (in_inserted sooner (wake_timer u) (without_superseded (wake_timer u) u.cpu.timers));
      }

  left_or_gives_way : In t s.cpu.timers → stays time s t ≡ true → In t (before_choice time s).cpu.timers ⊎ Gives_way (before_choice time s).cpu.timers
  unfolding before_choice
  left_or_gives_way i e =
      let j : In t u.cpu.timers = (selection_serves time s).left t i e in
      charge_timers _ u (λ (l : List Timer). In t l ⊎ Gives_way l) (inl j)
      (λ z y x. by_test (superseded (wake_timer u) t) (λ g. inr (gives_way g))
      (λ g. inl (still_in t (wake_timer u) (without_superseded (wake_timer u) u.cpu.timers) (keep_in (λ (y : Timer). not (superseded (wake_timer u) y)) u.cpu.timers t j (ap not g)))))

module _ (call : Call) (k time : ℕ) (M : Machine) (t : Timer) (b : k < length M.cpus) (i : In t (cpu_at M k).timers) where
  abbrev M' : Machine
  M' = (outcome call k time M).machine

  -- operations 1 to 3, whether or not they decide
  pub nothing_lost : stays time (state_of k M) t ≡ true → In t (cpu_at M' k).timers ⊎ Superseded k M M' t
  nothing_lost e = go (call_leaves call k time M b)
    where
      go : Left k time M.cpus b (state_of k M) (outcome call k time M) → In t (cpu_at M' k).timers ⊎ Superseded k M M' t
      go (inl l) = inl (subst (In t) (sym (ap (λ (z : Kept). z.timers) l.here)) i)
      go (inr l) = of (left_or_gives_way time (state_of k M) t i e)
        where
          of : In t (before_choice time (state_of k M)).cpu.timers ⊎ Gives_way time (state_of k M) t (before_choice time (state_of k M)).cpu.timers → In t (cpu_at M' k).timers ⊎ Superseded k M M' t
          of (inl j) = inl (subst (In t) (sym (ap (λ (z : Kept). z.timers) l.here)) j)
          of (inr g) = inr (record { in_charge = g.in_charge; unfit = g.unfit; newest = subst (In _) (sym (ap (λ (z : Kept). z.timers) l.here)) g.newest })

  -- due or not: until its context can be read a timer stays, unless a newer one of the context in charge takes its place
  pub unreadable_stays : is_unreadable (state_of k M) t.context_ref ≡ true → In t (cpu_at M' k).timers ⊎ Superseded k M M' t
  unreadable_stays h = nothing_lost (by_test (is_due time t) (λ e. rw (e, h)) (λ e. rw e))
