-- A context has one timer at most in each set, before a call and after it. Assumes nothing.
use mathlib.Core.Path.{◌≡◌, sym, ap, ◌∙◌, subst}
use mathlib.Core.Bool.{false, not}
use mathlib.Core.List.{List}
use mathlib.Core.Logic.{◌⊎◌, ◌≢◌, inl, inr}
use Prim.Native.Nat.{ℕ, ◌<◌}
use lib.ListN.{length}
use borrow.Author.Tests.{eqb-true, eq-eqb}
use Rattle.entries.specs.declared.Timer.{Timer}
use Rattle.entries.specs.Order.{sooner, superseded}
use Rattle.entries.specs.Queue.{timer_insert, without_superseded}
use Rattle.machine.specs.Machine.{Machine, cpu_at}
use Rattle.model.specs.State.{State, on_cpu, state_of}
use Rattle.model.specs.Turn.{count_switch, times, before_selection, before_choice}
use Rattle.model.specs.Accepted.{Call, outcome}
use Rattle.model.proofs.Cases.{not_is_false, not_is_true}
use Rattle.model.proofs.Lists.{In, in_keep}
use Rattle.model.proofs.Sorted.{in_insert}
use Rattle.model_timers.specs.Timers.{Alone}
use Rattle.model_timers.proofs.Served.{Serves, served}
use Rattle.model_timers.proofs.Calls.{wake_timer, charge_timers, Left, call_leaves}
use Rattle.model_timers.proofs.Untouched.{Kept}

-- a timer of t's context that t does not supersede is t
pub is_newest : (t u : Timer) → superseded t u ≡ false → u.context_ref ≡ t.context_ref → u ≡ t
is_newest t u h e =
    let w : u.wake ≡ t.wake = eqb-true u.wake t.wake (not_is_false _ (rw (eq-eqb u.context_ref t.context_ref e) at h)) in
    λ j. record { wake = w j; context_ref = e j }

alone_newest : (t : Timer) (l : List Timer) → Alone l → Alone (timer_insert t (without_superseded t l))
alone_newest t l h a b i j e = go (in_insert sooner t a (without_superseded t l) i) (in_insert sooner t b (without_superseded t l) j)
  where
    is : (u : Timer) → In u (without_superseded t l) → u.context_ref ≡ t.context_ref → u ≡ t
    is u k f = is_newest t u (not_is_true _ (in_keep (λ (y : Timer). not (superseded t y)) l u k).1) f

    go : (a ≡ t) ⊎ In a (without_superseded t l) → (b ≡ t) ⊎ In b (without_superseded t l) → a ≡ b
    go (inl p) (inl q) = p ∙ sym q
    go (inl p) (inr q) = p ∙ sym (is b q (sym e ∙ ap (λ (y : Timer). y.context_ref) p))
    go (inr p) (inl q) = is a p (e ∙ ap (λ (y : Timer). y.context_ref) q) ∙ sym q
    go (inr p) (inr q) = h a b (in_keep (λ (y : Timer). not (superseded t y)) l a p).0 (in_keep (λ (y : Timer). not (superseded t y)) l b q).0 e

module _ (time : ℕ) (s : State) where
  -- the holder is about to be charged
  abbrev u : State
  u = before_selection time s

  pub selection_serves : Serves time (on_cpu count_switch s) u
  unfolding before_selection times
  selection_serves =
      let h = served time (on_cpu count_switch s) in
      record { from = h.from; left = h.left; rise = h.rise; sched = h.sched; idle = h.idle; holder = h.holder }

  pub alone_before_choice : Alone s.cpu.timers → Alone (before_choice time s).cpu.timers
  unfolding before_choice
  alone_before_choice h =
      let f = selection_serves.from in
      let a : Alone u.cpu.timers = λ x y i j e. h x y (f x i) (f y j) e in
      charge_timers _ u Alone a (λ z y x. alone_newest (wake_timer u) u.cpu.timers a)

-- operations 1 to 3, on the CPU of the call and on every other
module _ (call : Call) (k time : ℕ) (M : Machine) (b : k < length M.cpus) where
  abbrev M' : Machine
  M' = (outcome call k time M).machine

  pub alone_after : Alone (cpu_at M k).timers → Alone (cpu_at M' k).timers
  alone_after h = go (call_leaves call k time M b)
    where
      go : Left k time M.cpus b (state_of k M) (outcome call k time M) → Alone (cpu_at M' k).timers
      go (inl l) = subst Alone (sym (ap (λ (z : Kept). z.timers) l.here)) h
      go (inr l) = subst Alone (sym (ap (λ (z : Kept). z.timers) l.here)) (alone_before_choice time (state_of k M) h)

  pub others_after : (j : ℕ) → j ≢ k → (cpu_at M' j).timers ≡ (cpu_at M j).timers
  unfolding cpu_at
  others_after j n = go (call_leaves call k time M b)
    where
      go : Left k time M.cpus b (state_of k M) (outcome call k time M) → (cpu_at M' j).timers ≡ (cpu_at M j).timers
      go (inl l) = ap (λ (z : Kept). z.timers) (l.there j n)
      go (inr l) = ap (λ (z : Kept). z.timers) (l.there j n)
