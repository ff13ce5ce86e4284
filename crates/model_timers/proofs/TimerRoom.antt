-- No timer finds its set full: with one timer to a context a set has no more timers than there are contexts. Assumes nothing.
use mathlib.Core.Path.{◌≡◌, refl, sym, ap, ◌∙◌}
use mathlib.Core.Bool.{Bool, true, false, not, ◌||◌}
use mathlib.Core.List.{List, [], ◌∷◌}
use mathlib.Core.Logic.{◌≢◌, inl, inr}
use Prim.Native.Nat.{ℕ, zero, suc, ◌<◌, ◌≤◌}
use native.Mathlib.Omega.{arith}
use lib.Dec.{eqb, ltb}
use lib.ListN.{length}
use borrow.Author.Tests.{eqb-true, eqb-false, ne_eqb, le-ltb, ltb-true, ltb-false}
use Rattle.columns.specs.Common.{fold, keep, All}
use Rattle.columns.proofs.Keep.{all_keep}
use Rattle.ticks.specs.declared.Spent.{Spent}
use Rattle.context.specs.Status.{is_runnable}
use Rattle.entries.specs.declared.Timer.{Timer}
use Rattle.entries.specs.Order.{sooner, superseded}
use Rattle.entries.specs.Queue.{timer_insert, without_superseded}
use Rattle.entries.specs.Sorted.{Sorted}
use Rattle.entries.proofs.Ordered.{timers_ordered, sorted_keep}
use Rattle.model.specs.State.{State, on_cpu, holder, is_idle, too_many}
use Rattle.model.specs.Wakeup.{Wakeup, wakeups, drained, serve_wakeup}
use Rattle.model.specs.Turn.{count_switch, spent, holder_stopped, charge_holder, before_selection, before_choice}
use Rattle.model.proofs.Cases.{by_test, never, pick}
use Rattle.model.proofs.Lists.{In, all_at, all_in}
use Rattle.model.proofs.Sorted.{all_insert, insert_sorted}
use Rattle.model_timers.specs.Timers.{Alone}
use Rattle.model_timers.proofs.Served.{Serves, some_served}
use Rattle.model_timers.proofs.Calls.{wake_timer, charge_timers}
use Rattle.model_timers.proofs.Newest.{selection_serves, alone_before_choice}

-- no two timers of one context
abbrev Differ : List Timer → Type 0
Differ [] = Unit {0}
Differ (t ∷ ts) = All (λ (u : Timer). u.context_ref ≢ t.context_ref) ts × Differ ts

differ : (l : List Timer) → Sorted sooner l → Alone l → Differ l
differ [] s a = tt
differ (t ∷ ts) s a = (
  all_in _ ts (λ u i e.
      let p : sooner t t ≡ true = rw (a u t (inr i) (inl refl) e) at (all_at (λ y. sooner t y ≡ true) ts s.0 u i) in
      never p (timers_ordered.asym t t p)),
  differ ts s.1 (λ x y i j e. a x y (inr i) (inr j) e),
)

-- without the timer of context n
abbrev other : ℕ → Timer → Bool
other n t = not (eqb t.context_ref n)

keep_all : (f : Timer → Bool) (l : List Timer) → All (λ (t : Timer). f t ≡ true) l → keep f l ≡ l
keep_all f [] h = refl
keep_all f (t ∷ ts) h = let e : f t ≡ true = h.0 in rw e (ap (λ (l : List Timer). t ∷ l) (keep_all f ts h.1))

one_less : (n : ℕ) (l : List Timer) → Differ l → length l ≤ suc (length (keep (other n) l))
one_less n [] d = omega arith
one_less n (t ∷ ts) d =
    by_test (eqb t.context_ref n)
    (λ e.
    let q : t.context_ref ≡ n = eqb-true _ n e in
    let h : keep (other n) ts ≡ ts = keep_all (other n) ts (all_in _ ts (λ u i. ap not (ne_eqb u.context_ref n (λ z. all_at _ ts d.0 u i (z ∙ sym q))))) in
    rw e (let g : length (keep (other n) ts) ≡ length ts = ap length h in omega arith))
    (λ e. rw e (let h : length ts ≤ suc (length (keep (other n) ts)) = one_less n ts d.1 in omega arith))

differ_keep : (f : Timer → Bool) (l : List Timer) → Differ l → Differ (keep f l)
differ_keep f [] d = tt
differ_keep f (t ∷ ts) d =
    by_test (f t) (λ e. rw e (all_keep f _ ts d.0, differ_keep f ts d.1)) (λ e. rw e (differ_keep f ts d.1))

below : (n : ℕ) (l : List Timer) → All (λ (t : Timer). t.context_ref < suc n) l → All (λ (t : Timer). t.context_ref < n) (keep (other n) l)
below n [] h = tt
below n (t ∷ ts) h =
    by_test (eqb t.context_ref n) (λ e. rw e (below n ts h.1))
    (λ e. rw e (let g : t.context_ref ≢ n = eqb-false _ n e in let k = h.0 in lower t.context_ref n k g, below n ts h.1))
  where
    lower : (x n : ℕ) → x < suc n → x ≢ n → x < n
    lower x n k g = by_test (ltb x n) (λ z. ltb-true x n z) (λ z. absurd (g (let v = ltb-false x n z in omega arith)))

few : (n : ℕ) (l : List Timer) → All (λ (t : Timer). t.context_ref < n) l → Differ l → length l ≤ n
few zero [] a d = omega arith
few zero (t ∷ ts) a d = let h = a.0 in absurd (omega arith)
few (suc n) l a d =
    let h = few n (keep (other n) l) (below n l a) (differ_keep (other n) l d) in
    let g = one_less n l d in omega arith

-- n contexts; s: the state in which a decision begins
module _ (n time : ℕ) (s : State) (names : All (λ (t : Timer). t.context_ref < n) s.cpu.timers) (rise : Sorted sooner s.cpu.timers) (alone : Alone s.cpu.timers) where
  abbrev s₀ : State
  s₀ = on_cpu count_switch s

  serves_few : (u : State) → Serves time s₀ u → length u.cpu.timers ≤ n
  serves_few u h =
      few n u.cpu.timers (all_in _ u.cpu.timers (λ t i. all_at _ s.cpu.timers names t (h.from t i)))
      (differ u.cpu.timers (h.rise rise) (λ x y i j e. alone x y (h.from x i) (h.from y j) e))

  -- after any of the wake-ups, one that was put back included
  pub served_few : (l : List Wakeup) → ((w : Wakeup) → In w l → In w (wakeups time s₀)) → length (fold serve_wakeup (drained time s₀) l).cpu.timers ≤ n
  served_few l f = serves_few (fold serve_wakeup (drained time s₀) l) (some_served time s₀ l f)

  -- and with the holder's own
  pub charged_few : s.cpu.block.sched_ctxt < n → length (before_choice time s).cpu.timers ≤ n
  unfolding before_choice
  charged_few h =
      let u : State = before_selection time s in
      let v = selection_serves time s in
      let t : Timer = wake_timer u in
      let x : t.context_ref < n = rw v.sched h in
      let a : All (λ (y : Timer). y.context_ref < n) u.cpu.timers = all_in _ u.cpu.timers (λ y i. all_at _ s.cpu.timers names y (v.from y i)) in
      let r : Sorted sooner u.cpu.timers = v.rise rise in
      few n (before_choice time s).cpu.timers
      (charge_timers _ u (All (λ (y : Timer). y.context_ref < n)) a (λ z y w. all_insert sooner _ t _ x (all_keep (λ (y : Timer). not (superseded t y)) _ u.cpu.timers a)))
      (differ (before_choice time s).cpu.timers (charge_timers (spent time s.cpu) u (Sorted sooner) r (λ z y w. insert_sorted timers_ordered t _ (sorted_keep (λ (y : Timer). not (superseded t y)) sooner u.cpu.timers r))) (alone_before_choice time s alone))

  -- so charging never marks a lack of room
  pub charge_room : n ≤ 64 → s.cpu.block.sched_ctxt < n → (before_choice time s).no_room ≡ (before_selection time s).no_room
  unfolding before_choice charge_holder holder_stopped
  charge_room b h =
      let u : State = before_selection time s in
      let f : length (before_choice time s).cpu.timers ≤ n = charged_few h in
      marked u (spent time s.cpu) f
    where
      or_no : (a b : Bool) → b ≡ false → (a || b) ≡ a
      or_no true b e = refl
      or_no false b e = e

      marked : (u : State) (m : Spent) → length (charge_holder m u).cpu.timers ≤ n → (charge_holder m u).no_room ≡ u.no_room
      marked u m f =
          pick (λ (w : State). length w.cpu.timers ≤ n → w.no_room ≡ u.no_room) (is_idle u) (λ z g. refl)
          (λ z. pick (λ (w : State). length w.cpu.timers ≤ n → w.no_room ≡ u.no_room) (is_runnable (holder u).status) (λ y g. refl)
          (λ y. pick (λ (w : State). length w.cpu.timers ≤ n → w.no_room ≡ u.no_room) (holder u).has_wake
          (λ x g. let l : List Timer = timer_insert (wake_timer u) (without_superseded (wake_timer u) u.cpu.timers) in or_no u.no_room (too_many l) (le-ltb 64 (length l) (omega arith))) (λ x g. refl))) f
