-- Where no due timer's context is unreadable and the source leaves one timer to a context, a call is the source's in every word, with the
-- remainder carried.
-- Assumes nothing.
use Rattle.std.specs.Prelude.{None, Option, Some}
use mathlib.Core.Path.{◌≡◌, refl, ap, ◌∙◌, subst}
use mathlib.Core.Bool.{Bool, true, false, not}
use mathlib.Core.List.{List, [], ◌∷◌}
use mathlib.Core.Logic.{inl, inr}
use Prim.Native.Nat.{ℕ, ◌<◌}
use lib.Dec.{ltb, eqb}
use lib.ListN.{length}
use borrow.Author.Tests.{eqb-true, eqb-false}
use Rattle.columns.specs.Common.{fold, keep, In}
use Rattle.ticks.specs.declared.Spent.{Spent}
use Rattle.ticks.specs.Ticks.{tick_interval}
use Rattle.entries.specs.declared.Timer.{Timer}
use Rattle.context.specs.Status.{is_runnable}
use Rattle.entries.specs.Order.{sooner, superseded, is_due}
use Rattle.entries.specs.Queue.{timer_insert, without_superseded}
use Rattle.percpu.specs.Cpu.{Cpu}
use Rattle.percpu.specs.With.{cpu_timers, cpu_local_wakeup_list}
use Rattle.machine.specs.Machine.{Machine, cpu_at}
use Rattle.model.specs.State.{State, on_cpu, state_of, holder, is_idle}
use Rattle.model.specs.Wakeup.{wakeups, is_unreadable, stays, serve_wakeup, serve_wakeups}
use Rattle.model.specs.Turn.{count_switch, times, spent, was_idle, holder_stopped, charge_holder, before_selection}
use Rattle.model.specs.SwitchTo.{try_direct_switch_back}
use Rattle.model.specs.Schedule.{Outcome, ticked, selected, select_next_context, picked_as, schedule, after_schedule, switch_inner_by, switch_inner, tick, switch, direct_switch_or, direct_switch_to}
use Rattle.model.specs.Accepted.{Call, by_tick, by_switch, by_direct_switch, outcome}
use Rattle.model.proofs.Cases.{by_test, and_both, not_is_true}
use Rattle.model.proofs.Sorted.{in_inserted}
use Rattle.model_timers.specs.Timers.{Alone, Readable}
use Rattle.model_timers.proofs.Untouched.{Kept, kept, charged_leaves}
use Rattle.model_timers.proofs.Served.{still_in}
use Rattle.model_timers.proofs.Calls.{wake_timer}
use Rattle.model_timers.proofs.Source.{carrying_clock, source_holder_stopped, source_charge_holder, source_select_next_context, source_serve_wakeups, source_before_selection, source_schedule, source_switch_inner_by, source_switch_inner, source_tick, source_direct_switch_or, source_direct_switch_to, source_outcome}

keep_same : {A : Type 0} (f g : A → Bool) (l : List A) → ((a : A) → In a l → f a ≡ g a) → keep f l ≡ keep g l
keep_same f g [] h = refl
keep_same f g (x ∷ xs) h =
    let r = keep_same f g xs (λ a i. h a (inr i)) in
    let e : f x ≡ g x = h x (inl refl) in
    by_test (g x) (λ z. rw (e, z) (ap (λ (l : List _). x ∷ l) r)) (λ z. rw (e, z) r)

leaves : (time : ℕ) (s : State) → Readable time s → (t : Timer) → In t s.cpu.timers → stays time s t ≡ not (is_due time t)
leaves time s h t i =
    by_test (is_due time t) (λ e. let u : is_unreadable s t.context_ref ≡ false = h t i e in rw (e, u)) (λ e. rw e)

-- the stage
pub served_as_before : (time : ℕ) (s : State) → Readable time s → serve_wakeups time s ≡ source_serve_wakeups time s
unfolding serve_wakeups source_serve_wakeups
served_as_before time s h =
    ap (λ (l : List Timer). fold serve_wakeup (on_cpu (λ p. cpu_timers l (cpu_local_wakeup_list [] p)) s) (wakeups time s))
    (keep_same (stays time s) (λ t. not (is_due time t)) s.cpu.timers (leaves time s h))

-- where the timers that the source puts one among have one to a context, none is superseded
module _ (t : Timer) (l : List Timer) (h : Alone (timer_insert t l)) where
  none_superseded : (u : Timer) → In u l → not (superseded t u) ≡ true
  none_superseded u i =
      by_test (superseded t u)
      (λ e.
      let (p, q) = and_both (eqb u.context_ref t.context_ref) _ e in
      let z : u ≡ t = h u t (still_in u t l i) (in_inserted sooner t l) (eqb-true _ _ p) in
      absurd (eqb-false u.wake t.wake (not_is_true _ q) (ap (λ (y : Timer). y.wake) z)))
      (λ e. rw e)

  all_left : without_superseded t l ≡ l
  all_left = keep_same (λ (u : Timer). not (superseded t u)) (λ (u : Timer). true) l none_superseded ∙ keep_true l
    where
      keep_true : (l : List Timer) → keep (λ (u : Timer). true) l ≡ l
      keep_true [] = refl
      keep_true (x ∷ xs) = ap (λ (r : List Timer). x ∷ r) (keep_true xs)

pub charged_as_before : (n : Spent) (s : State) → Alone (source_charge_holder n s).cpu.timers → charge_holder n s ≡ source_charge_holder n s
unfolding charge_holder holder_stopped source_charge_holder source_holder_stopped
charged_as_before n s h =
    by_test (is_idle s) (λ z. rw z)
    (λ z. by_test (is_runnable (holder s).status) (λ y. rw (z, y))
    (λ y. by_test (holder s).has_wake
    (λ x. let e : without_superseded (wake_timer s) s.cpu.timers ≡ s.cpu.timers = all_left (wake_timer s) s.cpu.timers (rw (z, y, x) at h) in rw (z, y, x, e))
    (λ x. rw (z, y, x))))

module _ (k time : ℕ) where
  -- the source leaves one timer to a context
  abbrev LeavesOne : Outcome → Type 0
  LeavesOne o = Alone (cpu_at o.machine k).timers

  schedule_as_before : (cpus : List Cpu) (s : State) → k < length cpus → Readable time s → LeavesOne (after_schedule k time (source_schedule carrying_clock k time cpus s)) → schedule k time cpus s ≡ source_schedule carrying_clock k time cpus s
  unfolding schedule source_schedule select_next_context source_select_next_context before_selection source_before_selection
  schedule_as_before cpus s b h a =
      let n : Spent = spent time s.cpu in
      let u : State = source_charge_holder n (source_before_selection carrying_clock time s) in
      let l = charged_leaves k time (kept u.cpu) cpus (was_idle s.cpu) n u b refl in
      let e : before_selection time s ≡ source_before_selection carrying_clock time s = ap (on_cpu (times time)) (served_as_before time (on_cpu count_switch s) h) in
      let c : charge_holder n (before_selection time s) ≡ u = ap (charge_holder n) e ∙ charged_as_before n (source_before_selection carrying_clock time s) (subst Alone (ap (λ (z : Kept). z.timers) l.here) a) in
      ap (λ (v : State). let d = selected k time n cpus v in picked_as time (was_idle s.cpu) d.rule d.cpus d.next d.state) c

  inner_as_before : (cpus : List Cpu) (s : State) → k < length cpus → Readable time s → LeavesOne (source_switch_inner carrying_clock k time cpus s) → switch_inner k time cpus s ≡ source_switch_inner carrying_clock k time cpus s
  unfolding switch_inner source_switch_inner switch_inner_by source_switch_inner_by
  inner_as_before cpus s b h = go (try_direct_switch_back k time s)
    where
      go : (o : Option State) → LeavesOne (source_switch_inner_by carrying_clock k time cpus s o) → switch_inner_by k time cpus s o ≡ source_switch_inner_by carrying_clock k time cpus s o
      go (Some s') a = refl
      go None a = ap (after_schedule k time) (schedule_as_before cpus s b h a)

  direct_as_before : (cpus : List Cpu) (s : State) (o : Option State) → k < length cpus → Readable time s → LeavesOne (source_direct_switch_or carrying_clock k time cpus s o) → direct_switch_or k time cpus s o ≡ source_direct_switch_or carrying_clock k time cpus s o
  unfolding direct_switch_or source_direct_switch_or
  direct_as_before cpus s (Some s') b h a = refl
  direct_as_before cpus s None b h a = inner_as_before cpus s b h a

  -- answer, image and refusal 9 of operations 1 to 3
  pub as_before : (call : Call) (M : Machine) → k < length M.cpus → Readable time (state_of k M) → LeavesOne (source_outcome carrying_clock k time call M) → outcome call k time M ≡ source_outcome carrying_clock k time call M
  unfolding tick source_tick switch direct_switch_to source_direct_switch_to
  as_before by_tick M b h a =
      by_test (ltb (ticked (state_of k M)).cpu.block.pit_ticks tick_interval) (λ e. rw e)
      (λ e. rw e (inner_as_before M.cpus (ticked (state_of k M)) b h (rw e at a)))
  as_before by_switch M b h a = inner_as_before M.cpus (state_of k M) b h a
  as_before (by_direct_switch x) M b h a =
      by_test (eqb (cpu_at M k).block.current_ctxt x) (λ e. rw e) (λ e. rw e (direct_as_before M.cpus (state_of k M) _ b h (rw e at a)))
