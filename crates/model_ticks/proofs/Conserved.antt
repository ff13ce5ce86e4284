-- A decision stores what its conversion leaves over, and nothing else touches a remainder: no part of a tick is lost. Assumes nothing.
use mathlib.Core.Path.{◌≡◌, refl, sym, ap, ◌∙◌, subst}
use mathlib.Core.Bool.{true}
use Prim.Native.Nat.{ℕ, ◌+◌, ◌-◌, ◌*◌, ◌<◌}
use native.Mathlib.Omega.{arith}
use lib.Dec.{eqb}
use lib.ListN.{length}
use borrow.Author.Tests.{eqb-true, eqb-false}
use Rattle.ticks.specs.declared.Spent.{Spent}
use Rattle.ticks.specs.Ticks.{remainder, nanos_per_tick, scale}
use Rattle.ticks.proofs.Laws.{conserved}
use Rattle.context.specs.Status.{is_runnable}
use Rattle.machine.specs.Machine.{Machine, cpu_at}
use Rattle.model.specs.State.{State, on_cpu, state_of, holder, is_idle}
use Rattle.model.specs.Wakeup.{wakeups, drained, serve_wakeups}
use Rattle.model.specs.Turn.{count_switch, elapsed, spent, times, was_idle, holder_stopped, charge_holder, before_selection}
use Rattle.model.specs.Schedule.{select_next_context, schedule}
use Rattle.model.specs.Accepted.{Call, outcome, decides}
use Rattle.model.proofs.Cases.{by_test, pick}
use Rattle.model_timers.proofs.Untouched.{Kept, kept, Leaves, charged_leaves}
use Rattle.model_rules.proofs.Called.{decided_outcome}
use Rattle.model_weights.proofs.Untouched.{Watched, Untouched}
use Rattle.model_weights.proofs.Undecided.{undecided}
use Rattle.model_ticks.specs.Turns.{decision_by, turn_ended, Turned}
use Rattle.model_ticks.proofs.Measured.{Measure, served_measured}

charge_keeps : (n : Spent) (s : State) → (charge_holder n s).cpu.remainder ≡ s.cpu.remainder
unfolding charge_holder holder_stopped
charge_keeps n s =
    pick (λ (u : State). u.cpu.remainder ≡ s.cpu.remainder) (is_idle s) (λ z. refl)
    (λ z. pick (λ (u : State). u.cpu.remainder ≡ s.cpu.remainder) (is_runnable (holder s).status) (λ y. refl)
    (λ y. pick (λ (u : State). u.cpu.remainder ≡ s.cpu.remainder) (holder s).has_wake (λ x. refl) (λ x. refl)))

selection_stores : (time : ℕ) (s : State) → (before_selection time s).cpu.remainder ≡ remainder (elapsed time s.cpu) s.cpu.remainder
unfolding before_selection serve_wakeups times
selection_stores time s =
    let u : State = on_cpu count_switch s in
    ap (λ (m : Measure). remainder (time - m.schedule_time) m.remainder) (served_measured (wakeups time u) (drained time u))

module _ (k time : ℕ) (M : Machine) (call : Call) where
  abbrev M' : Machine
  M' = (outcome call k time M).machine

  -- charging and V go by the turn's own ticks
  pub charged_by_turn : decides k time M call ≡ true → outcome call k time M ≡ decision_by (spent time (cpu_at M k)) k time M
  unfolding schedule
  charged_by_turn t = decided_outcome k time M call t

  pub turned : k < length M.cpus → decides k time M call ≡ true → Turned k time M M'
  unfolding select_next_context cpu_at
  turned b t =
      let s : State = state_of k M in
      let n : Spent = spent time s.cpu in
      let u : State = charge_holder n (before_selection time s) in
      let l : Leaves k time (kept u.cpu) M.cpus (outcome call k time M) =
      subst (Leaves k time (kept u.cpu) M.cpus) (sym (charged_by_turn t)) (charged_leaves k time (kept u.cpu) M.cpus (was_idle s.cpu) n u b refl) in
      record {
        here = ap (λ (z : Kept). z.remainder) l.here ∙ charge_keeps n (before_selection time s) ∙ selection_stores time s;
        there = λ j e. ap (λ (z : Kept). z.remainder) (l.there j e);
      }

-- what a call of another kind leaves
pub untouched_keeps : (M M' : Machine) → Untouched M M' → (j : ℕ) → (cpu_at M' j).remainder ≡ (cpu_at M j).remainder
untouched_keeps M M' u j = ap (λ (w : Watched). w.remainder) (u.cpus j)

-- of operations 1 to 3 on any CPU
module _ (k : ℕ) (M : Machine) (call : Call) (cpu time : ℕ) where
  abbrev Conserved : Spent → Machine → Type 0
  Conserved turn N = turn.ticks * nanos_per_tick + (cpu_at N k).remainder ≡ turn.elapsed * scale + (cpu_at M k).remainder

  -- nothing given, nothing taken
  pub nothing_given : (N : Machine) → (cpu_at N k).remainder ≡ (cpu_at M k).remainder → 0 * nanos_per_tick + (cpu_at N k).remainder ≡ 0 * scale + (cpu_at M k).remainder
  nothing_given N e = omega arith

  pub call_conserves : cpu < length M.cpus → Conserved (turn_ended k M call cpu time) (outcome call cpu time M).machine
  call_conserves b =
      by_test (decides cpu time M call)
      (λ t. let w = turned cpu time M call b t in
      by_test (eqb cpu k)
      (λ e. rw (e, t) (subst (λ (i : ℕ). (spent time (cpu_at M cpu)).ticks * nanos_per_tick + (cpu_at (outcome call cpu time M).machine i).remainder ≡ (spent time (cpu_at M cpu)).elapsed * scale + (cpu_at M i).remainder) (eqb-true cpu k e)
      (ap (λ (x : ℕ). (spent time (cpu_at M cpu)).ticks * nanos_per_tick + x) w.here ∙ conserved (elapsed time (cpu_at M cpu)) (cpu_at M cpu).remainder)))
      (λ e. rw e (nothing_given _ (w.there k (λ z. eqb-false cpu k e (sym z))))))
      (λ t. let w = untouched_keeps M _ (undecided cpu time M call t) k in
      by_test (eqb cpu k) (λ e. rw (e, t) (nothing_given _ w)) (λ e. rw e (nothing_given _ w)))
