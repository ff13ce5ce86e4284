-- Where nothing is carried, a call is the source's in every word but the remainder of its CPU, tickets 2 and 4 aside. Assumes nothing.
use Rattle.std.specs.Prelude.{None, Option, Some}
use mathlib.Core.Path.{◌≡◌, refl, sym, ap, ◌∙◌, subst}
use mathlib.Core.List.{List}
use Prim.Native.Nat.{ℕ, ◌<◌}
use lib.Dec.{ltb, eqb}
use lib.ListN.{length}
use Rattle.ticks.specs.declared.Spent.{Spent}
use Rattle.ticks.specs.Ticks.{ticks, remainder, tick_interval}
use Rattle.runnable.specs.declared.UpdateResult.{UpdateResult}
use Rattle.runnable.specs.declared.UpdateResult.TheVariants.{CanSwitch, Skip, Blocked}
use Rattle.percpu.specs.Cpu.{Cpu}
use Rattle.percpu.specs.With.{cpu_remainder}
use Rattle.machine.specs.Machine.{Machine, cpu_at, no_cpu}
use Rattle.machine.proofs.Steps.{get_d_set}
use Rattle.model.specs.State.{State, on_cpu, put_context, state_of}
use Rattle.model.specs.Turn.{count_switch, elapsed, times, was_idle}
use Rattle.model.specs.SwitchTo.{switch_to, direct_switch_by, try_direct_switch_back}
use Rattle.model.specs.Schedule.{Outcome, finish_by, ticked, selected, picked_as, after_schedule}
use Rattle.model.specs.Accepted.{Call, by_tick, by_switch, by_direct_switch, outcome}
use Rattle.model.proofs.Cases.{by_test}
use Rattle.model_timers.specs.Timers.{Alone, Readable}
use Rattle.model_timers.proofs.Source.{
  source_clock,
  carrying_clock,
  source_serve_wakeups,
  source_before_selection,
  source_charge_holder,
  source_select_next_context,
  source_schedule,
  source_switch_inner_by,
  source_switch_inner,
  source_tick,
  source_direct_switch_or,
  source_direct_switch_to,
  source_outcome,
}
use Rattle.model_timers.proofs.AsBefore as timers
use Rattle.model_ticks.specs.Turns.{outcome_carrying}
use Rattle.model_ticks.proofs.Carrying.{carry, charge_carries, switch_carries, finish_carries, ending_carries}

module _ (k time : ℕ) where
  -- but for the remainder of CPU k
  abbrev pub Differs : Outcome → Outcome → Type 0
  Differs o o' = (r : ℕ) × (o ≡ outcome_carrying k r o')

  -- nothing carried is nothing stored
  kept_zero : (s : State) → s.cpu.remainder ≡ 0 → carry 0 s ≡ s
  kept_zero s h = λ j. on_cpu (cpu_remainder (sym h j)) s

  unmade : (rule : ℕ) (cpus : List Cpu) (res : ℕ) (s : State) → s.cpu.remainder ≡ 0 → Differs (finish_by rule k cpus res s) (finish_by rule k cpus res s)
  unmade rule cpus res s h = (0, ap (finish_by rule k cpus res) (sym (kept_zero s h)) ∙ finish_carries 0 rule k cpus res s)

  scheduled_differs : (cpus : List Cpu) (s : State) → s.cpu.remainder ≡ 0
      → Differs (after_schedule k time (source_schedule carrying_clock k time cpus s)) (after_schedule k time (source_schedule source_clock k time cpus s))
  unfolding source_schedule source_select_next_context source_before_selection times
  scheduled_differs cpus s h =
      let u : State = source_serve_wakeups time (on_cpu count_switch s) in
      let v : State = on_cpu (source_clock.times time) u in
      let r : ℕ = remainder (elapsed time u.cpu) u.cpu.remainder in
      let n : Spent = source_clock.spent time s.cpu in
      let e : carrying_clock.spent time s.cpu ≡ n = ap (λ (x : ℕ). record { elapsed = elapsed time s.cpu; ticks = ticks (elapsed time s.cpu) x }) h in
      let made : Spent → State → Outcome = λ m w. let d = selected k time m cpus w in after_schedule k time (picked_as time (was_idle s.cpu) d.rule d.cpus d.next d.state) in
      (r, ap (λ (m : Spent). made m (source_charge_holder m (carry r v))) e ∙ ap (made n) (charge_carries r n v) ∙ ending_carries r k time (was_idle s.cpu) n cpus (source_charge_holder n v))

  -- a switch without a decision carries on
  switched_zero : (x : ℕ) (s : State) → s.cpu.remainder ≡ 0 → (switch_to k time x s).cpu.remainder ≡ 0
  switched_zero x s h = ap (λ (u : State). u.cpu.remainder) (ap (switch_to k time x) (sym (kept_zero s h)) ∙ switch_carries 0 k time x s)

  Zero : Option State → Type 0
  Zero None = Unit {0}
  Zero (Some s) = s.cpu.remainder ≡ 0

  direct_zero : (x : ℕ) (s : State) (v : UpdateResult) → s.cpu.remainder ≡ 0 → Zero (direct_switch_by k time x s v)
  unfolding direct_switch_by Zero
  direct_zero x s Skip h = tt
  direct_zero x s Blocked h = tt
  direct_zero x s (CanSwitch c) h = switched_zero x (put_context x c s) h

  back_zero : (s : State) → s.cpu.remainder ≡ 0 → Zero (try_direct_switch_back k time s)
  unfolding try_direct_switch_back Zero
  back_zero s h =
      by_test (eqb s.cpu.block.current_ctxt s.cpu.block.sched_ctxt) (λ t. rw t tt) (λ t. rw t (direct_zero s.cpu.block.sched_ctxt s _ h))

  inner_differs : (cpus : List Cpu) (s : State) → s.cpu.remainder ≡ 0 → Differs (source_switch_inner carrying_clock k time cpus s) (source_switch_inner source_clock k time cpus s)
  unfolding source_switch_inner source_switch_inner_by Zero
  inner_differs cpus s h = go (try_direct_switch_back k time s) (back_zero s h)
    where
      go : (o : Option State) → Zero o → Differs (source_switch_inner_by carrying_clock k time cpus s o) (source_switch_inner_by source_clock k time cpus s o)
      go None z = scheduled_differs cpus s h
      go (Some u) z = unmade 0 cpus _ u z

  direct_differs : (cpus : List Cpu) (s : State) (o : Option State) → s.cpu.remainder ≡ 0 → Zero o
      → Differs (source_direct_switch_or carrying_clock k time cpus s o) (source_direct_switch_or source_clock k time cpus s o)
  unfolding source_direct_switch_or Zero
  direct_differs cpus s None h z = inner_differs cpus s h
  direct_differs cpus s (Some u) h z = unmade 0 cpus _ u z

  call_differs : (call : Call) (M : Machine) → (cpu_at M k).remainder ≡ 0 → Differs (source_outcome carrying_clock k time call M) (source_outcome source_clock k time call M)
  unfolding source_tick source_direct_switch_to
  call_differs by_tick M h =
      by_test (ltb (ticked (state_of k M)).cpu.block.pit_ticks tick_interval) (λ t. rw t (unmade 0 M.cpus 0 (ticked (state_of k M)) h))
      (λ t. rw t (inner_differs M.cpus (ticked (state_of k M)) h))
  call_differs by_switch M h = inner_differs M.cpus (state_of k M) h
  call_differs (by_direct_switch x) M h =
      let s : State = state_of k M in
      by_test (eqb s.cpu.block.current_ctxt x) (λ t. rw t (unmade 0 M.cpus _ s h))
      (λ t. rw t (direct_differs M.cpus s _ h (direct_zero x s _ h)))

  -- the timers are the source's
  timers_same : (o o' : Outcome) → Differs o o' → (cpu_at o.machine k).timers ≡ (cpu_at o'.machine k).timers
  unfolding cpu_at
  timers_same o o' (r, e) =
      ap (λ (y : Outcome). (cpu_at y.machine k).timers) e
      ∙ get_d_set o'.machine.cpus k k _ no_cpu (λ (p : Cpu). p.timers ≡ (cpu_at o'.machine k).timers) refl refl

  -- answer, image and refusal 9 of operations 1 to 3
  pub as_before : (call : Call) (M : Machine) → k < length M.cpus → Readable time (state_of k M) → (cpu_at M k).remainder ≡ 0
      → Alone (cpu_at (source_outcome source_clock k time call M).machine k).timers → Differs (outcome call k time M) (source_outcome source_clock k time call M)
  as_before call M b h z a =
      let d = call_differs call M z in
      (d.0, timers.as_before k time call M b h (subst Alone (sym (timers_same _ _ d)) a) ∙ d.1)
