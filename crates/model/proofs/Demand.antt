-- Demand 3: what every accepted decision on a tidy machine leaves.
use Rattle.std.specs.Prelude.{None, Option}
use mathlib.Core.Path.{◌≡◌, refl, subst, sym, ap, ◌∙◌}
use mathlib.Core.Bool.{true, false, not, ◌&&◌}
use mathlib.Core.List.{List}
use Prim.Native.Nat.{ℕ, ◌+◌}
use lib.Dec.{ltb, leb, eqb}
use borrow.Author.Tests.{leb-true, le-ltb}
use Rattle.runnable.specs.declared.UpdateResult.{UpdateResult}
use Rattle.runnable.specs.declared.UpdateResult.TheVariants.{CanSwitch, Skip, Blocked}
use Rattle.runnable.specs.Runnable.{update_runnable}
use Rattle.percpu.specs.Cpu.{Cpu}
use Rattle.machine.specs.Machine.{Machine, cpu_at}
use Rattle.model.specs.State.{State, at, state_of}
use Rattle.model.specs.Turn.{before_selection}
use Rattle.model.specs.SwitchTo.{direct_switch_by, try_direct_switch_back}
use Rattle.model.specs.Schedule.{
  Outcome,
  schedule,
  after_schedule,
  switch_inner_by,
  switch_inner,
  ticked,
  tick,
  switch,
  direct_switch_or,
  direct_switch_to,
}
use Rattle.model.specs.Tidy.{Sound, Tidy}
use Rattle.model.specs.Accepted.{Call, by_tick, by_switch, by_direct_switch, outcome, can_switch, decides, Accepted, ServesOwn}
use Rattle.model.specs.Demand3.{Demand3}
use Rattle.model.proofs.Cases.{never, pick, and_both, not_is_true}
use Rattle.model.proofs.Assembled.{scheduled_machine}
use Rattle.model.proofs.Decided.{demanded}

module _ (k time : ℕ) where
  pub no_direct_switch : (x : ℕ) (s : State) (u : UpdateResult) → can_switch u ≡ false → direct_switch_by k time x s u ≡ None
  unfolding direct_switch_by
  no_direct_switch x s Skip t = refl
  no_direct_switch x s Blocked t = refl
  no_direct_switch x s (CanSwitch c) t = never refl t

  no_way_back : (s : State)
      → (not (eqb s.cpu.block.current_ctxt s.cpu.block.sched_ctxt) && can_switch (update_runnable k time true false (at s s.cpu.block.sched_ctxt))) ≡ false
      → try_direct_switch_back k time s ≡ None
  unfolding try_direct_switch_back
  no_way_back s t =
      pick (λ (o : Option State). o ≡ None) (eqb s.cpu.block.current_ctxt s.cpu.block.sched_ctxt) (λ a. refl)
      (λ a. no_direct_switch s.cpu.block.sched_ctxt s (update_runnable k time true false (at s s.cpu.block.sched_ctxt)) (rw a at t))

  inner_decides : (cpus : List Cpu) (s : State)
      → (not (eqb s.cpu.block.current_ctxt s.cpu.block.sched_ctxt) && can_switch (update_runnable k time true false (at s s.cpu.block.sched_ctxt))) ≡ false
      → switch_inner k time cpus s ≡ after_schedule k time (schedule k time cpus s)
  unfolding switch_inner switch_inner_by
  inner_decides cpus s t = ap (switch_inner_by k time cpus s) (no_way_back s t)

  -- the count of ticks makes no difference to `schedule`
  ticked_same : (cpus : List Cpu) (s : State) → schedule k time cpus (ticked s) ≡ schedule k time cpus s
  unfolding schedule before_selection
  ticked_same cpus s = refl

  tick_decides : (M : Machine) → decides k time M by_tick ≡ true → (tick k time M).machine ≡ scheduled_machine k time M
  unfolding tick
  tick_decides M t =
      let (a, b) = and_both (leb 3 ((cpu_at M k).block.pit_ticks + 1)) _ t in
      pick (λ (o : Outcome). o.machine ≡ scheduled_machine k time M) (ltb ((cpu_at M k).block.pit_ticks + 1) 3)
      (λ z. never z (le-ltb ((cpu_at M k).block.pit_ticks + 1) 3 (leb-true 3 ((cpu_at M k).block.pit_ticks + 1) a)))
      (λ z. ap (λ (o : Outcome). o.machine)
      (inner_decides M.cpus (ticked (state_of k M)) (not_is_true _ b) ∙ ap (after_schedule k time) (ticked_same M.cpus (state_of k M))))

  switch_decides : (M : Machine) → decides k time M by_switch ≡ true → (switch k time M).machine ≡ scheduled_machine k time M
  unfolding switch
  switch_decides M t = ap (λ (o : Outcome). o.machine) (inner_decides M.cpus (state_of k M) (not_is_true _ t))

  direct_decides : (x : ℕ) (M : Machine) → decides k time M (by_direct_switch x) ≡ true → (direct_switch_to k time x M).machine ≡ scheduled_machine k time M
  unfolding direct_switch_to direct_switch_or
  direct_decides x M t =
      let (a, b) = and_both (not (eqb (cpu_at M k).block.current_ctxt x) && not (can_switch (update_runnable k time (eqb (cpu_at M k).block.sched_ctxt x) false (at (state_of k M) x)))) _ t in
      let (d, e) = and_both (not (eqb (cpu_at M k).block.current_ctxt x)) _ a in
      pick (λ (o : Outcome). o.machine ≡ scheduled_machine k time M) (eqb (cpu_at M k).block.current_ctxt x) (λ z. never z (not_is_true _ d))
      (λ z. ap (λ (o : Option State). (direct_switch_or k time M.cpus (state_of k M) o).machine)
      (no_direct_switch x (state_of k M) (update_runnable k time (eqb (cpu_at M k).block.sched_ctxt x) false (at (state_of k M) x)) (not_is_true _ e))
      ∙ ap (λ (o : Outcome). o.machine) (inner_decides M.cpus (state_of k M) (not_is_true _ b)))

  pub call_decides : (call : Call) (M : Machine) → decides k time M call ≡ true → (outcome call k time M).machine ≡ scheduled_machine k time M
  call_decides by_tick M t = tick_decides M t
  call_decides by_switch M t = switch_decides M t
  call_decides (by_direct_switch x) M t = direct_decides x M t

-- an accepted decision on a tidy machine, in which no wake-up served here names a context queued on another CPU
pub demand_3 : (call : Call) (k time : ℕ) (M : Machine) → Sound M → Tidy M → Accepted k time M call → ServesOwn k time M
    → Demand3 k time M (outcome call k time M).machine
demand_3 call k time M S T a own =
    subst (λ M'. Demand3 k time M M') (sym (call_decides k time call M a.decision)) (demanded (record { k = k; time = time; M = M; sound = S; tidy = T; present = a.present; own = own }))
