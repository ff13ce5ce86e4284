-- What a call reports: the number of the rule if it decides, else 0. Each number exactly by what the scan found, on every image. Assumes nothing.
use Rattle.std.specs.Prelude.{None, Option, Some, is_some}
use mathlib.Core.Path.{◌≡◌, refl, subst, sym, ap, ◌∙◌}
use mathlib.Core.Logic.{◌↔◌}
use mathlib.Core.Bool.{Bool, true, false, not, ◌&&◌}
use mathlib.Core.List.{List}
use Prim.Native.Nat.{ℕ, ◌+◌}
use native.Mathlib.Omega.{arith}
use lib.Dec.{ltb, leb, eqb}
use borrow.Author.Tests.{ltb-true, ltb-false, le-leb, lt-leb}
use Rattle.ticks.specs.Ticks.{tick_interval}
use Rattle.answer.specs.declared.Rule.{Rule}
use Rattle.answer.specs.Number.{rule_number}
use Rattle.runnable.specs.declared.UpdateResult.{UpdateResult}
use Rattle.runnable.specs.declared.UpdateResult.TheVariants.{CanSwitch, Skip, Blocked}
use Rattle.runnable.specs.Runnable.{update_runnable}
use Rattle.percpu.specs.Cpu.{Cpu}
use Rattle.machine.specs.Machine.{Machine, cpu_at}
use Rattle.model.specs.State.{State, at, state_of}
use Rattle.model.specs.Turn.{before_selection, before_choice}
use Rattle.model.specs.SwitchTo.{direct_switch_by, try_direct_switch_back}
use Rattle.model.specs.Schedule.{
  Outcome,
  Scheduled,
  picked_as,
  ticked,
  selected,
  select_next_context,
  schedule,
  switch_as,
  after_schedule,
  switch_inner_by,
  switch_inner,
  tick,
  switch,
  direct_switch_or,
  direct_switch_to,
}
use Rattle.model.specs.Accepted.{Call, by_tick, by_switch, by_direct_switch, outcome, can_switch, switches_back, decides}
use Rattle.model.proofs.Cases.{by_test, never, pick}
use Rattle.model_rules.specs.Met.{RuleMet}
use Rattle.model_rules.specs.ByScan.{ScanCondition}
use Rattle.model_rules.proofs.Numbers.{number_positive, met}
use Rattle.model_rules.proofs.ByScan.{the_rule, holds, only}

picked_rule : (time : ℕ) (was : Bool) (r : Rule) (cpus : List Cpu) (o : Option ℕ) (s : State) → (picked_as time was r cpus o s).rule ≡ r
unfolding picked_as
picked_rule time was r cpus None s = refl
picked_rule time was r cpus (Some x) s = refl

switch_rule : (k time r : ℕ) (s : State) (cpus : List Cpu) (o : Option ℕ) → (switch_as k time r s cpus o).rule ≡ r
unfolding switch_as
switch_rule k time r s cpus None = refl
switch_rule k time r s cpus (Some x) = refl

and_past : (a b : Bool) → a ≡ true → b ≡ (a && b)
and_past true b t = refl
and_past false b t = never t refl

and_not : (a b : Bool) → a ≡ false → (a && b) ≡ false
and_not true b t = never refl t
and_not false b t = refl

module _ (k time : ℕ) where
  scheduled : (d : Scheduled) → (after_schedule k time d).rule ≡ rule_number d.rule
  unfolding after_schedule
  scheduled d = switch_rule k time (rule_number d.rule) d.state d.cpus d.picked

  -- a switch without a decision is made exactly if the context can be switched to
  switched : (x : ℕ) (s : State) (u : UpdateResult) → is_some (direct_switch_by k time x s u) ≡ can_switch u
  unfolding direct_switch_by
  switched x s Skip = refl
  switched x s Blocked = refl
  switched x s (CanSwitch c) = refl

  abbrev back : State → Bool
  back s = not (eqb s.cpu.block.current_ctxt s.cpu.block.sched_ctxt) && can_switch (update_runnable k time true false (at s s.cpu.block.sched_ctxt))

  switched_back : (s : State) → is_some (try_direct_switch_back k time s) ≡ back s
  unfolding try_direct_switch_back
  switched_back s =
      by_test (eqb s.cpu.block.current_ctxt s.cpu.block.sched_ctxt) (λ t. rw t) (λ t. rw t (switched s.cpu.block.sched_ctxt s _))

  -- the count of ticks makes no difference to `schedule`
  ticked_same : (cpus : List Cpu) (s : State) → schedule k time cpus (ticked s) ≡ schedule k time cpus s
  unfolding schedule before_selection
  ticked_same cpus s = refl

  module _ (M : Machine) where
    abbrev s : State
    s = state_of k M

    abbrev pub decision : Outcome
    decision = after_schedule k time (schedule k time M.cpus (state_of k M))

    -- a call's outcome is the decision's, or it reports 0
    pub data Reports (o : Outcome) (decided : Bool) : Type 0 where
      decides_so : decided ≡ true → o ≡ decision → Reports o decided
      rests : decided ≡ false → o.rule ≡ 0 → Reports o decided

    past : (o : Outcome) (a b : Bool) → a ≡ true → Reports o b → Reports o (a && b)
    past o a b t r = subst (λ (d : Bool). Reports o d) (and_past a b t) r

    inner_reports : (u : State) → schedule k time M.cpus u ≡ schedule k time M.cpus s → Reports (switch_inner k time M.cpus u) (not (back u))
    unfolding switch_inner switch_inner_by
    inner_reports u z =
        subst (λ (b : Bool). Reports (switch_inner k time M.cpus u) (not b)) (switched_back u) (go (try_direct_switch_back k time u))
      where
        go : (o : Option State) → Reports (switch_inner_by k time M.cpus u o) (not (is_some o))
        go (Some t) = rests refl refl
        go None = decides_so refl (ap (after_schedule k time) z)

    -- this tick counted
    abbrev counted : ℕ
    counted = (cpu_at M k).block.pit_ticks + 1

    tick_reports : Reports (tick k time M) (decides k time M by_tick)
    unfolding tick
    tick_reports =
        pick (λ (o : Outcome). Reports o (decides k time M by_tick)) (ltb counted tick_interval)
        (λ t. rests (and_not (leb tick_interval counted) _ (lt-leb tick_interval counted (ltb-true counted tick_interval t))) refl)
        (λ t. past _ (leb tick_interval counted) _ (le-leb tick_interval counted (ltb-false counted tick_interval t))
        (inner_reports (ticked s) (ticked_same M.cpus s)))

    abbrev comes : ℕ → UpdateResult
    comes x = update_runnable k time (eqb (cpu_at M k).block.sched_ctxt x) false (at s x)

    direct_reports : (x : ℕ) → Reports (direct_switch_to k time x M) (decides k time M (by_direct_switch x))
    unfolding direct_switch_to direct_switch_or
    direct_reports x =
        pick (λ (o : Outcome). Reports o (decides k time M (by_direct_switch x))) (eqb (cpu_at M k).block.current_ctxt x)
        (λ t. rests (rw t) refl) (λ t. rw t (go (direct_switch_by k time x s (comes x)) (switched x s (comes x))))
      where
        go : (o : Option State) → is_some o ≡ can_switch (comes x)
            → Reports (direct_switch_or k time M.cpus s o) (not (can_switch (comes x)) && not (switches_back k time M))
        go (Some u) z = rests (and_not (not (can_switch (comes x))) _ (ap not (sym z))) refl
        go None z = past _ (not (can_switch (comes x))) _ (ap not (sym z)) (inner_reports s refl)

    pub call_reports : (call : Call) → Reports (outcome call k time M) (decides k time M call)
    unfolding switch
    call_reports by_tick = tick_reports
    call_reports by_switch = inner_reports s refl
    call_reports (by_direct_switch x) = direct_reports x

    pub decided_outcome : (call : Call) → decides k time M call ≡ true → outcome call k time M ≡ decision
    decided_outcome call t = go (call_reports call)
      where
        go : Reports (outcome call k time M) (decides k time M call) → outcome call k time M ≡ decision
        go (decides_so u z) = z
        go (rests u z) = never t u

    -- what `schedule` names is worked out in its one pass
    pub schedule_rule : (schedule k time M.cpus (state_of k M)).rule ≡ the_rule k time M
    unfolding schedule select_next_context selected before_choice
    schedule_rule = picked_rule time _ _ _ _ _

    pub decided_rule : (call : Call) → decides k time M call ≡ true → (outcome call k time M).rule ≡ rule_number (the_rule k time M)
    decided_rule call t = ap (λ (o : Outcome). o.rule) (decided_outcome call t) ∙ scheduled (schedule k time M.cpus s) ∙ ap rule_number schedule_rule

    -- 0 exactly where nothing is decided
    pub undecided_rule : (call : Call) → ((outcome call k time M).rule ≡ 0) ↔ (decides k time M call ≡ false)
    undecided_rule call = (
      λ z. by_test (decides k time M call)
          (λ t. let p = number_positive (the_rule k time M) in let q = sym (decided_rule call t) ∙ z in absurd (omega arith)) (λ t. t),
      λ t. go t (call_reports call),
    )
      where
        go : decides k time M call ≡ false → Reports (outcome call k time M) (decides k time M call) → (outcome call k time M).rule ≡ 0
        go t (decides_so u z) = never u t
        go t (rests u z) = z

    -- each number exactly when its condition holds, by the scan
    pub rule_by_scan : (call : Call) → decides k time M call ≡ true → RuleMet (outcome call k time M).rule (ScanCondition k time M)
    rule_by_scan call t =
        met (ScanCondition k time M) (the_rule k time M) (holds k time M) (only k time M) (outcome call k time M).rule (decided_rule call t)
