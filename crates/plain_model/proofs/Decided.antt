-- The plain engine's outcome is the kernel's, where the keys of each queue and the timers differ. Assumes nothing.
use Rattle.std.specs.Prelude.{if◌then◌else◌, None, Option, Some, is_some}
use mathlib.Core.Path.{◌≡◌, refl, sym, ap, ◌∙◌}
use mathlib.Core.Bool.{Bool, false}
use mathlib.Core.List.{List, ◌∷◌}
use Prim.Native.Nat.{ℕ}
use lib.Dec.{ltb, eqb}
use Rattle.columns.specs.Common.{All}
use Rattle.cpu_stats.specs.declared.CpuState.TheVariants.{Idle}
use Rattle.cpu_stats.specs.With.{stats_state}
use Rattle.ticks.specs.declared.Spent.{Spent}
use Rattle.ticks.specs.Ticks.{tick_interval}
use Rattle.runnable.specs.Runnable.{update_runnable}
use Rattle.percpu.specs.Cpu.{Cpu}
use Rattle.percpu.specs.With.{cpu_stats}
use Rattle.machine.specs.Machine.{Machine, cpu_at}
use Rattle.answer.specs.declared.Rule.{Rule}
use Rattle.answer.specs.declared.SwitchResult.TheVariants.{Switched, AllContextsIdle}
use Rattle.answer.specs.Number.{result_number, rule_number}
use Rattle.model.specs.State.{State, at, on_cpu, state_of, prev_runnable}
use Rattle.model.specs.Turn.{spent, was_idle, before_choice}
use Rattle.model.specs.Scan.{Scan}
use Rattle.model.specs.Choice.{choice, chosen, ineligible_holder}
use Rattle.model.specs.Steal.{Stealing}
use Rattle.model.specs.Handover.{settled}
use Rattle.model.specs.SwitchTo.{switch_to, direct_switch_by, try_direct_switch_back}
use Rattle.model.specs.Schedule.{Selected, Scheduled, finish_by, finish, picked_as, ticked, scanned, choose_and_steal, selected, select_next_context, schedule, switch_as, after_schedule, switch_inner_by, switch_inner, tick, switch, direct_switch_or, direct_switch_to}
use Rattle.model.specs.Accepted.{Call, by_tick, by_switch, by_direct_switch, outcome}
use Rattle.plain_model.specs.State.{placed, placed_cpu, placed_machine, placed_outcome, Different}
use Rattle.plain_model.specs.Turn.{before_choice as plain-before-choice}
use Rattle.plain_model.specs.Choice.{choice as plain-choice, chosen as plain-chosen}
use Rattle.plain_model.specs.Handover.{settled as plain-settled}
use Rattle.plain_model.specs.Schedule as plain
use Rattle.plain_model.specs.Decision.{Decision, decision}
use Rattle.plain_model.proofs.Places.{through_if, Places}
use Rattle.plain_model.proofs.Charged.{choice_placed}
use Rattle.plain_model.proofs.Scanned.{scan_is}
use Rattle.plain_model.proofs.Chosen.{choice_in, choice_is, rule_is, chosen_placed}
use Rattle.plain_model.proofs.Robbed.{placed_cpus, cpu_placed, set_placed, different_at, Steals, steal_placed}
use Rattle.plain_model.proofs.Settled.{settled_placed, next_is, handed_is, placed_option, switched_is, direct_is, back_is}

abbrev placed_selected : Selected → Selected
placed_selected d = record { state = placed d.state; cpus = placed_cpus d.cpus; next = d.next; rule = d.rule }

abbrev placed_scheduled : Scheduled → Scheduled
placed_scheduled d = record { state = placed d.state; cpus = placed_cpus d.cpus; picked = d.picked; rule = d.rule }

finished : (rule k : ℕ) (cpus : List Cpu) (r : ℕ) (s : State) → placed_outcome (finish_by rule k cpus r s) ≡ finish_by rule k (placed_cpus cpus) r (placed s)
finished rule k cpus r s =
    λ i.
    record {
      machine = record { contexts = s.contexts; cpus = set_placed cpus k s.cpu i };
      result = r;
      interrupt = false;
      rule = rule;
      no_room = s.no_room;
    }

module _ (k time : ℕ) where
  pub scanned_is : (s : State) → plain.scanned k time s ≡ scanned k time (placed s)
  scanned_is s = scan_is k time s.cpu (ineligible_holder s) s.contexts s.cpu.queue

  pub choice_of_is : (s : State) → choice (placed s) (scanned k time (placed s)) ≡ choice_in (plain.choice_of k time s)
  choice_of_is s = rw (← scanned_is s) (choice_is s (plain.scanned k time s))

  module _ (cpus : List Cpu) (a : All Different cpus) (s : State) (d : Different s.cpu) where
    pub stolen_placed : Steals (plain.choose_and_steal k time cpus s) (choose_and_steal k time (placed_cpus cpus) (placed s))
    unfolding plain.choose_and_steal choose_and_steal
    stolen_placed =
        let f : Scan = plain.scanned k time s in
        let c : Places (plain-chosen (plain.choice_of k time s) f s) (chosen (choice_in (plain.choice_of k time s)) f (placed s)) = chosen_placed (plain.choice_of k time s) f s d in
        rw (choice_of_is s, ← scanned_is s, ← c.is)
        (steal_placed k (prev_runnable s) (s.cpu.block.sched_ctxt ∷ (plain.choice_of k time s).locked) cpus a (plain.choice_of k time s).winner (plain-chosen (plain.choice_of k time s) f s) c.differ)

    pub selected_is : (n : Spent) → placed_selected (plain.selected k time n cpus s) ≡ selected k time n (placed_cpus cpus) (placed s)
    unfolding plain.selected selected
    selected_is n =
        let l : Stealing = plain.choose_and_steal k time cpus s in
        let u : State = plain-settled (prev_runnable s) n.ticks l in
        let p : Places u (settled (prev_runnable s) n.ticks (choose_and_steal k time (placed_cpus cpus) (placed s))) = settled_placed (prev_runnable s) n.ticks stolen_placed in
        rw (← p.is, ← stolen_placed.is, next_is (prev_runnable s) l.winner u, ← scanned_is s, rule_is s (plain.scanned k time s) (is_some l.winner))

  picked_is : (b : Bool) (r : Rule) (cpus : List Cpu) (o : Option ℕ) (s : State)
      → placed_scheduled (picked_as time b r cpus o s) ≡ picked_as time b r (placed_cpus cpus) o (placed s)
  unfolding picked_as
  picked_is b r cpus None s = refl
  picked_is b r cpus (Some x) s = rw (handed_is time b x s)

  module _ (cpus : List Cpu) (a : All Different cpus) (s : State) (d : Different s.cpu) where
    schedule_is : placed_scheduled (plain.schedule k time cpus s) ≡ schedule k time (placed_cpus cpus) (placed s)
    unfolding plain.schedule schedule select_next_context before_choice
    schedule_is =
        let u : State = plain-before-choice time s in
        let p : Places u (before_choice time (placed s)) = choice_placed time s d in
        let e : Selected = plain.selected k time (spent time s.cpu) cpus u in
        picked_is (was_idle s.cpu) e.rule e.cpus e.next e.state
        ∙ ap (λ (z : Selected). picked_as time (was_idle s.cpu) z.rule z.cpus z.next z.state)
        (selected_is cpus a u p.differ (spent time s.cpu) ∙ ap (λ (z : State). selected k time (spent time s.cpu) (placed_cpus cpus) z) p.is)

  as_is : (rule : ℕ) (s : State) (cpus : List Cpu) (o : Option ℕ) → placed_outcome (switch_as k time rule s cpus o) ≡ switch_as k time rule (placed s) (placed_cpus cpus) o
  unfolding switch_as
  as_is rule s cpus None = finished rule k cpus (result_number AllContextsIdle) (on_cpu (λ p. cpu_stats (stats_state Idle p.block.stats) p) s)
  as_is rule s cpus (Some x) =
      let t : State = if eqb s.cpu.block.current_ctxt x then s else switch_to k time x s in
      finished rule k cpus (result_number Switched) t
      ∙ ap (finish_by rule k (placed_cpus cpus) (result_number Switched))
      (sym (through_if placed (eqb s.cpu.block.current_ctxt x) {u = s} {w = switch_to k time x s} refl (sym (switched_is k time x s))))

  after_is : (d : Scheduled) → placed_outcome (after_schedule k time d) ≡ after_schedule k time (placed_scheduled d)
  unfolding after_schedule
  after_is d = as_is (rule_number d.rule) d.state d.cpus d.picked

  module _ (cpus : List Cpu) (a : All Different cpus) (s : State) (d : Different s.cpu) where
    inner_by_is : (o : Option State) → placed_outcome (plain.switch_inner_by k time cpus s o) ≡ switch_inner_by k time (placed_cpus cpus) (placed s) (placed_option o)
    unfolding plain.switch_inner_by switch_inner_by
    inner_by_is (Some t) = finished 0 k cpus (result_number Switched) t
    inner_by_is None = after_is (plain.schedule k time cpus s) ∙ ap (after_schedule k time) (schedule_is cpus a s d)

    inner_is : placed_outcome (plain.switch_inner k time cpus s) ≡ switch_inner k time (placed_cpus cpus) (placed s)
    unfolding plain.switch_inner switch_inner
    inner_is = inner_by_is (try_direct_switch_back k time s) ∙ ap (switch_inner_by k time (placed_cpus cpus) (placed s)) (back_is k time s)

    direct_or_is : (o : Option State) → placed_outcome (plain.direct_switch_or k time cpus s o) ≡ direct_switch_or k time (placed_cpus cpus) (placed s) (placed_option o)
    unfolding plain.direct_switch_or direct_switch_or
    direct_or_is (Some t) = finished 0 k cpus (result_number Switched) t
    direct_or_is None = inner_is

  module _ (M : Machine) (a : All Different M.cpus) where
    cpu_is : cpu_at (placed_machine M) k ≡ placed_cpu (cpu_at M k)
    unfolding cpu_at
    cpu_is = cpu_placed M.cpus k

    differs : Different (state_of k M).cpu
    unfolding cpu_at
    differs = different_at M.cpus a k

    switch_is : placed_outcome (plain.switch k time M) ≡ switch k time (placed_machine M)
    unfolding plain.switch switch
    switch_is = rw cpu_is (inner_is M.cpus a (state_of k M) differs)

    tick_is : placed_outcome (plain.tick k time M) ≡ tick k time (placed_machine M)
    unfolding plain.tick tick
    tick_is =
        let s : State = ticked (state_of k M) in
        let d : Different s.cpu = record { queue = differs.queue; timers = differs.timers } in
        rw cpu_is
        (sym
        (through_if placed_outcome (ltb s.cpu.block.pit_ticks tick_interval) {u = finish k M.cpus 0 s} {w = plain.switch_inner k time M.cpus s}
        (sym (finished 0 k M.cpus 0 s)) (sym (inner_is M.cpus a s d))))

    to_is : (x : ℕ) → placed_outcome (plain.direct_switch_to k time x M) ≡ direct_switch_to k time x (placed_machine M)
    unfolding plain.direct_switch_to direct_switch_to
    to_is x =
        let s : State = state_of k M in
        let o : Option State = direct_switch_by k time x s (update_runnable k time (eqb s.cpu.block.sched_ctxt x) false (at s x)) in
        rw cpu_is
        (sym
        (through_if placed_outcome (eqb s.cpu.block.current_ctxt x) {u = finish k M.cpus (result_number Switched) s} {w = plain.direct_switch_or k time M.cpus s o}
        (sym (finished 0 k M.cpus (result_number Switched) s))
        (sym
        (direct_or_is M.cpus a s differs o
        ∙ ap (direct_switch_or k time (placed_cpus M.cpus) (placed s)) (direct_is k time x s (update_runnable k time (eqb s.cpu.block.sched_ctxt x) false (at s x)))))))

-- what a decision comes to, of the machine placed
abbrev pub decision_in : (k time : ℕ) → Machine → Decision
decision_in k time M =
    let s = before_choice time (state_of k M) in
    record {
      woken = s.contexts;
      scan = scanned k time s;
      choice = plain-choice s (scanned k time s);
      stealing = choose_and_steal k time M.cpus s;
    }

choice_same : (s : State) (f : Scan) → plain-choice s f ≡ plain-choice (placed s) f
unfolding plain-choice
choice_same s f = refl

pub decision_is : (k time : ℕ) (M : Machine) → All Different M.cpus → decision k time M ≡ decision_in k time (placed_machine M)
unfolding decision
decision_is k time M a =
    let u : State = plain-before-choice time (state_of k M) in
    let p : Places u (before_choice time (placed (state_of k M))) = choice_placed time (state_of k M) (differs k time M a) in
    rw (cpu_is k time M a, ← p.is)
    (λ i.
    record {
      woken = u.contexts;
      scan = scanned_is k time u i;
      choice = (choice_same u (plain.scanned k time u) ∙ ap (plain-choice (placed u)) (scanned_is k time u)) i;
      stealing = (stolen_placed k time M.cpus a u p.differ).is i;
    })

-- of every machine in which the keys of each queue differ, and the timers of each CPU
pub plain_is : (call : Call) (k time : ℕ) (M : Machine) → All Different M.cpus → plain.plain_outcome call k time M ≡ outcome call k time (placed_machine M)
unfolding plain.plain_outcome
plain_is by_tick k time M a = tick_is k time M a
plain_is by_switch k time M a = switch_is k time M a
plain_is (by_direct_switch x) k time M a = to_is k time M a x
