-- `schedule` and the calls that decide: `tick`, `switch` and `direct_switch_to`. Assumes nothing.
use Rattle.std.specs.Prelude.{Bool, false, List, ◌∷◌, ℕ, ◌+◌, ltb, eqb, set, if◌then◌else◌, None, Option, Some, is_some}
use Rattle.cpu_stats.specs.declared.CpuState.TheVariants.{Idle}
use Rattle.cpu_stats.specs.With.{stats_state}
use Rattle.ticks.specs.declared.Spent.{Spent}
use Rattle.ticks.specs.Ticks.{tick_interval}
use Rattle.runnable.specs.Runnable.{update_runnable}
use Rattle.percpu.specs.Cpu.{Cpu}
use Rattle.percpu.specs.With.{cpu_pit_ticks, cpu_stats}
use Rattle.machine.specs.Machine.{Machine}
pub use Rattle.machine.specs.Outcome.{Outcome}
use Rattle.model.specs.State.{State, at, on_cpu, state_of, prev_runnable}
use Rattle.model.specs.Turn.{spent, was_idle, charge_holder, before_selection}
use Rattle.model.specs.Scan.{Scan, scan}
use Rattle.model.specs.Choice.{Choice, choice, chosen, ineligible_holder}
use Rattle.model.specs.Rule.{rule_of}
use Rattle.model.specs.Steal.{Stealing, steal}
use Rattle.model.specs.SwitchTo.{switch_to, direct_switch_by, try_direct_switch_back}
use Rattle.model.specs.Handover.{settled, next_context, hand_over}
use Rattle.answer.specs.declared.SwitchResult.TheVariants.{Switched, AllContextsIdle}
use Rattle.answer.specs.declared.Rule.{Rule}
use Rattle.answer.specs.Number.{result_number, rule_number}

-- the state of CPU k put back among the CPUs
abbrev pub finish_by : (rule k : ℕ) → List Cpu → ℕ → State → Outcome
finish_by rule k cpus r s =
    record {
      machine = record { contexts = s.contexts; cpus = set cpus k s.cpu };
      result = r;
      interrupt = false;
      rule = rule;
      no_room = s.no_room;
    }

-- where nothing was decided
abbrev pub finish : ℕ → List Cpu → ℕ → State → Outcome
finish k cpus r s = finish_by 0 k cpus r s

-- what `select_next_context` gives: the state, every CPU (this one as it was), who gets the slice (none: the holder keeps it), and by which rule
pub record Selected : Type 0 where
  pub state : State
  pub cpus : List Cpu
  pub next : Option ℕ
  pub rule : Rule

-- what `schedule` gives: the state, every CPU (this one as it was), who was picked (none: AllContextsIdle), and by which rule
pub record Scheduled : Type 0 where
  pub state : State
  pub cpus : List Cpu
  pub picked : Option ℕ
  pub rule : Rule

-- the contexts that the decision keeps locked, the winner aside
abbrev pub locks : State → Choice → List ℕ
locks s w = s.cpu.block.sched_ctxt ∷ w.locked

unfoldable pub picked_as : (time : ℕ) (was_idle : Bool) → Rule → List Cpu → Option ℕ → State → Scheduled
picked_as time was_idle rule cpus None s = record { state = s; cpus = cpus; picked = None; rule = rule }
picked_as time was_idle rule cpus (Some x) s = record { state = hand_over time was_idle x s; cpus = cpus; picked = Some x; rule = rule }

abbrev pub ticked : State → State
ticked s = on_cpu (λ p. cpu_pit_ticks (p.block.pit_ticks + 1) p) s

module _ (k time : ℕ) where
  abbrev pub scanned : State → Scan
  scanned s = scan k time s.cpu (ineligible_holder s) s.contexts s.cpu.queue

  -- the choice and the stealing, where s is the state before the choice
  unfoldable pub choose_and_steal : List Cpu → State → Stealing
  choose_and_steal cpus s =
      let f = scanned s in
      let w = choice s f in
      steal k (prev_runnable s) (locks s w) cpus w.winner (chosen w f s)

  -- after the holder is charged
  unfoldable pub selected : Spent → List Cpu → State → Selected
  selected spent cpus s =
      let l = choose_and_steal cpus s in
      let s' = settled (prev_runnable s) spent.ticks l in
      record {
        state = s';
        cpus = l.cpus;
        next = next_context (prev_runnable s) l.winner s';
        rule = rule_of s (is_some l.winner) (scanned s);
      }

  unfoldable pub select_next_context : Spent → List Cpu → State → Selected
  select_next_context spent cpus s = selected spent cpus (charge_holder spent s)

  unfoldable pub schedule : List Cpu → State → Scheduled
  schedule cpus s =
      let d = select_next_context (spent time s.cpu) cpus (before_selection time s) in
      picked_as time (was_idle s.cpu) d.rule d.cpus d.next d.state

  -- the holder kept the slice: the CPU is marked Idle though the holder may run
  unfoldable pub switch_as : (rule : ℕ) → State → List Cpu → Option ℕ → Outcome
  switch_as rule s cpus None = finish_by rule k cpus (result_number AllContextsIdle) (on_cpu (λ p. cpu_stats (stats_state Idle p.block.stats) p) s)
  switch_as rule s cpus (Some x) = finish_by rule k cpus (result_number Switched) (if eqb s.cpu.block.current_ctxt x then s else switch_to k time x s)

  unfoldable pub after_schedule : Scheduled → Outcome
  after_schedule d = switch_as (rule_number d.rule) d.state d.cpus d.picked

  unfoldable pub switch_inner_by : List Cpu → State → Option State → Outcome
  switch_inner_by cpus s (Some s') = finish k cpus (result_number Switched) s'
  switch_inner_by cpus s None = after_schedule (schedule cpus s)

  unfoldable pub switch_inner : List Cpu → State → Outcome
  switch_inner cpus s = switch_inner_by cpus s (try_direct_switch_back k time s)

  -- a switch is due once its interval is over
  unfoldable pub tick : Machine → Outcome
  tick M =
      let s = ticked (state_of k M) in
      if ltb s.cpu.block.pit_ticks tick_interval then finish k M.cpus 0 s else switch_inner M.cpus s

  unfoldable pub switch : Machine → Outcome
  switch M = switch_inner M.cpus (state_of k M)

  -- x cannot be switched to: the CPU switches as it would by itself
  unfoldable pub direct_switch_or : List Cpu → State → Option State → Outcome
  direct_switch_or cpus s (Some s') = finish k cpus (result_number Switched) s'
  direct_switch_or cpus s None = switch_inner cpus s

  unfoldable pub direct_switch_to : ℕ → Machine → Outcome
  direct_switch_to x M =
      let s = state_of k M in
      if eqb s.cpu.block.current_ctxt x then finish k M.cpus (result_number Switched) s else
      direct_switch_or M.cpus s
      (direct_switch_by k time x s (update_runnable k time (eqb s.cpu.block.sched_ctxt x) false (at s x)))
