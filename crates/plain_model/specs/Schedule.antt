-- The plain decision, and the calls that decide: `tick`, `switch` and `direct_switch_to`. Assumes nothing.
use Rattle.std.specs.Prelude.{false, List, ◌∷◌, ℕ, ltb, eqb, if◌then◌else◌, None, Option, Some, is_some}
use Rattle.ticks.specs.declared.Spent.{Spent}
use Rattle.ticks.specs.Ticks.{tick_interval}
use Rattle.runnable.specs.Runnable.{update_runnable}
use Rattle.percpu.specs.Cpu.{Cpu}
use Rattle.machine.specs.Machine.{Machine}
use Rattle.machine.specs.Outcome.{Outcome}
use Rattle.answer.specs.declared.SwitchResult.TheVariants.{Switched}
use Rattle.answer.specs.Number.{result_number}
use Rattle.model.specs.State.{State, at, state_of, prev_runnable}
use Rattle.model.specs.Turn.{spent, was_idle}
use Rattle.model.specs.Scan.{Scan}
use Rattle.model.specs.Choice.{ineligible_holder}
use Rattle.model.specs.Steal.{Stealing}
use Rattle.model.specs.Handover.{next_context}
use Rattle.model.specs.SwitchTo.{direct_switch_by, try_direct_switch_back}
use Rattle.model.specs.Schedule.{Selected, Scheduled, finish, picked_as, ticked, after_schedule}
use Rattle.model.specs.Accepted.{Call, by_tick, by_switch, by_direct_switch}
use Rattle.plain_model.specs.State.{placed_outcome}
use Rattle.plain_model.specs.Turn.{before_choice}
use Rattle.plain_model.specs.Scan.{scan}
use Rattle.plain_model.specs.Choice.{Choice, choice, chosen, rule_after}
use Rattle.plain_model.specs.Steal.{steal}
use Rattle.plain_model.specs.Handover.{settled}

module _ (k time : ℕ) where
  -- s: the state before the choice
  abbrev pub scanned : State → Scan
  scanned s = scan k time s.cpu (ineligible_holder s) s.contexts s.cpu.queue

  abbrev pub choice_of : State → Choice
  choice_of s = choice s (scanned s)

  unfoldable pub choose_and_steal : List Cpu → State → Stealing
  choose_and_steal cpus s =
      let w = choice_of s in
      steal k (prev_runnable s) (s.cpu.block.sched_ctxt ∷ w.locked) cpus w.winner (chosen w (scanned s) s)

  unfoldable pub selected : Spent → List Cpu → State → Selected
  selected spent cpus s =
      let l = choose_and_steal cpus s in
      let s' = settled (prev_runnable s) spent.ticks l in
      record {
        state = s';
        cpus = l.cpus;
        next = next_context (prev_runnable s) l.winner s';
        rule = rule_after (is_some l.winner) (choice_of s).rule;
      }

  unfoldable pub schedule : List Cpu → State → Scheduled
  schedule cpus s =
      let d = selected (spent time s.cpu) cpus (before_choice time s) in
      picked_as time (was_idle s.cpu) d.rule d.cpus d.next d.state

  -- back to the context in charge, where that can be; else a decision
  unfoldable pub switch_inner_by : List Cpu → State → Option State → Outcome
  switch_inner_by cpus s (Some s') = finish k cpus (result_number Switched) s'
  switch_inner_by cpus s None = after_schedule k time (schedule cpus s)

  unfoldable pub switch_inner : List Cpu → State → Outcome
  switch_inner cpus s = switch_inner_by cpus s (try_direct_switch_back k time s)

  unfoldable pub tick : Machine → Outcome
  tick M =
      let s = ticked (state_of k M) in
      if ltb s.cpu.block.pit_ticks tick_interval then finish k M.cpus 0 s else switch_inner M.cpus s

  unfoldable pub switch : Machine → Outcome
  switch M = switch_inner M.cpus (state_of k M)

  unfoldable pub direct_switch_or : List Cpu → State → Option State → Outcome
  direct_switch_or cpus s (Some s') = finish k cpus (result_number Switched) s'
  direct_switch_or cpus s None = switch_inner cpus s

  unfoldable pub direct_switch_to : ℕ → Machine → Outcome
  direct_switch_to x M =
      let s = state_of k M in
      if eqb s.cpu.block.current_ctxt x then finish k M.cpus (result_number Switched) s else
      direct_switch_or M.cpus s
      (direct_switch_by k time x s (update_runnable k time (eqb s.cpu.block.sched_ctxt x) false (at s x)))

-- operations 1 to 3; at the end every list of every CPU is placed
abbrev pub outcome_before : Call → (k time : ℕ) → Machine → Outcome
outcome_before by_tick k time M = tick k time M
outcome_before by_switch k time M = switch k time M
outcome_before (by_direct_switch x) k time M = direct_switch_to k time x M

unfoldable pub plain_outcome : Call → (k time : ℕ) → Machine → Outcome
plain_outcome call k time M = placed_outcome (outcome_before call k time M)
