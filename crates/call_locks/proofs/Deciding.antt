-- A switch, on a stealing turn or not, stays with the contexts that its CPU names and those that are queued on any CPU. Assumes nothing.
use Rattle.std.specs.Prelude.{None, Option, Some, is_some}
use mathlib.Core.Path.{◌≡◌, refl, sym, ap, ◌∙◌}
use mathlib.Core.Bool.{Bool}
use mathlib.Core.List.{List}
use Prim.Native.Nat.{ℕ}
use Rattle.columns.specs.Common.{All}
use Rattle.answer.specs.declared.Rule.{Rule}
use Rattle.context.specs.declared.Context.{Context}
use Rattle.percpu.specs.Cpu.{Cpu}
use Rattle.machine.specs.Outcome.{Outcome}
use Rattle.model.specs.State.{State, prev_runnable}
use Rattle.model.specs.Turn.{spent, was_idle, before_choice}
use Rattle.model.specs.Choice.{choice, chosen}
use Rattle.model.specs.Rule.{rule_of}
use Rattle.model.specs.Steal.{Stealing, steal}
use Rattle.model.specs.Handover.{settled, next_context}
use Rattle.model.specs.SwitchTo.{try_direct_switch_back}
use Rattle.model.specs.Schedule.{scanned, locks, choose_and_steal, selected, select_next_context, schedule, after_schedule, switch_inner_by, switch_inner}
use Rattle.model_local.specs.Local.{with_others, others}
use Rattle.model_local.proofs.Owned.{Owns}
use Rattle.model_local.proofs.Charging.{runs_same, choice_owns, choice_moves}
use Rattle.model_local.proofs.Choosing.{scanned_owns, chosen_owns, scanned_moves, rule_same}
use Rattle.model_local.proofs.Ending.{settled_owns, settled_moves, next_won, next_same, stealing_others, back_moves, G_option}
use Rattle.model_local.proofs.Quiet.{finish_ended, given, given_is, given_moves, unstolen_won, choice_is, chosen_is}
use Rattle.call_locks.proofs.Stealing.{QueuedWithin, StealOwns, steal_owns, steal_moves}

-- what follows on stealing
abbrev ends : (k time : ℕ) (was runs : Bool) (ticks : ℕ) → Rule → Stealing → Outcome
ends k time was runs ticks rule l =
    finish_ended k l.cpus (given k time was rule (next_context runs l.winner (settled runs ticks l)) (settled runs ticks l))

module _ (k time : ℕ) (cpus : List Cpu) where
  -- b: the state before the choice
  abbrev ends_from : (was : Bool) (ticks : ℕ) → State → Outcome
  ends_from was ticks b =
      let l = choose_and_steal k time cpus b in
      ends k time was (prev_runnable b) ticks (rule_of b (is_some l.winner) (scanned k time b)) l

  schedule_is : (s : State) → after_schedule k time (schedule k time cpus s) ≡ ends_from (was_idle s.cpu) (spent time s.cpu).ticks (before_choice time s)
  unfolding schedule select_next_context selected before_choice
  schedule_is s = given_is k time (was_idle s.cpu) _ _ _ _

module _ (S : ℕ → Bool) (n : ℕ) (ds : List Context) (k time : ℕ) where
  abbrev G : State → State
  G = others S ds

  -- other contexts outside the set
  abbrev pub outcome_others : Outcome → Outcome
  outcome_others o =
      record {
        machine = record { contexts = with_others S ds o.machine.contexts; cpus = o.machine.cpus };
        result = o.result;
        interrupt = o.interrupt;
        rule = o.rule;
        no_room = o.no_room;
      }

  module _ (cpus : List Cpu) (q : All (QueuedWithin S n) cpus) where
    steals_own : (b : State) → Owns S n b → StealOwns S n (choose_and_steal k time cpus b)
    unfolding choose_and_steal
    steals_own b o =
        let f = scanned k time b in
        let w = choice b f in
        steal_owns S n (prev_runnable b) k (locks b w) cpus w.winner (chosen w f b) (chosen_owns S n k time w f b (scanned_owns S n k time b o) o) q (unstolen_won S n k time b o)

    steals_move : (b : State) → Owns S n b → choose_and_steal k time cpus (G b) ≡ stealing_others S n ds (choose_and_steal k time cpus b)
    unfolding choose_and_steal
    steals_move b o =
        let f = scanned k time b in
        let w = choice b f in
        (λ j. steal k (runs_same S n ds b o j) (locks b (choice_is S n ds k time b o j)) cpus (choice_is S n ds k time b o j).winner (chosen_is S n ds k time b o j))
        ∙ steal_moves S n ds (prev_runnable b) k (locks b w) cpus w.winner (chosen w f b) (chosen_owns S n k time w f b (scanned_owns S n k time b o) o) q (unstolen_won S n k time b o)

    ends_move : (was runs : Bool) (ticks : ℕ) (rule : Rule) (l : Stealing) → StealOwns S n l
        → ends k time was runs ticks rule (stealing_others S n ds l) ≡ outcome_others (ends k time was runs ticks rule l)
    ends_move was runs ticks rule l o =
        let s' = settled runs ticks l in
        let e : settled runs ticks (stealing_others S n ds l) ≡ G s' = settled_moves S n ds runs ticks l o.state in
        let h : Owns S n s' = settled_owns S n runs ticks l o.state in
        (λ j. finish_ended k l.cpus (given k time was rule (next_context runs l.winner (e j)) (e j)))
        ∙ ap (λ (w : Option ℕ). finish_ended k l.cpus (given k time was rule w (G s'))) (next_same S n ds runs l.winner s')
        ∙ ap (finish_ended k l.cpus) (given_moves S n ds k time was rule (next_context runs l.winner s') s' (next_won S n runs l.winner s' o.winner h) h)

    decision_moves : (s : State) → Owns S n s → after_schedule k time (schedule k time cpus (G s)) ≡ outcome_others (after_schedule k time (schedule k time cpus s))
    decision_moves s o =
        let was = was_idle s.cpu in
        let ticks = (spent time s.cpu).ticks in
        let b = before_choice time s in
        let c = choice_owns S n time s o in
        let l = choose_and_steal k time cpus b in
        schedule_is k time cpus (G s)
        ∙ ap (ends_from k time cpus was ticks) (choice_moves S n ds time s o)
        ∙ (λ j. ends k time was (runs_same S n ds b c j) ticks (rule_of (G b) (is_some (steals_move b c j).winner) (scanned_moves S n ds k time b c j)) (steals_move b c j))
        ∙ ap (λ (r : Rule). ends k time was (prev_runnable b) ticks r (stealing_others S n ds l)) (rule_same S n ds b (scanned k time b) c (scanned_owns S n k time b c) (is_some l.winner))
        ∙ ends_move was (prev_runnable b) ticks (rule_of b (is_some l.winner) (scanned k time b)) l (steals_own b c)
        ∙ ap outcome_others (sym (schedule_is k time cpus s))

    by_moves : (s : State) → Owns S n s → (w : Option State) → switch_inner_by k time cpus (G s) (G_option S n ds w) ≡ outcome_others (switch_inner_by k time cpus s w)
    unfolding switch_inner_by
    by_moves s o None = decision_moves s o
    by_moves s o (Some s') = refl

    pub inner_moves : (s : State) → Owns S n s → switch_inner k time cpus (G s) ≡ outcome_others (switch_inner k time cpus s)
    unfolding switch_inner
    inner_moves s o = ap (switch_inner_by k time cpus (G s)) (back_moves S n ds k time s o) ∙ by_moves s o (try_direct_switch_back k time s)
