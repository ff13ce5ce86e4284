-- A switch that is not on a stealing turn, as a function of its CPU's state alone. Assumes nothing.
use Rattle.std.specs.Prelude.{if◌then◌else◌, None, Option, Some, is_some}
use mathlib.Core.Path.{◌≡◌, refl, ap, ◌∙◌}
use mathlib.Core.Bool.{Bool, false}
use mathlib.Core.List.{List, []}
use Prim.Native.Nat.{ℕ}
use lib.Dec.{eqb}
use Rattle.cpu_stats.specs.declared.CpuState.TheVariants.{Idle}
use Rattle.cpu_stats.specs.With.{stats_state}
use Rattle.ticks.specs.declared.Spent.{Spent}
use Rattle.context.specs.declared.Context.{Context}
use Rattle.answer.specs.declared.Rule.{Rule}
use Rattle.answer.specs.declared.SwitchResult.TheVariants.{Switched, AllContextsIdle}
use Rattle.answer.specs.Number.{result_number, rule_number}
use Rattle.percpu.specs.Cpu.{Cpu}
use Rattle.percpu.specs.With.{cpu_stats}
use Rattle.model.specs.State.{State, on_cpu, prev_runnable}
use Rattle.model.specs.Turn.{spent, was_idle, charge_holder, before_selection, before_choice}
use Rattle.model.specs.Choice.{choice, chosen}
use Rattle.model.specs.Rule.{rule_of}
use Rattle.model.specs.Steal.{Stealing, should_steal, count_steal, steal}
use Rattle.model.specs.Handover.{settled, next_context, hand_over}
use Rattle.model.specs.SwitchTo.{switch_to, try_direct_switch_back}
use Rattle.model.specs.Schedule.{Outcome, finish_by, scanned, picked_as, choose_and_steal, selected, select_next_context, schedule, switch_as, after_schedule, switch_inner_by, switch_inner}
use Rattle.model.proofs.Cases.{pick}
use Rattle.model_local.specs.Local.{others}
use Rattle.model_local.specs.Apart.{finds_stealing_turn}
use Rattle.model_local.proofs.Others.{branch}
use Rattle.model_local.proofs.Owned.{Owns}
use Rattle.model_local.proofs.Charging.{runs_same, choice_owns, choice_moves}
use Rattle.model_local.proofs.Choosing.{Won, scanned_owns, choice_won, chosen_owns, scanned_moves, choice_same, rule_same, chosen_moves}
use Rattle.model_local.proofs.Ending.{settled_owns, next_won, hand_owns, switch_owns, settled_moves, next_same, hand_moves, switch_moves, G_option, stealing_others, back_moves, OwnsOption, back_owns}

-- how a switch ends
pub record Ended : Type 0 where
  pub state : State
  pub result : ℕ
  pub rule : ℕ

abbrev pub finish_ended : (k : ℕ) → List Cpu → Ended → Outcome
finish_ended k cpus e = finish_by e.rule k cpus e.result e.state

module _ (k time : ℕ) where
  -- b: the state before the choice
  abbrev pub unstolen : List Cpu → State → Stealing
  unstolen cpus b =
      let f = scanned k time b in
      let w = choice b f in
      record { state = on_cpu count_steal (chosen w f b); cpus = cpus; winner = w.winner; done = false }

  unfoldable pub given : (was_idle : Bool) (rule : Rule) → Option ℕ → State → Ended
  given was rule None s = record { state = on_cpu (λ p. cpu_stats (stats_state Idle p.block.stats) p) s; result = result_number AllContextsIdle; rule = rule_number rule }
  given was rule (Some x) s =
      let s' = hand_over time was x s in
      record { state = if eqb s'.cpu.block.current_ctxt x then s' else switch_to k time x s'; result = result_number Switched; rule = rule_number rule }

  unfoldable pub decided : (was_idle : Bool) → Spent → State → Ended
  decided was n b =
      let l = unstolen [] b in
      let s' = settled (prev_runnable b) n.ticks l in
      given was (rule_of b (is_some l.winner) (scanned k time b)) (next_context (prev_runnable b) l.winner s') s'

  unfoldable pub ended_by : State → Option State → Ended
  ended_by s (Some s') = record { state = s'; result = result_number Switched; rule = 0 }
  ended_by s None = decided (was_idle s.cpu) (spent time s.cpu) (before_choice time s)

  unfoldable pub ended : State → Ended
  ended s = ended_by s (try_direct_switch_back k time s)

  -- it is the switch where nothing is stolen
  unstolen_is : (cpus : List Cpu) (b : State) → should_steal (chosen (choice b (scanned k time b)) (scanned k time b) b) (choice b (scanned k time b)).winner ≡ false
      → choose_and_steal k time cpus b ≡ unstolen cpus b
  unfolding choose_and_steal steal
  unstolen_is cpus b t = rw t

  pub given_is : (was : Bool) (rule : Rule) (cpus : List Cpu) (o : Option ℕ) (s : State) → after_schedule k time (picked_as time was rule cpus o s) ≡ finish_ended k cpus (given was rule o s)
  unfolding after_schedule picked_as switch_as given
  given_is was rule cpus None s = refl
  given_is was rule cpus (Some x) s = refl

  decided_is : (cpus : List Cpu) (s : State) → finds_stealing_turn k time s ≡ false
      → after_schedule k time (schedule k time cpus s) ≡ finish_ended k cpus (decided (was_idle s.cpu) (spent time s.cpu) (before_choice time s))
  unfolding schedule select_next_context selected before_choice settled decided finds_stealing_turn
  decided_is cpus s t =
      let n = spent time s.cpu in
      let b = charge_holder n (before_selection time s) in
      let runs = prev_runnable b in
      ap (λ (l : Stealing). after_schedule k time (picked_as time (was_idle s.cpu) (rule_of b (is_some l.winner) (scanned k time b)) l.cpus (next_context runs l.winner (settled runs n.ticks l)) (settled runs n.ticks l)))
      (unstolen_is cpus b t)
      ∙ given_is (was_idle s.cpu) _ cpus _ _

  by_is : (cpus : List Cpu) (s : State) (o : Option State) → (o ≡ None → finds_stealing_turn k time s ≡ false) → switch_inner_by k time cpus s o ≡ finish_ended k cpus (ended_by s o)
  unfolding switch_inner_by ended_by
  by_is cpus s None f = decided_is cpus s (f refl)
  by_is cpus s (Some s') f = refl

  pub ended_is : (cpus : List Cpu) (s : State) → (try_direct_switch_back k time s ≡ None → finds_stealing_turn k time s ≡ false) → switch_inner k time cpus s ≡ finish_ended k cpus (ended s)
  unfolding switch_inner ended
  ended_is cpus s f = by_is cpus s (try_direct_switch_back k time s) f

-- what a switch reads and writes is of the set
module _ (S : ℕ → Bool) (n : ℕ) (k time : ℕ) where
  unstolen_owns : (cpus : List Cpu) (b : State) → Owns S n b → Owns S n (unstolen k time cpus b).state
  unstolen_owns cpus b o = chosen_owns S n k time (choice b (scanned k time b)) (scanned k time b) b (scanned_owns S n k time b o) o

  pub unstolen_won : (b : State) → Owns S n b → Won S (choice b (scanned k time b)).winner
  unstolen_won b o = choice_won S n k time b (scanned k time b) (scanned_owns S n k time b o)

  pub given_owns : (was : Bool) (rule : Rule) (w : Option ℕ) (s : State) → Won S w → Owns S n s → Owns S n (given k time was rule w s).state
  unfolding given
  given_owns was rule None s t o = o
  given_owns was rule (Some x) s t o =
      let s' = hand_over time was x s in
      let h : Owns S n s' = hand_owns S n time was x s t o in
      pick (Owns S n) (eqb s'.cpu.block.current_ctxt x) (λ y. h) (λ y. switch_owns S n k time x s' t h)

  decided_owns : (was : Bool) (m : Spent) (b : State) → Owns S n b → Owns S n (decided k time was m b).state
  unfolding decided
  decided_owns was m b o =
      let l = unstolen k time [] b in
      let h : Owns S n (settled (prev_runnable b) m.ticks l) = settled_owns S n (prev_runnable b) m.ticks l (unstolen_owns [] b o) in
      given_owns was _ _ _ (next_won S n (prev_runnable b) l.winner (settled (prev_runnable b) m.ticks l) (unstolen_won b o) h) h

  by_owns : (s : State) (w : Option State) → Owns S n s → OwnsOption S n w → Owns S n (ended_by k time s w).state
  unfolding ended_by
  by_owns s None o h = decided_owns (was_idle s.cpu) (spent time s.cpu) (before_choice time s) (choice_owns S n time s o)
  by_owns s (Some s') o h = h

  pub ended_owns : (s : State) → Owns S n s → Owns S n (ended k time s).state
  unfolding ended
  ended_owns s o = by_owns s (try_direct_switch_back k time s) o (back_owns S n k time s o)

module _ (S : ℕ → Bool) (n : ℕ) (ds : List Context) (k time : ℕ) where
  abbrev G : State → State
  G = others S ds

  abbrev pub ended_others : Ended → Ended
  ended_others e = record { state = G e.state; result = e.result; rule = e.rule }

  pub choice_is : (b : State) → Owns S n b → choice (G b) (scanned k time (G b)) ≡ choice b (scanned k time b)
  choice_is b o = ap (choice (G b)) (scanned_moves S n ds k time b o) ∙ choice_same S n ds b (scanned k time b) o (scanned_owns S n k time b o)

  pub chosen_is : (b : State) → Owns S n b → chosen (choice (G b) (scanned k time (G b))) (scanned k time (G b)) (G b) ≡ G (chosen (choice b (scanned k time b)) (scanned k time b) b)
  chosen_is b o =
      (λ j. chosen (choice_is b o j) (scanned_moves S n ds k time b o j) (G b)) ∙ chosen_moves S n ds (choice b (scanned k time b)) (scanned k time b) b (unstolen_won S n k time b o)

  unstolen_moves : (cpus : List Cpu) (b : State) → Owns S n b → unstolen k time cpus (G b) ≡ stealing_others S n ds (unstolen k time cpus b)
  unstolen_moves cpus b o = λ j. record { state = on_cpu count_steal (chosen_is b o j); cpus = cpus; winner = (choice_is b o j).winner; done = false }

  pub given_moves : (was : Bool) (rule : Rule) (w : Option ℕ) (s : State) → Won S w → Owns S n s → given k time was rule w (G s) ≡ ended_others (given k time was rule w s)
  unfolding given
  given_moves was rule None s t o = refl
  given_moves was rule (Some x) s t o =
      let s' = hand_over time was x s in
      let h : Owns S n s' = hand_owns S n time was x s t o in
      ap (λ (u : State). record { state = if eqb u.cpu.block.current_ctxt x then u else switch_to k time x u; result = result_number Switched; rule = rule_number rule })
      (hand_moves S n ds time was x s t o)
      ∙ ap (λ (u : State). record { state = u; result = result_number Switched; rule = rule_number rule })
      (branch G (eqb s'.cpu.block.current_ctxt x) {x = s'} {y = switch_to k time x s'} refl (switch_moves S n ds k time x s' t h))

  decided_moves : (was : Bool) (m : Spent) (b : State) → Owns S n b → decided k time was m (G b) ≡ ended_others (decided k time was m b)
  unfolding decided
  decided_moves was m b o =
      let runs = prev_runnable b in
      let l = unstolen k time [] b in
      let f = scanned k time b in
      let s' = settled runs m.ticks l in
      let h : Owns S n s' = settled_owns S n runs m.ticks l (unstolen_owns S n k time [] b o) in
      let e : settled runs m.ticks (stealing_others S n ds l) ≡ G s' = settled_moves S n ds runs m.ticks l (unstolen_owns S n k time [] b o) in
      (λ j.
      let u : State = settled (runs_same S n ds b o j) m.ticks (unstolen_moves [] b o j) in
      given k time was (rule_of (G b) (is_some (unstolen_moves [] b o j).winner) (scanned_moves S n ds k time b o j)) (next_context (runs_same S n ds b o j) (unstolen_moves [] b o j).winner u) u)
      ∙ (λ j. given k time was (rule_same S n ds b f o (scanned_owns S n k time b o) (is_some l.winner) j) (next_context runs l.winner (e j)) (e j))
      ∙ ap (λ (w : Option ℕ). given k time was (rule_of b (is_some l.winner) f) w (G s')) (next_same S n ds runs l.winner s')
      ∙ given_moves was (rule_of b (is_some l.winner) f) (next_context runs l.winner s') s' (next_won S n runs l.winner s' (unstolen_won S n k time b o) h) h

  by_moves : (s : State) (w : Option State) → Owns S n s → ended_by k time (G s) (G_option S n ds w) ≡ ended_others (ended_by k time s w)
  unfolding ended_by
  by_moves s None o =
      ap (decided k time (was_idle s.cpu) (spent time s.cpu)) (choice_moves S n ds time s o)
      ∙ decided_moves (was_idle s.cpu) (spent time s.cpu) (before_choice time s) (choice_owns S n time s o)
  by_moves s (Some s') o = refl

  pub ended_moves : (s : State) → Owns S n s → ended k time (G s) ≡ ended_others (ended k time s)
  unfolding ended
  ended_moves s o = ap (ended_by k time (G s)) (back_moves S n ds k time s o) ∙ by_moves s (try_direct_switch_back k time s) o

  -- the stealing turn is the same
  pub turn_same : (s : State) → Owns S n s → finds_stealing_turn k time (G s) ≡ finds_stealing_turn k time s
  unfolding finds_stealing_turn
  turn_same s o =
      let c = choice_owns S n time s o in
      let b = before_choice time s in
      ap (λ (u : State). should_steal (chosen (choice u (scanned k time u)) (scanned k time u) u) (choice u (scanned k time u)).winner) (choice_moves S n ds time s o)
      ∙ (λ j. should_steal (chosen_is b c j) (choice_is b c j).winner)
