-- Operations 1 to 3 with other words where they do not look: contexts outside the set, and other CPUs' queue locks. Assumes nothing.
use Rattle.std.specs.Prelude.{if◌then◌else◌, None, Option, Some}
use mathlib.Core.Path.{◌≡◌, refl, sym, ap, ◌∙◌}
use mathlib.Core.Logic.{◌⊎◌, inl, inr}
use mathlib.Core.Bool.{Bool, true, false}
use mathlib.Core.List.{List}
use Prim.Native.Nat.{ℕ, ◌%◌}
use native.Mathlib.Omega.{arith}
use lib.Dec.{eqb, ltb}
use lib.ListN.{length}
use borrow.Author.Tests.{ne_eqb, eqb-false}
use Rattle.columns.specs.Common.{All}
use Rattle.ticks.specs.Ticks.{tick_interval}
use Rattle.context.specs.declared.Context.{Context}
use Rattle.runnable.specs.Runnable.{update_runnable}
use Rattle.answer.specs.declared.SwitchResult.TheVariants.{Switched}
use Rattle.answer.specs.Number.{result_number}
use Rattle.percpu.specs.Cpu.{Cpu}
use Rattle.machine.specs.Machine.{Machine, cpu_at}
use Rattle.machine.specs.Outcome.{Outcome}
use Rattle.model.specs.State.{State, at, state_of, is_idle}
use Rattle.model.specs.Turn.{before_choice}
use Rattle.model.specs.Choice.{choice}
use Rattle.model.specs.Steal.{should_steal}
use Rattle.model.specs.SwitchTo.{direct_switch_by}
use Rattle.model.specs.Schedule.{finish, finish_by, scanned, ticked, switch_inner, tick, switch, direct_switch_or, direct_switch_to}
use Rattle.model.specs.Accepted.{Call, by_tick, by_switch, by_direct_switch, outcome}
use Rattle.model.proofs.Cases.{by_test}
use Rattle.model_local.specs.Names.{names}
use Rattle.model_local.specs.Local.{with_others, others, Within}
use Rattle.model_local.specs.Apart.{finds_stealing_turn}
use Rattle.model_local.proofs.Others.{branch, at_others}
use Rattle.model_local.proofs.Owned.{Owns}
use Rattle.model_local.proofs.Ending.{direct_moves, G_option}
use Rattle.model_local.proofs.Quiet.{ended, finish_ended, ended_is, ended_moves}
use Rattle.call_order.proofs.Turns.{turn_is}
use Rattle.call_locks.specs.Locks.{Locks, relocked_cpus}
use Rattle.call_locks.proofs.Relocked.{cpus_at, cpus_set, cpus_same}
use Rattle.call_locks.proofs.Stealing.{QueuedWithin}
use Rattle.call_locks.proofs.Deciding.{inner_moves}

-- a counter that allows no stealing without a winner allows none
steals_none : (s : State) (w : Option ℕ) → should_steal s None ≡ false → should_steal s w ≡ false
steals_none s None h = h
steals_none s (Some x) h =
    let n = s.cpu.block.steal_counter in
    by_test (is_idle s) (λ t. rw t (ne_eqb (n % 16) 0 (λ e. eqb-false (n % 2) 0 (rw t at h) (omega (arith, e))))) (λ t. rw t (rw t at h))

no_turn : (k time : ℕ) (s : State) → should_steal s None ≡ false → finds_stealing_turn k time s ≡ false
no_turn k time s h = let b = before_choice time s in turn_is k time s ∙ steals_none s (choice b (scanned k time b)).winner h

-- contexts outside of S as in ds, queue locks of CPUs outside of Q as in l
module _ (S Q : ℕ → Bool) (l : Locks) (ds : List Context) where
  abbrev pub elsewhere : Machine → Machine
  elsewhere M = record { contexts = with_others S ds M.contexts; cpus = relocked_cpus l Q M.cpus }

  abbrev pub outcome_elsewhere : Outcome → Outcome
  outcome_elsewhere o = record { machine = elsewhere o.machine; result = o.result; interrupt = o.interrupt; rule = o.rule; no_room = o.no_room }

-- either the counter allows no stealing, or what is queued anywhere is of the set and every CPU is of Q
abbrev pub Stealable : (S Q : ℕ → Bool) (n k : ℕ) → Machine → Type 0
Stealable S Q n k M = (should_steal (state_of k M) None ≡ false) ⊎ (((j : ℕ) → Q j ≡ true) × All (QueuedWithin S n) M.cpus)

-- the context that a direct switch is to
abbrev pub Target : (ℕ → Bool) → Call → Type 0
Target S by_tick = Unit {0}
Target S by_switch = Unit {0}
Target S (by_direct_switch x) = S x ≡ true

module _ (S Q : ℕ → Bool) (l : Locks) (ds : List Context) (k time : ℕ) (M : Machine) (w : Within S (names (cpu_at M k))) (here : Q k ≡ true)
    (v : Stealable S Q (length M.contexts) k M) where
  abbrev G : State → State
  G = others S ds

  abbrev P : List Cpu → List Cpu
  P = relocked_cpus l Q

  abbrev R : Outcome → Outcome
  R = outcome_elsewhere S Q l ds

  abbrev n : ℕ
  n = length M.contexts

  abbrev s : State
  s = state_of k M

  owns : Owns S n s
  owns = record { within = w; count = refl }

  state_is : state_of k (elsewhere S Q l ds M) ≡ G s
  unfolding cpu_at
  state_is = λ j. record { contexts = with_others S ds M.contexts; cpu = cpus_at l Q M.cpus k here j; no_room = false }

  finish_moves : (rule r : ℕ) (cpus : List Cpu) (u : State) → finish_by rule k (P cpus) r (G u) ≡ R (finish_by rule k cpus r u)
  finish_moves rule r cpus u =
      λ j. record { machine = record { contexts = with_others S ds u.contexts; cpus = cpus_set l Q cpus k u.cpu here j }; result = r; interrupt = false; rule = rule; no_room = u.no_room }

  -- u: a state whose counter allows what that of s does
  inner : (u : State) → should_steal u None ≡ should_steal s None → Owns S n u → switch_inner k time (P M.cpus) (G u) ≡ R (switch_inner k time M.cpus u)
  inner u c o = by v
    where
      by : Stealable S Q n k M → switch_inner k time (P M.cpus) (G u) ≡ R (switch_inner k time M.cpus u)
      by (inl h) =
          let g : should_steal u None ≡ false = c ∙ h in
          let e = ended k time u in
          ended_is k time (P M.cpus) (G u) (λ z. no_turn k time (G u) g)
          ∙ ap (finish_ended k (P M.cpus)) (ended_moves S n ds k time u o)
          ∙ finish_moves e.rule e.result M.cpus e.state
          ∙ ap R (sym (ended_is k time M.cpus u (λ z. no_turn k time u g)))
      by (inr (a, q)) =
          let x = switch_inner k time M.cpus u in
          ap (λ (ps : List Cpu). switch_inner k time ps (G u)) (cpus_same l Q a M.cpus)
          ∙ inner_moves S n ds k time M.cpus q u o
          ∙ (λ j. record {
            machine = record { contexts = with_others S ds x.machine.contexts; cpus = sym (cpus_same l Q a x.machine.cpus) j };
            result = x.result;
            interrupt = x.interrupt;
            rule = x.rule;
            no_room = x.no_room;
          })

  or_moves : (o : Option State) → direct_switch_or k time (P M.cpus) (G s) (G_option S n ds o) ≡ R (direct_switch_or k time M.cpus s o)
  unfolding direct_switch_or
  or_moves None = inner s refl owns
  or_moves (Some u) = finish_moves 0 (result_number Switched) M.cpus u

  pub outcome_moves : (c : Call) → Target S c → outcome c k time (elsewhere S Q l ds M) ≡ R (outcome c k time M)
  unfolding tick switch direct_switch_to
  outcome_moves by_tick t =
      ap (λ (u : State). if ltb (ticked u).cpu.block.pit_ticks tick_interval then finish k (P M.cpus) 0 (ticked u) else switch_inner k time (P M.cpus) (ticked u)) state_is
      ∙ branch R (ltb (ticked s).cpu.block.pit_ticks tick_interval) (finish_moves 0 0 M.cpus (ticked s)) (inner (ticked s) refl owns)
  outcome_moves by_switch t = ap (switch_inner k time (P M.cpus)) state_is ∙ inner s refl owns
  outcome_moves (by_direct_switch x) t =
      let back = eqb s.cpu.block.sched_ctxt x in
      ap
      (λ (u : State). if eqb u.cpu.block.current_ctxt x then finish k (P M.cpus) (result_number Switched) u else
      direct_switch_or k time (P M.cpus) u (direct_switch_by k time x u (update_runnable k time (eqb u.cpu.block.sched_ctxt x) false (at u x))))
      state_is
      ∙ branch R (eqb s.cpu.block.current_ctxt x) (finish_moves 0 (result_number Switched) M.cpus s)
      (ap (λ (c : Context). direct_switch_or k time (P M.cpus) (G s) (direct_switch_by k time x (G s) (update_runnable k time back false c))) (at_others S ds s x t)
      ∙ ap (direct_switch_or k time (P M.cpus) (G s)) (direct_moves S n ds k time x s t owns (update_runnable k time back false (at s x)))
      ∙ or_moves (direct_switch_by k time x s (update_runnable k time back false (at s x))))
