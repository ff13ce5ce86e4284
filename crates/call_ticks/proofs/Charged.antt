-- The ticks that are summed are those that the holder was charged for and V gained by. Assumes nothing.
use mathlib.Core.Path.{◌≡◌, refl, sym, ap, ◌∙◌, subst}
use mathlib.Core.Bool.{true}
use mathlib.Core.List.{List}
use Prim.Native.Nat.{ℕ}
use borrow.Author.Tests.{eq-eqb}
use Rattle.ticks.specs.declared.Spent.{Spent}
use Rattle.answer.specs.declared.Answer.{Answer}
use Rattle.machine.specs.Machine.{Machine, cpu_at}
use Rattle.machine.specs.Encode.{decode}
use Rattle.model.specs.Turn.{spent}
use Rattle.model.specs.Accepted.{Call, by_tick, by_switch, by_direct_switch, outcome, decides}
use Rattle.model_ticks.specs.Turns.{decision_by, turn_ended}
use Rattle.model_ticks.proofs.Conserved.{charged_by_turn}
use Rattle.context_ops.specs.Reply.{Reply, reply}
use Rattle.calls.specs.Call.{call}
use Rattle.ronthuyal.specs.Demand.{StandsFor}
use Rattle.call_weights.specs.Kept.{operation_call}
use Rattle.call_weights.proofs.Came.{Came}
use Rattle.call_weights.proofs.Runs as calls
use Rattle.call_ticks.specs.Sums.{turn_by, turn_of_call, TurnCharged}

by_number : (k : ℕ) (M : Machine) (operation cpu time context : ℕ) (c : Call) → StandsFor operation context c → turn_by k M operation cpu time context ≡ turn_ended k M c cpu time
unfolding turn_by
by_number k M operation cpu time context by_tick s = rw s
by_number k M operation cpu time context by_switch s = rw s
by_number k M operation cpu time context (by_direct_switch x) s = rw (s.0, s.1)

module _ (a : Answer) (m m' : List ℕ) (operation cpu time context : ℕ) (e : reply a m' ≡ call m operation cpu time context) (c : Call) (s : StandsFor operation context c) (z : a.refusal ≡ 0) where
  abbrev M : Machine
  M = decode m

  abbrev turn : Spent
  turn = turn_of_call cpu m (operation_call operation cpu time context)

  came : (d : Call) → StandsFor operation context d → Came m m' cpu time (outcome d cpu time M).machine
  unfolding call
  came by_tick w = calls.ticks a m m' cpu time context z (rw w at e)
  came by_switch w = calls.switches a m m' cpu time context z (rw w at e)
  came (by_direct_switch x) w =
      subst (λ (y : ℕ). Came m m' cpu time (outcome (by_direct_switch y) cpu time M).machine) (sym w.1) (calls.direct_switches a m m' cpu time context z (rw w.0 at e))

  turn_spends : decides cpu time M c ≡ true → turn ≡ spent time (cpu_at M cpu)
  unfolding turn_of_call
  turn_spends t =
      let y : (call m operation cpu time context).answer.refusal ≡ 0 = ap (λ (u : Reply). u.answer.refusal) (sym e) ∙ z in
      rw (eq-eqb _ 0 y) (by_number cpu M operation cpu time context c s ∙ rw (eq-eqb cpu cpu refl, t))

  turn_charges : decides cpu time M c ≡ true → decode m' ≡ (decision_by turn cpu time M).machine
  turn_charges t = (came c s).is ∙ ap (λ (o : _). o.machine) (charged_by_turn cpu time M c t) ∙ ap (λ (n : Spent). (decision_by n cpu time M).machine) (sym (turn_spends t))

-- of every image, operation, CPU, time and context
pub turn_charged : {a : Answer} {m' : List ℕ} (m : List ℕ) (operation cpu time context : ℕ) → reply a m' ≡ call m operation cpu time context
    → TurnCharged m m' operation cpu time context a.refusal (turn_of_call cpu m (operation_call operation cpu time context))
turn_charged {a} {m'} m operation cpu time context e =
    record {
      spends = λ c s z t. turn_spends a m m' operation cpu time context e c s z t;
      charges = λ c s z t. turn_charges a m m' operation cpu time context e c s z t;
    }
